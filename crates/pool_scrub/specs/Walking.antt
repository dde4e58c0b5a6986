-- The blocks that a group of a pool leads to, found over the disks of the pool.
use Rattle.std.specs.Prelude.{ℕ, ◌≡◌, ◌⊎◌, List, []}
use Rattle.block_pointer.specs.declared.block.Block.{Block}
use Rattle.block_store.specs.Blocks.{AreDistinct, Contents}
use Rattle.block_store.specs.Opened.{MayBeOpened}
use Rattle.block_store.specs.Store.{Store}
use Rattle.block_store.specs.declared.refusal.Refusal.{Refusal as Cause}
use Rattle.block_store.specs.declared.refusal.Refusal.TheVariants as cause
use Rattle.dataset_snapshots.specs.Pools.{SpellsPool}
use Rattle.dataset_snapshots.specs.Reach.{IsReachRefused, reach_of}
use Rattle.model_disk.specs.Joint.{Disks}
use Rattle.pool_model.specs.Pools.{PlainPool}
use Rattle.pool_open.specs.Held.{HoldOver, IsStoreOver, TellOver}
use Rattle.raidz_io.specs.Reads.{OnlyReads}
use Rattle.pool_open.specs.declared.refusal.Refusal.{Refusal}
use Rattle.pool_open.specs.declared.refusal.Refusal.TheVariants.{NoMemory, DiskFault, NoSpace, BadPointer, BadDigest, BadConfig}
use Rattle.pool_scrub.specs.declared.walking.PoolLayout.{PoolLayout}

-- the number that a refusal of a store has
abbrev pub of_store : Cause → Refusal
of_store cause.NoMemory = NoMemory
of_store cause.DiskFault = DiskFault
of_store cause.NoSpace = NoSpace
of_store cause.BadPointer = BadPointer
of_store cause.BadDigest = BadDigest
of_store cause.BadConfig = BadConfig

-- The blocks are those that the root leads to, each once, by reads of disks that aren't out: all of a pool that such a store may read, where what was read
-- tells them.
pub record IsWalkedOver (old : Disks) (layout : PoolLayout) (root : Block) (group : ℕ) (blocks : List Block) (new : Disks) : Type 0 where
  pub may : MayBeOpened old.starts layout.shapes.items layout.out.items
  pub reads : OnlyReads old new
  pub once : AreDistinct blocks
  pub reach : (stored : Contents) (pool : PlainPool) → HoldOver old layout.shapes.items layout.out.items layout.stale.items stored
      → (is : SpellsPool stored group root pool) → TellOver old new layout.shapes.items layout.out.items layout.stale.items → blocks ≡ reach_of is

-- the walk over such a store was refused, whatever may be read of the disks
pub record IsWalkRefused (old : Disks) (layout : PoolLayout) (root : Block) (group : ℕ) (cause : Cause) (new : Disks) : Type 0 where
  pub store : Store
  pub last : Store
  pub over : IsStoreOver old layout.shapes.items layout.out.items layout.stale.items store
  pub disks_are : last.disks ≡ new
  pub before : ℕ
  pub after : ℕ
  pub refused : IsReachRefused store last [] group root before after cause

-- They were not found: memory ran out; the vdevs are none of these disks; or the walk was refused.
pub record IsUnwalked (old : Disks) (layout : PoolLayout) (root : Block) (group : ℕ) (refusal : Refusal) (new : Disks) : Type 0 where
  pub reads : OnlyReads old new
  pub why : (refusal ≡ NoMemory) ⊎ (((refusal ≡ BadConfig) × ¬ MayBeOpened old.starts layout.shapes.items layout.out.items)
      ⊎ ((cause : Cause) × (refusal ≡ of_store cause) × IsWalkRefused old layout root group cause new))
