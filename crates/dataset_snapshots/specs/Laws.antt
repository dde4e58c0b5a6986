-- What follows from these definitions for those who have roots.
use Rattle.std.specs.Prelude.{ℕ, ◌≡◌, ◌≤◌, ◌⊎◌, true, List, [], Option, Some, slice_get, Contains}
use Rattle.std.specs.List.{AllByRecursion}
use Rattle.block_pointer.specs.declared.block.Block.{Block}
use Rattle.block_pointer.specs.declared.dva.Dva.{Dva}
use Rattle.block_pointer.specs.Copies.{dvas}
use Rattle.block_store.specs.declared.refusal.Refusal.{Refusal}
use Rattle.block_store.specs.declared.refusal.Refusal.TheVariants.{DiskFault}
use Rattle.block_store.specs.Blocks.{Contents, Extends}
use Rattle.block_store.specs.Losses.{IsBlockLost}
use Rattle.block_store.specs.Places.{ArePlacesApart}
use Rattle.block_store.specs.Store.{Store, Stores}
use Rattle.dnode_tree.specs.Freeing.{AreOnlyIn}
use Rattle.dnode_tree.specs.ReadRefusals.{IsForRead}
use Rattle.dnode_tree.specs.Rewriting.{AreDistinct}
use Rattle.meta_objset.specs.declared.directory.DirectoryRow.{DirectoryRow}
use Rattle.meta_objset.specs.declared.stale_spans.StaleSpan.{StaleSpan}
use Rattle.pool_model.specs.Pools.{Entry, PlainPool}
use Rattle.volume_rules.specs.GoodChanges.{is_good_making}
use Rattle.vdev_label.specs.Plain.{PlainVdev}
use Rattle.dataset_snapshots.specs.Demands.{IsGroupRefused}
use Rattle.dataset_snapshots.specs.Finding.{IsDirectoryRefused, IsMetaRefused, IsRefused, IsRefusedIn}
use Rattle.dataset_snapshots.specs.FirstGroup.{IsFirstRefused}
pub use Rattle.dataset_groups.specs.NewVolumes.{AreGoodChanges}
use Rattle.dataset_groups.specs.Leaving.{IsReachExchanged}
use Rattle.dataset_snapshots.specs.Mapped.{HasItsMaps}
use Rattle.block_store.specs.Spaces.{VdevSpace}
use Rattle.dataset_snapshots.specs.Pools.{SpellsPool}
use Rattle.dataset_snapshots.specs.Ranges.{IsRangeRefused, IsRangeRefusedIn}
use Rattle.dataset_snapshots.specs.Reach.{reach_of, IsReachRefused}

-- A root spells its pool still where more blocks are known, and for a later group.
abbrev pub RootsStay : Type 0
RootsStay =
    (old new : Contents) (bound birth : ℕ) (root : Block) (pool : PlainPool) → bound ≤ birth
    → Extends old new → SpellsPool old bound root pool → SpellsPool new birth root pool

-- each of the blocks that the old contents know the new ones know too, with the same bytes
abbrev pub KeepsEach : Contents → Contents → List Block → Type 0
KeepsEach old new blocks =
    (block : Block) (bytes : List ℕ) → Contains blocks block → old block ≡ Some bytes
    → new block ≡ Some bytes

-- what maps the one has on vdevs, the other has
abbrev pub KeepsItsMaps : {old new : Contents} {bound birth : ℕ} {root : Block} {pool other : PlainPool}
    → SpellsPool old bound root pool → SpellsPool new birth root other → Type 0
KeepsItsMaps is still = (spaces : List VdevSpace) → HasItsMaps spaces is → HasItsMaps spaces still

-- A root spells its pool still, by the same rows, leads to the same blocks, and has the same maps and the
-- same objects, where the blocks that it leads to stay known, whatever becomes of others, and also for a
-- later group.
abbrev pub RootsStandOnTheirReach : Type 0
RootsStandOnTheirReach =
    (old new : Contents) (bound birth : ℕ) (root : Block) (pool : PlainPool) → bound ≤ birth
    → (is : SpellsPool old bound root pool) → KeepsEach old new (reach_of is)
    → (still : SpellsPool new birth root pool) × (reach_of still ≡ reach_of is)
    × (still.rows ≡ is.rows) × KeepsItsMaps is still × (still.objects ≡ is.objects)

-- Each block that a root leads to is known, and was born no later than the root; and where more is
-- known it leads to the same blocks, spells its pool by the same rows, and has the same maps and objects.
pub record ReachIsKnown : Type 0 where
  pub known : (stored : Contents) (birth : ℕ) (root : Block) (pool : PlainPool)
      (is : SpellsPool stored birth root pool) (block : Block) → Contains (reach_of is) block
      → (bytes : List ℕ) × (stored block ≡ Some bytes)
  pub born : (stored : Contents) (birth : ℕ) (root : Block) (pool : PlainPool)
      (is : SpellsPool stored birth root pool) (block : Block) → Contains (reach_of is) block
      → block.birth ≤ root.birth
  pub stays : (old new : Contents) (bound birth : ℕ) (root : Block) (pool : PlainPool)
      → bound ≤ birth → Extends old new → (is : SpellsPool old bound root pool)
      → (still : SpellsPool new birth root pool) × (reach_of still ≡ reach_of is)
      × (still.rows ≡ is.rows) × KeepsItsMaps is still × (still.objects ≡ is.objects)

-- A root spells one pool, by one list of rows, leads to one list of blocks, and has one table of maps and
-- the same objects, whatever births are asked.
abbrev pub RootsSpellOnePool : Type 0
RootsSpellOnePool =
    (stored : Contents) (birth later : ℕ) (root : Block) (pool other : PlainPool)
    → (one : SpellsPool stored birth root pool) → (two : SpellsPool stored later root other)
    → (pool ≡ other) × (reach_of one ≡ reach_of two) × (one.rows ≡ two.rows) × KeepsItsMaps one two
    × (one.objects ≡ two.objects)

-- A block is lost where a name is not found for a fault of disks.
abbrev pub LossesOfDatasets : Type 0
LossesOfDatasets =
    (old new : Store) (missing : List ℕ) (birth : ℕ) (root : Block) (name : List ℕ)
    (refusal : Refusal) → IsRefused old new missing birth root name refusal
    → refusal ≡ DiskFault → IsBlockLost old new missing

-- And where the root after a group is refused for a fault of disks.
abbrev pub LossesOfGroups : Type 0
LossesOfGroups =
    (old new : Store) (root : Block) (rows : List DirectoryRow) (group : ℕ)
    (spans : Option (List StaleSpan)) (destroyed : List (List ℕ)) (items : Entry) (refusal : Refusal)
    → IsGroupRefused old new root rows group spans destroyed items refusal
    → refusal ≡ DiskFault → IsBlockLost old new []

-- And where the first root is.
abbrev pub LossesOfFirstGroups : Type 0
LossesOfFirstGroups =
    (old new : Store) (group : ℕ) (vdevs : List PlainVdev) (stale : List StaleSpan) (items : Entry)
    (refusal : Refusal) → IsFirstRefused old new group vdevs stale items refusal → refusal ≡ DiskFault
    → IsBlockLost old new []

-- And where a range of a volume is.
abbrev pub LossesOfRanges : Type 0
LossesOfRanges =
    (old new : Store) (missing : List ℕ) (birth : ℕ) (root : Block) (name : List ℕ)
    (offset len : ℕ) (refusal : Refusal)
    → IsRangeRefused old new missing birth root name offset len refusal
    → refusal ≡ DiskFault → IsBlockLost old new missing

-- And where the directory under a root is not read, or by the rows of one that is kept in memory a
-- name is not found, or a range is refused.
pub record LossesByRows : Type 0 where
  pub directories : (old new : Store) (missing : List ℕ) (birth : ℕ) (root : Block)
      (refusal : Refusal) → IsMetaRefused old new missing birth root refusal
      ⊎ IsDirectoryRefused old new missing birth root refusal
      → refusal ≡ DiskFault → IsBlockLost old new missing
  pub names : (old new : Store) (missing : List ℕ) (birth : ℕ) (root : Block)
      (rows : List DirectoryRow) (name : List ℕ) (refusal : Refusal)
      → IsRefusedIn old new missing birth root rows name refusal
      → refusal ≡ DiskFault → IsBlockLost old new missing
  pub ranges : (old new : Store) (missing : List ℕ) (birth : ℕ) (root : Block)
      (rows : List DirectoryRow) (name : List ℕ) (offset len : ℕ) (refusal : Refusal)
      → IsRangeRefusedIn old new missing birth root rows name offset len refusal
      → refusal ≡ DiskFault → IsBlockLost old new missing

-- What the search for a name, the read of a range (also by the rows of a directory that is kept), the
-- read of a directory, or the walk of all blocks under a root is refused for: memory, a fault of
-- disks, or a block that is not what its pointer says, and so never room.
pub record ReadsNeedNoRoom : Type 0 where
  pub names : (old new : Store) (missing : List ℕ) (birth : ℕ) (root : Block) (name : List ℕ)
      (refusal : Refusal) → IsRefused old new missing birth root name refusal → IsForRead refusal
  pub ranges : (old new : Store) (missing : List ℕ) (birth : ℕ) (root : Block) (name : List ℕ)
      (offset len : ℕ) (refusal : Refusal)
      → IsRangeRefused old new missing birth root name offset len refusal → IsForRead refusal
  pub directories : (old new : Store) (missing : List ℕ) (birth : ℕ) (root : Block)
      (refusal : Refusal) → IsMetaRefused old new missing birth root refusal
      ⊎ IsDirectoryRefused old new missing birth root refusal → IsForRead refusal
  pub names_in : (old new : Store) (missing : List ℕ) (birth : ℕ) (root : Block)
      (rows : List DirectoryRow) (name : List ℕ) (refusal : Refusal)
      → IsRefusedIn old new missing birth root rows name refusal → IsForRead refusal
  pub ranges_in : (old new : Store) (missing : List ℕ) (birth : ℕ) (root : Block)
      (rows : List DirectoryRow) (name : List ℕ) (offset len : ℕ) (refusal : Refusal)
      → IsRangeRefusedIn old new missing birth root rows name offset len refusal
      → IsForRead refusal
  pub reaches : (old new : Store) (missing : List ℕ) (birth : ℕ) (root : Block)
      (before after : ℕ) (refusal : Refusal)
      → IsReachRefused old new missing birth root before after refusal → IsForRead refusal

-- Where each action of a group makes something that may be made so, all of them may be made.
abbrev pub GoodChangesMayBeMade : Type 0
GoodChangesMayBeMade =
    (entry : Entry) → AllByRecursion (λ a. is_good_making a.change ≡ true) entry.actions
    → AreGoodChanges entry.actions

-- Of the blocks that a stored root leads to no two copies share a sector, be they of one block or
-- of two.
abbrev pub ReachesLieApart : Type 0
ReachesLieApart =
    (store : Store) (stored : Contents) (birth : ℕ) (root : Block) (pool : PlainPool)
    → Stores store stored → (is : SpellsPool stored birth root pool)
    → (block other : Block) (i k : ℕ) (place behind : Dva) → Contains (reach_of is) block
    → Contains (reach_of is) other → slice_get (dvas block.copies) i ≡ Some place
    → slice_get (dvas other.copies) k ≡ Some behind
    → ((block ≡ other) × (i ≡ k)) ⊎ ArePlacesApart place behind

-- Where a stored root leads to no block twice, what gave way by a group are the blocks that it leads
-- to and that are not among those after, each once, and those after are each there once.
abbrev pub ReplacedOfGroupsLeave : Type 0
ReplacedOfGroupsLeave =
    (stored planned later : Contents) (birth group : ℕ) (root : Block) (pool : PlainPool)
    → (is : SpellsPool stored birth root pool) → (after gone : List Block)
    → Extends stored planned → AreDistinct (reach_of is)
    → IsReachExchanged group planned later (reach_of is) after gone
    → AreOnlyIn (reach_of is) after gone × AreDistinct after
