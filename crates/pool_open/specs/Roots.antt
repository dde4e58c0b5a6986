-- What is read of a root, over disks that no store holds yet.
use Rattle.std.specs.List.{list_any}
use Rattle.std.specs.Prelude.{ℕ, ◌≡◌, ◌≢◌, ◌≤◌, ◌⊎◌, ◌&&◌, Bool, true, false, Option, List, [], length, if◌then◌else◌}
use Rattle.disk_set.specs.declared.stale.GroupSpan.{GroupSpan}
use Rattle.model_disk.specs.Joint.{Disks}
use Rattle.raidz_io.specs.Reads.{OnlyReads, AreUntouched}
use Rattle.block_pointer.specs.declared.block.Block.{Block}
use Rattle.block_store.specs.Blocks.{Contents}
use Rattle.block_store.specs.Opened.{MayBeOpened}
use Rattle.block_store.specs.Places.{shapes_of}
use Rattle.block_store.specs.Spaces.{VdevSpace}
use Rattle.block_store.specs.Store.{Store, is_stale, outs_from}
use Rattle.block_store.specs.declared.refusal.Refusal.TheVariants.{BadConfig, BadDigest, DiskFault}
use Rattle.block_store.specs.declared.shape.VdevShape.{VdevShape}
use Rattle.pool_core.specs.Contents.{AreContentsOf, AreContentsRefused}
use Rattle.pool_core.specs.Mapped.{HasItsMapsOver}
use Rattle.pool_core.specs.Pools.{SpellsPool}
use Rattle.pool_core.specs.Reach.{meta_blocks_of}
use Rattle.pool_core.specs.RootContents.{RootContents}
use Rattle.pool_core.specs.Loads.{AreSetsOf}
use Rattle.pool_model.specs.Pools.{PlainPool}
use Rattle.meta_objset.specs.declared.stale_spans.StaleSpan.{StaleSpan}
use Rattle.space_map_objects.specs.Maps.{IsForLossOf}
use Rattle.space_map_objects.specs.declared.refusal.Refusal.{Refusal}
use Rattle.space_map_objects.specs.declared.refusal.Refusal.TheVariants.{NoMemory, Unread}
use Rattle.stale_disks.specs.Rules.{AreSpansOpened, stale_groups}
use Rattle.pool_open.specs.Held.{HoldOver, IsStoreOver, TellOver}

-- the disks were only read, and none of those that are out was
pub record AreReadBeside (out : List Bool) (old new : Disks) : Type 0 where
  pub only : OnlyReads old new
  pub untouched : AreUntouched (outs_from 0 out) old new

-- this is what the root has, on all vdevs of these shapes
abbrev pub AreContentsOver : List VdevShape → Contents → ℕ → Block → PlainPool → RootContents → Type 0
AreContentsOver shapes stored group root pool contents = (spaces : List VdevSpace) → shapes_of spaces ≡ shapes → AreContentsOf stored spaces group root pool contents

-- its space maps are of metaslabs of these vdevs, each of another one, with as many sectors
abbrev pub AreSetsOver : List VdevShape → RootContents → Type 0
AreSetsOver shapes contents = (spaces : List VdevSpace) → shapes_of spaces ≡ shapes → AreSetsOf spaces contents.maps.items

-- Where any store over the disks, of which some missed these groups, may read the blocks of a root that spells a pool, and what was read tells them, this
-- is what it has. Its space maps have places on the vdevs, whatever the root is.
pub record IsReadOfRoot (old new : Disks) (shapes : List VdevShape) (out : List Bool) (stale : List (Option GroupSpan)) (group : ℕ) (root : Block)
    (contents : RootContents) : Type 0 where
  pub are : (stored : Contents) (pool : PlainPool) → HoldOver old shapes out stale stored → SpellsPool stored group root pool
      → TellOver old new shapes out stale
      → AreContentsOver shapes stored group root pool contents
  pub sets : AreSetsOver shapes contents

-- the root spells the pool and has its space maps, and it and its meta object set have so many blocks at most
pub record IsSmallRoot (stored : Contents) (shapes : List VdevShape) (group : ℕ) (root : Block) (pool : PlainPool) (most : ℕ) : Type 0 where
  pub is : SpellsPool stored group root pool
  pub mapped : HasItsMapsOver shapes is
  pub few : length (meta_blocks_of is) ≤ most

-- A store over the disks was refused the root by these reads, of so many blocks at most. Where it may read the blocks of a root that has its space
-- maps, whose meta object set has no more blocks, and what was read tells them, it is for want of memory or of disks alone.
pub record IsRootRefused (old new : Disks) (shapes : List VdevShape) (out : List Bool) (stale : List (Option GroupSpan)) (group : ℕ) (root : Block) (most : ℕ)
    (refusal : Refusal) : Type 0 where
  pub store : Store
  pub over : IsStoreOver old shapes out stale store
  pub later : Store
  pub now : later.disks ≡ new
  pub after : ℕ
  pub cause : AreContentsRefused store later [] group root most after refusal
  pub whole : (stored : Contents) (pool : PlainPool) → HoldOver old shapes out stale stored → IsSmallRoot stored shapes group root pool most
      → TellOver old new shapes out stale → IsForLossOf refusal

-- why nothing was read: the vdevs don't lie on the disks, or the root was refused
abbrev pub RootRefuses : Disks → Disks → List VdevShape → List Bool → List (Option GroupSpan) → ℕ → Block → ℕ → Refusal → Type 0
RootRefuses old new shapes out stale group root most refusal =
    ((refusal ≡ Unread BadConfig) × ¬ MayBeOpened old.starts shapes out) ⊎ IsRootRefused old new shapes out stale group root most refusal

-- the disks were only read until then
pub record IsRootNotRead (old new : Disks) (shapes : List VdevShape) (out : List Bool) (stale : List (Option GroupSpan)) (group : ℕ) (root : Block) (most : ℕ)
    (refusal : Refusal) : Type 0 where
  pub only : AreReadBeside out old new
  pub why : (refusal ≡ NoMemory) ⊎ RootRefuses old new shapes out stale group root most refusal

-- ---- a root of which nothing is known

-- whether bytes of it were wrong
abbrev pub are_wrong : Refusal → Bool
are_wrong (Unread BadDigest) = true
are_wrong refusal = false

-- What is told of it that was refused for this cause. Where bytes are wrong while a disk is out it lacks that disk, since another one may have missed
-- its group.
abbrev pub told_as : List Bool → Refusal → Refusal
told_as out cause = if are_wrong cause && list_any (λ is. is) out then Unread DiskFault else cause

-- why it was not read, with nothing known of groups that disks missed
pub record IsRefusedAtOnce (old new : Disks) (shapes : List VdevShape) (out : List Bool) (group : ℕ) (root : Block) (most : ℕ) (refusal : Refusal) : Type 0 where
  pub cause : Refusal
  pub refused : RootRefuses old new shapes out [] group root most cause
  pub told : refusal ≡ told_as out cause

-- the disks were only read until then
pub record IsNotReadAtOnce (old new : Disks) (shapes : List VdevShape) (out : List Bool) (group : ℕ) (root : Block) (most : ℕ) (refusal : Refusal) : Type 0 where
  pub only : AreReadBeside out old new
  pub why : (refusal ≡ NoMemory) ⊎ IsRefusedAtOnce old new shapes out group root most refusal

-- ---- a root that is read once more where disks missed groups

-- It was read with nothing known of groups that disks missed, and its table has spans.
pub record TellsSpans (old new : Disks) (shapes : List VdevShape) (out : List Bool) (group : ℕ) (root : Block) (contents : RootContents) : Type 0 where
  pub read : IsReadOfRoot old new shapes out [] group root contents
  pub some : contents.spans ≢ []

-- What it has, read by what its table says that disks missed; where the pool's table has no span none did.
pub record IsKnownRoot (old new : Disks) (shapes : List VdevShape) (out : List Bool) (group : ℕ) (root : Block) (contents : RootContents)
    (stale : List (Option GroupSpan)) : Type 0 where
  pub read : IsReadOfRoot old new shapes out stale group root contents
  pub fresh : (stored : Contents) (pool : PlainPool) → HoldOver old shapes out [] stored → (is : SpellsPool stored group root pool) → is.stale ≡ []
      → TellOver old new shapes out [] → stale ≡ []

-- Read once more, by what its table said that disks missed, it has another table.
pub record HasAnotherTable (old new : Disks) (shapes : List VdevShape) (out : List Bool) (stale : List (Option GroupSpan)) (group : ℕ) (root : Block)
    (first : RootContents) : Type 0 where
  pub again : RootContents
  pub read : IsReadOfRoot old new shapes out stale group root again
  pub other : again.spans ≢ first.spans

-- the groups that disks of these guids missed by a table, as its group is opened
pub record AreMissedBy (guids : List ℕ) (out : List Bool) (group : ℕ) (table : List StaleSpan) (stale : List (Option GroupSpan)) : Type 0 where
  pub spans : List StaleSpan
  pub opened : AreSpansOpened guids out group table spans
  pub same : (disk birth : ℕ) → is_stale stale disk birth ≡ is_stale (stale_groups spans guids) disk birth

-- why it was not read once more, by what its table says that disks missed: want of memory; it was refused then, or has another table
abbrev pub IsNotReadAgain : List ℕ → Disks → Disks → List VdevShape → List Bool → ℕ → Block → ℕ → RootContents → Refusal → Type 0
IsNotReadAgain guids old new shapes out group root most first refusal =
    (refusal ≡ NoMemory) ⊎ ((stale : List (Option GroupSpan)) × AreMissedBy guids out group first.spans stale
    × (RootRefuses old new shapes out stale group root most refusal
    ⊎ ((refusal ≡ Unread BadDigest) × HasAnotherTable old new shapes out stale group root first)))

-- Its table has spans, and it was not read once more.
pub record IsRefusedAgain (guids : List ℕ) (old new : Disks) (shapes : List VdevShape) (out : List Bool) (group : ℕ) (root : Block) (most : ℕ) (refusal : Refusal) : Type 0 where
  pub mid : Disks
  pub before : AreReadBeside out old mid
  pub after : AreReadBeside out mid new
  pub first : RootContents
  pub tells : TellsSpans old mid shapes out group root first
  pub why : IsNotReadAgain guids mid new shapes out group root most first refusal

-- why nothing is known of a root: it was refused at once, or once more
abbrev pub RootIsUnknown : List ℕ → Disks → Disks → List VdevShape → List Bool → ℕ → Block → ℕ → Refusal → Type 0
RootIsUnknown guids old new shapes out group root most refusal =
    IsRefusedAtOnce old new shapes out group root most refusal ⊎ IsRefusedAgain guids old new shapes out group root most refusal

-- the disks were only read until then
pub record IsRootNotKnown (guids : List ℕ) (old new : Disks) (shapes : List VdevShape) (out : List Bool) (group : ℕ) (root : Block) (most : ℕ) (refusal : Refusal) : Type 0 where
  pub only : AreReadBeside out old new
  pub why : (refusal ≡ NoMemory) ⊎ RootIsUnknown guids old new shapes out group root most refusal
