-- Where the disks of a running pool stand, with what is filled as the tree of each root: no list of blocks is needed.
use Rattle.std.specs.Prelude.{ℕ, ◌≡◌, ◌∷◌, Bool, true, false, Some, List, length}
use Rattle.model_disk.specs.Contents.{covers}
use Rattle.model_disk.specs.Joint.{Disks, content}
use Rattle.model_disk.specs.Runs.{Makes}
use Rattle.uberblock_ring.specs.Uberblock.{Fits}
use Rattle.uberblock_ring.specs.declared.uberblock.Uberblock.{Uberblock}
use Rattle.block_pointer.specs.declared.block.Block.{Block}
use Rattle.raidz_io.specs.Stands.{ExtentStands}
use Rattle.raidz_io.specs.declared.vdev.Extent.{Extent}
use Rattle.block_store.specs.Blocks.{Contents}
use Rattle.block_store.specs.Elsewhere.{IsForBlocks}
use Rattle.block_store.specs.Places.{IsCopy, IsLaidOut}
use Rattle.block_store.specs.Plans.{Plans}
use Rattle.block_store.specs.Store.{Store, Stores, is_stale, outs_from}
use Rattle.block_store.specs.Spaces.{VdevSpace}
use Rattle.pool_create.specs.Slots.{LabelsLieAside}
use Rattle.pool_create.specs.CommitWriting.{IsDueWrite}
use Rattle.pool_slots.specs.Commits.{LeadAlways, last_or, only_last, IsNextGroup}
use Rattle.pool_slots.specs.Phases.{AreInBlocks, AreInSlots}
use Rattle.pool_slots.specs.Possible.{TreeStands, Trees}
use Rattle.pool_slots.specs.Slots.{AreSettled, StayOut}
use Rattle.pool_slots.specs.Writes.{IsSlotWrite, SlotsStand, in_use}
use Rattle.pool_stops.specs.Filled.{all_picked, is_filled, is_for_blocks}

-- the tree of every root taken to be all bytes that are filled, as the disks have them
abbrev pub filled_trees : List VdevSpace → Disks → Trees
filled_trees spaces disks = all_picked (is_filled spaces) (content disks)

-- the tree of every root taken to be all bytes for blocks, as the disks have them
abbrev pub block_trees : List VdevSpace → Disks → Trees
block_trees spaces disks = all_picked (is_for_blocks spaces) (content disks)

-- each byte of the write is for blocks, and none is filled
abbrev pub unfilled_write : List VdevSpace → ℕ → ℕ → List ℕ → Type 0
unfilled_write spaces which at bytes = (i : ℕ) → covers at (length bytes) i ≡ true → IsForBlocks spaces which i × (is_filled spaces which i ≡ false)

-- what is filled later was filled before
abbrev pub IsFilledNoMore : List VdevSpace → List VdevSpace → Type 0
IsFilledNoMore spaces later = (disk i : ℕ) → is_filled later disk i ≡ true → is_filled spaces disk i ≡ true

-- the vdevs lie on disks of these sizes, beside their labels
pub record LieBesideLabels (starts : List (List ℕ)) (spaces : List VdevSpace) : Type 0 where
  pub laid : IsLaidOut starts spaces
  pub labels : LabelsLieAside starts spaces

-- of each copy of a stored block the columns stand on the disks that are not away
abbrev pub AllStand : Store → Contents → List Bool → Disks → Type 0
AllStand store stored away disks =
    (block : Block) (bytes : List ℕ) (i : ℕ) (extent : Extent) → stored block ≡ Some bytes → IsCopy store.spaces block i extent
    → ExtentStands (content disks) (outs_from 0 away) extent bytes

-- ---- laws

-- the writes of a plan that are due change nothing that is filled
abbrev pub DueWritesAreUnfilled : Type 0
DueWritesAreUnfilled =
    (store : Store) (stored planned : Contents) → LieBesideLabels store.disks.starts store.spaces → Plans store stored planned
    → (which at : ℕ) (bytes : List ℕ) → IsDueWrite store.due which at bytes → unfilled_write store.spaces which at bytes

-- Wherever all that a store has filled stands on disks of which none missed a group, but for some that are away, its blocks do.
abbrev pub FilledTreesHoldBlocks : Type 0
FilledTreesHoldBlocks =
    (store : Store) (stored : Contents) (disks : Disks) (away : List Bool) (root : Block) → LieBesideLabels store.disks.starts store.spaces
    → length store.out ≡ length store.disks.starts → length away ≡ length store.out → StayOut store.out away
    → ((disk birth : ℕ) → is_stale store.spans.stale disk birth ≡ false) → Stores store stored
    → TreeStands (filled_trees store.spaces store.disks) away (content disks) root → AllStand store stored away disks

-- In the blocks phase what isn't filled may be written, whatever the plan, and less may be filled from then on: the phase goes on, and stopped at any
-- moment the disks lead to the last uberblock.
abbrev pub BlocksKeepWhatIsFilled : Type 0
BlocksKeepWhatIsFilled =
    (spaces later : List VdevSpace) (out : List Bool) (old new : Disks) (last : Uberblock) (before : List Uberblock) → LieBesideLabels old.starts spaces
    → IsFilledNoMore spaces later → AreInBlocks (filled_trees spaces old) out old last before → Makes (unfilled_write spaces) old new
    → AreInBlocks (filled_trees later new) out new last before × LeadAlways (filled_trees spaces old) out old new (only_last last before)

-- once each disk in use is flushed the slots of the next uberblock may be written, which leads to whatever is for blocks
abbrev pub SlotsBeginBehindBlocks : Type 0
SlotsBeginBehindBlocks =
    (spaces : List VdevSpace) (out : List Bool) (disks : Disks) (last : Uberblock) (before : List Uberblock) (u : Uberblock) → LieBesideLabels disks.starts spaces
    → AreInBlocks (filled_trees spaces disks) out disks last before → AreSettled out disks.calls → IsNextGroup last u → Fits u
    → AreInSlots (block_trees spaces disks) out disks last before u

-- in the slots phase its slots alone are written: stopped at any moment the disks lead to the last uberblock or to this one
abbrev pub SlotsKeepWhatIsForBlocks : Type 0
SlotsKeepWhatIsForBlocks =
    (spaces : List VdevSpace) (out : List Bool) (old new : Disks) (last : Uberblock) (before : List Uberblock) (u : Uberblock) → LieBesideLabels old.starts spaces → Fits u
    → AreInSlots (block_trees spaces old) out old last before u → Makes (IsSlotWrite old.starts u (in_use out)) old new
    → AreInSlots (block_trees spaces new) out new last before u × LeadAlways (block_trees spaces old) out old new (last_or last before u)

-- once they stand and are flushed the next uberblock is the last one, and of what is for blocks some is filled
abbrev pub CommitsEndFilled : Type 0
CommitsEndFilled =
    (spaces later : List VdevSpace) (out : List Bool) (disks : Disks) (last : Uberblock) (before : List Uberblock) (u : Uberblock)
    → ((disk i : ℕ) → is_filled later disk i ≡ true → is_for_blocks spaces disk i ≡ true) → AreInSlots (block_trees spaces disks) out disks last before u
    → SlotsStand (content disks) disks.starts u (in_use out) (length disks.starts) → AreSettled out disks.calls
    → AreInBlocks (filled_trees later disks) out disks u (last ∷ before)
