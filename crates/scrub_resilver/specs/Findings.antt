-- What is found of blocks, as a set: the columns of their copies that the disks don't have as they should.
use Rattle.std.specs.Prelude.{ℕ, ◌≡◌, ◌≢◌, ◌⊎◌, ◌+◌, ◌*◌, ◌<◌, Option, Some, None, List, [], ◌∷◌, ◌++◌, length, slice_get, Contains, AllPairs}
use Rattle.sha2.specs.Sha256.{sha256}
use Rattle.block_pointer.specs.declared.block.Block.{Block}
use Rattle.block_pointer.specs.declared.dva.Dva.{Dva}
use Rattle.block_pointer.specs.Copies.{dvas}
use Rattle.block_store.specs.Blocks.{AreDistinct}
use Rattle.block_store.specs.Opened.{AreBlocksApart}
use Rattle.block_store.specs.declared.shape.VdevShape.{VdevShape}
use Rattle.model_disk.specs.Joint.{Disks, content}
use Rattle.raidz_map.specs.declared.column.Column.{Column}
use Rattle.raidz_parity.specs.Layout.{Block as ColumnsOf}
use Rattle.raidz_io.specs.declared.vdev.Extent.{Extent}
use Rattle.raidz_io.specs.Places.{Content, Stands, disk_of, offset_of}
use Rattle.raidz_io.specs.Reads.{AreUntouched, FewAreLost, GaveSince, IsHonestSince, OnlyReads, absent_since}
use Rattle.raidz_io.specs.Stands.{IsLayout, AreBytesOf, ExtentStands, all_columns}
use Rattle.scrub_resilver.specs.Checking.{AreChecked}
use Rattle.scrub_resilver.specs.Copies.{IsCopyOn, IsExtentOn}
use Rattle.scrub_resilver.specs.Looking.{ReadFailedSince, finding}
use Rattle.scrub_resilver.specs.declared.fault.Fault.{Fault}
use Rattle.scrub_resilver.specs.declared.fault.Fault.TheVariants.{Unreadable, Wrong}
use Rattle.scrub_resilver.specs.declared.fault.Finding.{Finding}

-- ---- the bytes that blocks should have

-- Some copy of the block stood on its disks, but for at most as many as it has parities: the missing ones, those on which a call failed since,
-- and any others.
pub record StoodOnEnough (shapes : List VdevShape) (old new : Disks) (missing : List ℕ) (block : Block) (bytes : List ℕ) : Type 0 where
  pub i : ℕ
  pub extent : Extent
  pub is_copy : IsCopyOn shapes block i extent
  pub others : List ℕ
  pub few : FewAreLost extent (absent_since old new missing ++ others)
  pub stood : ExtentStands (content old) (absent_since old new missing ++ others) extent bytes

-- the block should have these bytes: they have its digest; they aren't known only where no copy of such bytes stood on enough disks
abbrev pub ShouldHave : List VdevShape → Disks → Disks → List ℕ → Block → Option (List ℕ) → Type 0
ShouldHave shapes old new missing block (Some bytes) = sha256 bytes ≡ block.checksum
ShouldHave shapes old new missing block None = (bytes : List ℕ) → sha256 bytes ≡ block.checksum → ¬ StoodOnEnough shapes old new missing block bytes

-- so it is with these blocks and their bytes, in order
pub record AreContents (shapes : List VdevShape) (old new : Disks) (missing : List ℕ) (blocks : List Block) (contents : List (Option (List ℕ))) : Type 0 where
  pub count : length contents ≡ length blocks
  pub each : (n : ℕ) (block : Block) (bytes : Option (List ℕ)) → slice_get blocks n ≡ Some block → slice_get contents n ≡ Some bytes
      → ShouldHave shapes old new missing block bytes

-- ---- their columns

-- a column of a copy: the copy's vdev and extent, the column's number and place there, and the bytes that it should have, where they are known
pub record CopyColumn : Type 0 where
  pub vdev : ℕ
  pub extent : Extent
  pub k : ℕ
  pub column : Column
  pub bytes : Option (List ℕ)

-- the number of its disk
abbrev pub its_disk : CopyColumn → ℕ
its_disk it = disk_of it.extent.vdev it.column

-- the byte of that disk at which it begins
abbrev pub its_offset : CopyColumn → ℕ
its_offset it = offset_of it.column

-- column k of a block that should have these bytes should have those
abbrev pub ColumnShouldHave : Extent → List Column → ℕ → Option (List ℕ) → Option (List ℕ) → Type 0
ColumnShouldHave extent layout k (Some block) bytes =
    (columns : ColumnsOf) × AreBytesOf extent block layout columns × (slice_get (all_columns columns) k ≡ bytes)
ColumnShouldHave extent layout k None bytes = bytes ≡ None

-- it is column k of a copy of one of the blocks, which should have these contents
pub record IsColumnOfOne (shapes : List VdevShape) (blocks : List Block) (contents : List (Option (List ℕ))) (it : CopyColumn) : Type 0 where
  pub n : ℕ
  pub block : Block
  pub is_block : slice_get blocks n ≡ Some block
  pub content : Option (List ℕ)
  pub is_content : slice_get contents n ≡ Some content
  pub place : Dva
  pub is_copy : Contains (dvas block.copies) place
  pub vdev_is : it.vdev ≡ place.vdev
  pub extent_is : IsExtentOn shapes block.property.sectors place it.extent
  pub layout : List Column
  pub is_layout : IsLayout it.extent layout
  pub column_is : slice_get layout it.k ≡ Some it.column
  pub bytes_are : ColumnShouldHave it.extent layout it.k content it.bytes

-- what is told of it, where this is wrong with it
abbrev pub told_of : CopyColumn → Fault → Finding
told_of it fault = finding it.vdev it.extent it.k it.column fault

-- ---- their faults

-- its bytes are known, and stand on its disk
abbrev pub IsThere : Content → CopyColumn → Type 0
IsThere content it = (bytes : List ℕ) × (it.bytes ≡ Some bytes) × Stands content (its_disk it) (its_offset it) bytes

-- they are known, and the disk is known to have another byte in place of one of them
abbrev pub IsOtherThere : Content → CopyColumn → Type 0
IsOtherThere content it =
    (bytes : List ℕ) × (i : ℕ) × (value : ℕ) × (it.bytes ≡ Some bytes) × (i < length bytes)
    × (content (its_disk it) (its_offset it + i) ≡ Some value) × (slice_get bytes i ≢ Some value)

-- they are known, and a read since gave them
abbrev pub WasGiven : Disks → Disks → CopyColumn → Type 0
WasGiven old new it = (bytes : List ℕ) × (it.bytes ≡ Some bytes) × GaveSince (length old.calls) new.calls (its_disk it) (its_offset it) bytes

-- a read since gave what isn't known to be its bytes
abbrev pub WasGivenOthers : Disks → Disks → CopyColumn → Type 0
WasGivenOthers old new it =
    (others : List ℕ) × GaveSince (length old.calls) new.calls (its_disk it) (its_offset it) others × (it.bytes ≢ Some others)

-- This is wrong with it. It is unreadable: its disk is missing, or a read of it failed since. Or it is wrong: its disk isn't missing, gave
-- other bytes since, and didn't have all of its bytes before.
abbrev pub HasFault : Disks → Disks → List ℕ → CopyColumn → Fault → Type 0
HasFault old new missing it Unreadable =
    Contains missing (its_disk it) ⊎ ReadFailedSince (length old.calls) new.calls (its_disk it) (its_offset it) (it.column.sectors * 512)
HasFault old new missing it Wrong = (¬ Contains missing (its_disk it)) × WasGivenOthers old new it × (¬ IsThere (content old) it)

-- its disk is missing, or had another byte of it, or didn't give its bytes since
abbrev pub IsFaulty : Disks → Disks → List ℕ → CopyColumn → Type 0
IsFaulty old new missing it = Contains missing (its_disk it) ⊎ (IsOtherThere (content old) it ⊎ (¬ WasGiven old new it))

-- ---- what is found

-- The findings are those of columns of the blocks' copies that are faulty: of none but such, and of each.
pub record AreOfFaults (shapes : List VdevShape) (old new : Disks) (missing : List ℕ) (blocks : List Block) (contents : List (Option (List ℕ)))
    (found : List Finding) : Type 0 where
  pub only : (one : Finding) → Contains found one
      → (it : CopyColumn) × IsColumnOfOne shapes blocks contents it × (one ≡ told_of it one.fault) × HasFault old new missing it one.fault
  pub all : (it : CopyColumn) → IsColumnOfOne shapes blocks contents it → IsFaulty old new missing it
      → (fault : Fault) × Contains found (told_of it fault) × HasFault old new missing it fault

-- Where blocks were looked at over disks that answer truly, what is found is just what is wrong on them, beside the bytes that the blocks
-- should have: some that have their digests.
abbrev pub FindingsAreOfTheDisks : Type 0
FindingsAreOfTheDisks =
    (shapes : List VdevShape) (old new : Disks) (missing : List ℕ) (blocks : List Block) (found : List Finding)
    → AreChecked shapes old new missing blocks found → OnlyReads old new → AreUntouched missing old new → IsHonestSince old new
    → (contents : List (Option (List ℕ))) × AreContents shapes old new missing blocks contents × AreOfFaults shapes old new missing blocks contents found

-- ---- how often

-- where the copies of blocks lie
abbrev pub all_places : List Block → List Dva
all_places [] = []
all_places (block ∷ blocks) = dvas block.copies ++ all_places blocks

-- both begin at one sector of one vdev
abbrev pub AreSamePlace : Dva → Dva → Type 0
AreSamePlace place other = (place.vdev ≡ other.vdev) × (place.offset ≡ other.offset)

-- no two copies of these blocks begin at one place
abbrev pub HaveOwnPlaces : List Block → Type 0
HaveOwnPlaces blocks = AllPairs (λ place other. ¬ AreSamePlace place other) (all_places blocks)

-- both are of the same column of what begins there, whatever is wrong with it
abbrev pub AreOfSameColumn : Finding → Finding → Type 0
AreOfSameColumn one other = (one.vdev ≡ other.vdev) × (one.start ≡ other.start) × (one.column ≡ other.column)

-- Where no two copies of blocks that were looked at begin at one place, each column is found once at most, whatever the disks answer.
abbrev pub ColumnsAreFoundOnce : Type 0
ColumnsAreFoundOnce =
    (shapes : List VdevShape) (old new : Disks) (missing : List ℕ) (blocks : List Block) (found : List Finding)
    → AreChecked shapes old new missing blocks found → HaveOwnPlaces blocks → AllPairs (λ one other. ¬ AreOfSameColumn one other) found

-- No two copies of different blocks begin at one place, if none share a sector, and each has some.
abbrev pub ApartBlocksHaveOwnPlaces : Type 0
ApartBlocksHaveOwnPlaces =
    (blocks : List Block) → AreDistinct blocks → AreBlocksApart blocks
    → ((block : Block) (place : Dva) → Contains blocks block → Contains (dvas block.copies) place → 0 < place.allocated) → HaveOwnPlaces blocks
