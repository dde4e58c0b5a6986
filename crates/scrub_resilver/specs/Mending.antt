-- Columns of blocks that are written anew.
use Rattle.std.specs.Prelude.{ℕ, ◌≡◌, ◌≢◌, ◌⊎◌, ◌<◌, ◌≤◌, Bool, true, false, Some, List, [], ◌∷◌, ◌++◌, length, slice_get, Contains}
use Rattle.sha2.specs.Sha256.{sha256}
use Rattle.model_disk.specs.Call.{Call, Read, FailedRead, Wrote, FailedWrite, Flushed, FailedFlush}
use Rattle.model_disk.specs.Joint.{JointCall, Disks, on, calls_on, failed_since}
use Rattle.model_disk.specs.Runs.{Makes, no_write}
use Rattle.block_pointer.specs.declared.block.Block.{Block}
use Rattle.block_pointer.specs.declared.dva.Dva.{Dva}
use Rattle.block_pointer.specs.Copies.{dvas}
use Rattle.block_store.specs.declared.shape.VdevShape.{VdevShape}
use Rattle.raidz_map.specs.declared.column.Column.{Column}
use Rattle.raidz_parity.specs.Layout.{Block as ColumnsOf}
use Rattle.raidz_io.specs.declared.vdev.Extent.{Extent}
use Rattle.raidz_io.specs.Places.{disk_of, offset_of}
use Rattle.raidz_io.specs.Reads.{AreUntouched, GaveSince, OnlyReads}
use Rattle.raidz_io.specs.Stands.{IsLayout, AreBytesOf, all_columns}
use Rattle.scrub_resilver.specs.Copies.{IsChosenOf, IsCopyOn, IsExtentOn, AreUnread}
use Rattle.scrub_resilver.specs.Looking.{ReadFailedSince}

-- ---- what is written

-- the bytes are those of a column of these, at its place in the extent
pub record IsColumnIn (extent : Extent) (layout : List Column) (columns : List (List ℕ)) (disk at : ℕ) (bytes : List ℕ) : Type 0 where
  pub k : ℕ
  pub column : Column
  pub place_is : slice_get layout k ≡ Some column
  pub bytes_are : slice_get columns k ≡ Some bytes
  pub disk_is : disk ≡ disk_of extent.vdev column
  pub at_is : at ≡ offset_of column

-- they are those of a column of this content, at its place in the copy that lies there
pub record IsColumnOf (shapes : List VdevShape) (block : Block) (place : Dva) (content : List ℕ) (disk at : ℕ) (bytes : List ℕ) : Type 0 where
  pub extent : Extent
  pub extent_is : IsExtentOn shapes block.property.sectors place extent
  pub layout : List Column
  pub columns : ColumnsOf
  pub is_layout : IsLayout extent layout
  pub are_bytes : AreBytesOf extent content layout columns
  pub is_column : IsColumnIn extent layout (all_columns columns) disk at bytes

-- The bytes are those of a column of a copy of one of these blocks, at its place: of a block of bytes with the digest that its pointer has.
pub record IsRightColumn (shapes : List VdevShape) (blocks : List Block) (disk at : ℕ) (bytes : List ℕ) : Type 0 where
  pub block : Block
  pub is_one : Contains blocks block
  pub i : ℕ
  pub extent : Extent
  pub is_copy : IsCopyOn shapes block i extent
  pub content : List ℕ
  pub digest : sha256 content ≡ block.checksum
  pub layout : List Column
  pub columns : ColumnsOf
  pub is_layout : IsLayout extent layout
  pub are_bytes : AreBytesOf extent content layout columns
  pub is_column : IsColumnIn extent layout (all_columns columns) disk at bytes

-- so it is of some copy of the block
abbrev pub IsColumnOfBlock : List VdevShape → Block → List ℕ → ℕ → ℕ → List ℕ → Type 0
IsColumnOfBlock shapes block content disk at bytes = (place : Dva) × Contains (dvas block.copies) place × IsColumnOf shapes block place content disk at bytes

-- since there were n calls, a read of so many bytes there failed, or gave others than these
abbrev pub WasFaulty : ℕ → List JointCall → ℕ → ℕ → List ℕ → Type 0
WasFaulty n calls disk at bytes =
    ReadFailedSince n calls disk at (length bytes)
    ⊎ ((others : List ℕ) × (length others ≡ length bytes) × (others ≢ bytes) × GaveSince n calls disk at others)

-- after these calls, where the call is a write, it was so with what it writes
abbrev pub IsDue : ℕ → List JointCall → ℕ → Call → Type 0
IsDue n calls disk (Read at bytes) = Unit {0}
IsDue n calls disk (FailedRead at count) = Unit {0}
IsDue n calls disk (Wrote at bytes) = WasFaulty n calls disk at bytes
IsDue n calls disk (FailedWrite at bytes) = WasFaulty n calls disk at bytes
IsDue n calls disk Flushed = Unit {0}
IsDue n calls disk FailedFlush = Unit {0}

-- so it was before each write since there were n calls
abbrev pub AreDue : ℕ → List JointCall → Type 0
AreDue n [] = Unit {0}
AreDue n (made ∷ earlier) = (n ≤ length earlier → IsDue n earlier made.which made.call) × AreDue n earlier

-- Since then only reads and flushes were made, and writes that may be made, answered or failed: none of them on a missing disk, and each
-- only after what is there was found to be faulty.
pub record Repairs (may : ℕ → ℕ → List ℕ → Type 0) (missing : List ℕ) (old new : Disks) : Type 0 where
  pub makes : Makes may old new
  pub untouched : AreUntouched missing old new
  pub due : AreDue (length old.calls) new.calls

-- nothing was written but right columns
abbrev pub OnlyMends : List VdevShape → List Block → List ℕ → Disks → Disks → Type 0
OnlyMends shapes blocks missing old new = Repairs (IsRightColumn shapes blocks) missing old new

-- bytes were written there, or the write failed, or the disk is missing
pub record IsPut (old new : Disks) (missing : List ℕ) (disk at : ℕ) (bytes : List ℕ) : Type 0 where
  pub starts : new.starts ≡ old.starts
  pub outcome : ((¬ Contains missing disk) × (new.calls ≡ on disk (Wrote at bytes) ∷ old.calls))
      ⊎ (((¬ Contains missing disk) × (new.calls ≡ on disk (FailedWrite at bytes) ∷ old.calls))
      ⊎ (Contains missing disk × (new.calls ≡ old.calls)))

-- ---- what is mended

-- calls were made after those
pub record GoesOn (old new : Disks) : Type 0 where
  pub starts : new.starts ≡ old.starts
  pub newer : List JointCall
  pub calls : new.calls ≡ newer ++ old.calls

-- that call was made since there were n calls
abbrev pub WasMadeSince : ℕ → List JointCall → JointCall → Type 0
WasMadeSince n [] call = ⊥
WasMadeSince n (made ∷ earlier) call = ((n ≤ length earlier) × (made ≡ call)) ⊎ WasMadeSince n earlier call

-- the disk is missing, or a read gave these bytes since, or they were written there, or that write failed
abbrev pub IsColumnMended : Disks → Disks → List ℕ → ℕ → ℕ → List ℕ → Type 0
IsColumnMended old new missing disk at bytes =
    Contains missing disk
    ⊎ (GaveSince (length old.calls) new.calls disk at bytes
    ⊎ (WasMadeSince (length old.calls) new.calls (on disk (Wrote at bytes)) ⊎ WasMadeSince (length old.calls) new.calls (on disk (FailedWrite at bytes))))

-- so it is with column k
abbrev pub IsMendedAt : Disks → Disks → List ℕ → Extent → List Column → List (List ℕ) → ℕ → Type 0
IsMendedAt old new missing extent layout columns k =
    (column : Column) (bytes : List ℕ) → slice_get layout k ≡ Some column → slice_get columns k ≡ Some bytes
    → IsColumnMended old new missing (disk_of extent.vdev column) (offset_of column) bytes

-- and with the columns before column n
abbrev pub AreMendedBelow : Disks → Disks → List ℕ → Extent → List Column → List (List ℕ) → ℕ → Type 0
AreMendedBelow old new missing extent layout columns n = (k : ℕ) → k < n → IsMendedAt old new missing extent layout columns k

-- and with each column of a copy of this content
pub record IsCopyMended (old new : Disks) (missing : List ℕ) (extent : Extent) (content : List ℕ) : Type 0 where
  pub layout : List Column
  pub columns : ColumnsOf
  pub is_layout : IsLayout extent layout
  pub are_bytes : AreBytesOf extent content layout columns
  pub each : (k : ℕ) → IsMendedAt old new missing extent layout (all_columns columns) k

-- so it is with the copy of the block that lies there
abbrev pub IsPlaceMended : List VdevShape → Disks → Disks → List ℕ → Block → List ℕ → Dva → Type 0
IsPlaceMended shapes old new missing block content place =
    (extent : Extent) × IsExtentOn shapes block.property.sectors place extent × IsCopyMended old new missing extent content

-- and with each of these copies
abbrev pub ArePlacesMended : List VdevShape → Disks → Disks → List ℕ → Block → List ℕ → List Dva → Type 0
ArePlacesMended shapes old new missing block content [] = Unit {0}
ArePlacesMended shapes old new missing block content (place ∷ places) =
    IsPlaceMended shapes old new missing block content place × ArePlacesMended shapes old new missing block content places

-- at some moments since, none of the copies of the block could be read
pub record WasUnread (shapes : List VdevShape) (old new : Disks) (missing : List ℕ) (block : Block) : Type 0 where
  pub first : Disks
  pub last : Disks
  pub before : GoesOn old first
  pub after : GoesOn last new
  pub unread : AreUnread shapes first last missing block (dvas block.copies)

-- each copy is mended, of bytes with the digest that the block has, or none of them could be read
abbrev pub IsBlockMended : List VdevShape → Disks → Disks → List ℕ → Block → Type 0
IsBlockMended shapes old new missing block =
    ((content : List ℕ) × (sha256 content ≡ block.checksum) × ArePlacesMended shapes old new missing block content (dvas block.copies))
    ⊎ WasUnread shapes old new missing block

-- ---- in which order

-- A copy of the block was read, as bytes with its digest; behind that nothing was written but columns of these, each where it was faulty.
pub record IsRewritten (shapes : List VdevShape) (missing : List ℕ) (block : Block) (old new : Disks) : Type 0 where
  pub mid : Disks
  pub content : List ℕ
  pub reads : OnlyReads old mid
  pub untouched : AreUntouched missing old mid
  pub chosen : IsChosenOf shapes old mid block content (dvas block.copies)
  pub digest : sha256 content ≡ block.checksum
  pub written : Repairs (IsColumnOfBlock shapes block content) missing mid new

-- Each of these blocks was rewritten so, one behind the other; or nothing was written as it was its turn.
abbrev pub AreMendedInTurn : List VdevShape → List ℕ → List Block → Disks → Disks → Type 0
AreMendedInTurn shapes missing [] old new = old ≡ new
AreMendedInTurn shapes missing (block ∷ blocks) old new =
    (mid : Disks) × (Repairs no_write missing old mid ⊎ IsRewritten shapes missing block old mid) × AreMendedInTurn shapes missing blocks mid new

-- and behind all of them nothing was written: flushes may have been made
abbrev pub AreMendedFirst : List VdevShape → List ℕ → List Block → Disks → Disks → Type 0
AreMendedFirst shapes missing blocks old new = (mid : Disks) × AreMendedInTurn shapes missing blocks old mid × Repairs no_write missing mid new

-- ---- what is flushed

-- a flush was the last call on the disk
abbrev pub IsFlushed : ℕ → List JointCall → Type 0
IsFlushed disk calls = (earlier : List Call) × (calls_on disk calls ≡ Flushed ∷ earlier)

-- the disk was flushed, or its flush failed, or it is missing
pub record IsFlushTried (old new : Disks) (missing : List ℕ) (disk : ℕ) (well : Bool) : Type 0 where
  pub starts : new.starts ≡ old.starts
  pub outcome : ((¬ Contains missing disk) × (well ≡ true) × (new.calls ≡ on disk Flushed ∷ old.calls))
      ⊎ (((¬ Contains missing disk) × (well ≡ false) × (new.calls ≡ on disk FailedFlush ∷ old.calls))
      ⊎ (Contains missing disk × (well ≡ true) × (new.calls ≡ old.calls)))

-- Each disk before disk n was flushed, but for those that are missing and those whose flush failed.
pub record AreFlushedBelow (old new : Disks) (missing failed : List ℕ) (n : ℕ) : Type 0 where
  pub flushed : (disk : ℕ) → disk < n → ¬ Contains missing disk → ¬ Contains failed disk → IsFlushed disk new.calls
  pub only : (disk : ℕ) → Contains failed disk → Contains (failed_since (length old.calls) new.calls) disk
