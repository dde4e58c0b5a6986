-- What is wrong with columns, by what reads of them gave.
use Rattle.std.specs.Prelude.{ℕ, ◌≡◌, ◌≢◌, ◌+◌, ◌≤◌, Bool, true, false, ◌⊎◌, Option, Some, None, List, [], ◌∷◌, ◌++◌, length, slice_get, Contains}
use Rattle.model_disk.specs.Call.{Read, FailedRead}
use Rattle.model_disk.specs.Joint.{JointCall, Disks, on}
use Rattle.raidz_map.specs.declared.column.Column.{Column}
use Rattle.raidz_parity.specs.Layout.{Block}
use Rattle.raidz_io.specs.declared.vdev.Extent.{Extent}
use Rattle.raidz_io.specs.Places.{disk_of, offset_of}
use Rattle.raidz_io.specs.Reads.{GaveSince}
use Rattle.raidz_io.specs.Stands.{IsLayout, AreBytesOf, all_columns}
use Rattle.scrub_resilver.specs.declared.fault.Fault.{Fault}
use Rattle.scrub_resilver.specs.declared.fault.Fault.TheVariants.{Unreadable, Wrong}
use Rattle.scrub_resilver.specs.declared.fault.Finding.{Finding}

-- a buffer was filled by a read; or the read failed, or the disk is missing
pub record IsFilled (old new : Disks) (missing : List ℕ) (disk at : ℕ) (bytes : List ℕ) (is_read : Bool) : Type 0 where
  pub starts : new.starts ≡ old.starts
  pub outcome : ((is_read ≡ true) × (¬ Contains missing disk) × (new.calls ≡ on disk (Read at bytes) ∷ old.calls))
      ⊎ (((is_read ≡ false) × (¬ Contains missing disk) × (new.calls ≡ on disk (FailedRead at (length bytes)) ∷ old.calls))
      ⊎ ((is_read ≡ false) × Contains missing disk × (new.calls ≡ old.calls)))

-- a read of so many bytes there since there were n calls failed
abbrev pub ReadFailedSince : ℕ → List JointCall → ℕ → ℕ → ℕ → Type 0
ReadFailedSince n [] disk at count = ⊥
ReadFailedSince n (made ∷ earlier) disk at count =
    ((n ≤ length earlier) × (made ≡ on disk (FailedRead at count))) ⊎ ReadFailedSince n earlier disk at count

-- What is wrong with the bytes of a disk from that one on: nothing, where a read since gave just these, and they are known to be the block's; it
-- is unreadable where the disk is missing, or a read of them failed since; it is wrong where a read since gave as many others, or these aren't known.
abbrev pub IsJudged : Disks → Disks → List ℕ → Bool → ℕ → ℕ → List ℕ → Option Fault → Type 0
IsJudged old new missing known disk at bytes None = (known ≡ true) × GaveSince (length old.calls) new.calls disk at bytes
IsJudged old new missing known disk at bytes (Some Unreadable) =
    Contains missing disk ⊎ ReadFailedSince (length old.calls) new.calls disk at (length bytes)
IsJudged old new missing known disk at bytes (Some Wrong) =
    (others : List ℕ) × GaveSince (length old.calls) new.calls disk at others × (length others ≡ length bytes) × (known ≡ true → others ≢ bytes)

-- the finding of a column of a copy in that vdev
abbrev pub finding : ℕ → Extent → ℕ → Column → Fault → Finding
finding vdev extent k column fault = record { vdev = vdev; start = extent.start; sectors = extent.sectors; column = k; disk = disk_of extent.vdev column; fault = fault }

-- the finding of that column, or none where nothing is wrong with it
abbrev pub finding_of : ℕ → Extent → ℕ → Column → Option Fault → List Finding
finding_of vdev extent k column None = []
finding_of vdev extent k column (Some fault) = finding vdev extent k column fault ∷ []

-- those of the columns, from column k on, of which these things are wrong
abbrev pub findings_from : ℕ → Extent → ℕ → List Column → List (Option Fault) → List Finding
findings_from vdev extent k (column ∷ layout) (None ∷ faults) = findings_from vdev extent (k + 1) layout faults
findings_from vdev extent k (column ∷ layout) (Some fault ∷ faults) = finding vdev extent k column fault ∷ findings_from vdev extent (k + 1) layout faults
findings_from vdev extent k layout faults = []

-- each column was judged by these bytes
abbrev pub AreJudged : Disks → Disks → List ℕ → Bool → Extent → List Column → List (List ℕ) → List (Option Fault) → Type 0
AreJudged old new missing known extent layout columns faults =
    (k : ℕ) (column : Column) (bytes : List ℕ) (fault : Option Fault) → slice_get layout k ≡ Some column → slice_get columns k ≡ Some bytes
    → slice_get faults k ≡ Some fault → IsJudged old new missing known (disk_of extent.vdev column) (offset_of column) bytes fault

-- the first n columns of a copy were judged, and this was found of them
pub record IsCheckedSoFar (old new : Disks) (missing : List ℕ) (vdev : ℕ) (extent : Extent) (known : Bool) (layout : List Column) (columns : List (List ℕ))
    (n : ℕ) (before found : List Finding) : Type 0 where
  pub faults : List (Option Fault)
  pub count : length faults ≡ n
  pub judged : AreJudged old new missing known extent layout columns faults
  pub found_are : found ≡ before ++ findings_from vdev extent 0 layout faults

-- Every column of a copy was looked at, in order, where the block is this one, or isn't known: just these findings are its own.
pub record IsCopyChecked (old new : Disks) (missing : List ℕ) (vdev : ℕ) (extent : Extent) (known : Bool) (block : List ℕ) (found : List Finding) : Type 0 where
  pub layout : List Column
  pub columns : Block
  pub is_layout : IsLayout extent layout
  pub are_bytes : AreBytesOf extent block layout columns
  pub faults : List (Option Fault)
  pub count : length faults ≡ length layout
  pub judged : AreJudged old new missing known extent layout (all_columns columns) faults
  pub found_are : found ≡ findings_from vdev extent 0 layout faults
