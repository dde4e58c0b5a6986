-- Ranges of volumes under a root, whether or not the root is whole.
use Rattle.std.specs.Prelude.{ℕ, ◌≡◌, ◌⊎◌, ◌+◌, ◌<◌, List, Some, None}
use Rattle.block_pointer.specs.declared.block.Block.{Block}
use Rattle.block_store.specs.declared.refusal.Refusal.{Refusal}
use Rattle.block_store.specs.declared.refusal.Refusal.TheVariants.{BadPointer}
use Rattle.block_store.specs.Spaces.{VdevSpace}
use Rattle.block_store.specs.Steps.{OnlyReadsBlocks}
use Rattle.block_store.specs.Store.{Store}
use Rattle.volume.specs.Reading.{IsReadRefused, LiesIn}
use Rattle.meta_objset.specs.declared.directory.DirectoryRow.{DirectoryRow}
use Rattle.dataset_snapshots.specs.declared.finding.Dataset.{Dataset}
use Rattle.dataset_snapshots.specs.Finding.{HasNoRow, IsFound, IsFoundIn, IsRefused, IsRefusedIn}

-- the name was found, but its volume is too small for the range, or there is no such name
abbrev pub IsNotThere : Store → ℕ → Block → List ℕ → ℕ → Type 0
IsNotThere old birth root name end =
    IsFound old.spaces birth root name None
    ⊎ ((dataset : Dataset) × IsFound old.spaces birth root name (Some dataset) × (dataset.record.size < end))

-- the dataset was found, and then a block of its data in which the range lies could not be read
pub record IsDataUnread (old new : Store) (missing : List ℕ) (birth : ℕ) (root : Block) (name : List ℕ) (offset len : ℕ)
    (refusal : Refusal) : Type 0 where
  pub dataset : Dataset
  pub found : IsFound old.spaces birth root name (Some dataset)
  pub mid : Store
  pub before : OnlyReadsBlocks old mid missing
  pub why : IsReadRefused mid new missing dataset.volume root.birth
      (LiesIn dataset.volume offset (offset + len)) refusal

-- why a range of a volume was not read: the way to its name was not, or the name or the range isn't there, or a block was not
abbrev pub IsRangeRefused : Store → Store → List ℕ → ℕ → Block → List ℕ → ℕ → ℕ → Refusal → Type 0
IsRangeRefused old new missing birth root name offset len refusal =
    IsRefused old new missing birth root name refusal
    ⊎ (((refusal ≡ BadPointer) × IsNotThere old birth root name (offset + len))
    ⊎ IsDataUnread old new missing birth root name offset len refusal)

-- ---- by the rows of a directory that is kept in memory: nothing of the directory's blocks is read

-- the rows haven't got the name, or its volume was found, and is too small for the range
abbrev pub IsNotThereIn : List VdevSpace → ℕ → Block → List DirectoryRow → List ℕ → ℕ → Type 0
IsNotThereIn spaces birth root rows name end =
    HasNoRow rows name
    ⊎ ((dataset : Dataset) × IsFoundIn spaces birth root rows name (Some dataset)
    × (dataset.record.size < end))

-- the dataset was found, and then a block of its data in which the range lies could not be read
pub record IsDataUnreadIn (old new : Store) (missing : List ℕ) (birth : ℕ) (root : Block)
    (rows : List DirectoryRow) (name : List ℕ) (offset len : ℕ) (refusal : Refusal) : Type 0 where
  pub dataset : Dataset
  pub found : IsFoundIn old.spaces birth root rows name (Some dataset)
  pub mid : Store
  pub before : OnlyReadsBlocks old mid missing
  pub why : IsReadRefused mid new missing dataset.volume root.birth
      (LiesIn dataset.volume offset (offset + len)) refusal

-- why a range of a volume was not read: the root or the record of its name was not, or the name or
-- the range isn't there, or a block was not
abbrev pub IsRangeRefusedIn : Store → Store → List ℕ → ℕ → Block → List DirectoryRow → List ℕ
    → ℕ → ℕ → Refusal → Type 0
IsRangeRefusedIn old new missing birth root rows name offset len refusal =
    IsRefusedIn old new missing birth root rows name refusal
    ⊎ (((refusal ≡ BadPointer)
    × IsNotThereIn old.spaces birth root rows name (offset + len))
    ⊎ IsDataUnreadIn old new missing birth root rows name offset len refusal)
