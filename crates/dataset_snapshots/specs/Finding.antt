-- What a root has of a name.
use Rattle.std.specs.Prelude.{ℕ, ◌≡◌, ◌≢◌, ◌⊎◌, List, Option, Some, None, Contains}
use Rattle.block_pointer.specs.declared.block.Block.{Block}
use Rattle.block_store.specs.Blocks.{Contents}
use Rattle.block_store.specs.declared.refusal.Refusal.{Refusal}
use Rattle.block_store.specs.declared.refusal.Refusal.TheVariants.{BadPointer}
use Rattle.block_store.specs.Spaces.{VdevSpace}
use Rattle.block_store.specs.Steps.{OnlyReadsBlocks}
use Rattle.block_store.specs.Store.{Store}
use Rattle.dnode.specs.declared.object_set.ObjectSet.{ObjectSet}
use Rattle.dnode.specs.declared.object_set.ObjectSetKind.TheVariants as sets
use Rattle.objset.specs.Sets.{IsSetFound, IsSetRefused}
use Rattle.meta_objset.specs.declared.directory.DirectoryRow.{DirectoryRow}
use Rattle.meta_objset.specs.Directory.{LacksName}
use Rattle.meta_objset.specs.Found.{AreDirectoryRows, IsDirectoryFound, IsRecordFound, IsRecordRefused, IsRowsRefused}
use Rattle.meta_objset.specs.Names.{IsNamed}
use Rattle.meta_objset.specs.Reading.{directory_kind}
use Rattle.pool_model.specs.declared.volume.PlainVolume.{PlainVolume}
use Rattle.volume.specs.Volume.{HasShape, Spells, block_of}
use Rattle.dataset_snapshots.specs.declared.finding.Dataset.{Dataset}
use Rattle.dataset_snapshots.specs.Pools.{IsRecordOf}

-- the dataset has the volume's record and bytes; a name without one has neither
abbrev pub HasDataset : Contents → ℕ → Option PlainVolume → Option Dataset → Type 0
HasDataset stored birth None None = Unit {0}
HasDataset stored birth None (Some dataset) = ⊥
HasDataset stored birth (Some volume) None = ⊥
HasDataset stored birth (Some volume) (Some dataset) =
    IsRecordOf dataset.record volume × Spells stored birth dataset.volume volume.bytes

-- the volume is that of the record
abbrev pub IsVolumeOf : Dataset → Type 0
IsVolumeOf dataset =
    HasShape dataset.volume dataset.record.size dataset.record.block_size
    × (block_of dataset.volume ≡ dataset.record.object_set)

-- ---- what was read, whether or not the root is whole

-- the root's block was read, and spells a meta object set
abbrev pub IsMetaFound : List VdevSpace → ℕ → Block → ObjectSet → Type 0
IsMetaFound spaces birth root set = IsSetFound spaces birth root set × (set.kind ≡ sets.Meta)

-- it was not read, or spells another object set
abbrev pub IsMetaRefused : Store → Store → List ℕ → ℕ → Block → Refusal → Type 0
IsMetaRefused old new missing birth root refusal =
    IsSetRefused old new missing birth root refusal
    ⊎ ((refusal ≡ BadPointer) × ((set : ObjectSet) × IsSetFound old.spaces birth root set × (set.kind ≢ sets.Meta)))

-- the root's directory was read
pub record AreRowsFound (spaces : List VdevSpace) (birth : ℕ) (root : Block) (set : ObjectSet)
    (rows : List DirectoryRow) : Type 0 where
  pub meta : IsMetaFound spaces birth root set
  pub directory : IsDirectoryFound spaces set root.birth rows

-- the name stands in the directory, with this object
abbrev pub IsRowOf : List DirectoryRow → List ℕ → ℕ → Type 0
IsRowOf rows name object =
    (row : DirectoryRow) × Contains rows row × IsNamed row.name name × (row.object ≡ object)

-- or it doesn't
abbrev pub HasNoRow : List DirectoryRow → List ℕ → Type 0
HasNoRow rows name = (padded : List ℕ) → IsNamed padded name → LacksName rows padded

-- the object that the directory has for a name, if it has one
abbrev pub IsNumberIn : List DirectoryRow → List ℕ → Option ℕ → Type 0
IsNumberIn rows name None = HasNoRow rows name
IsNumberIn rows name (Some object) = IsRowOf rows name object

-- the dataset's record was read
abbrev pub IsDatasetRead : List VdevSpace → Block → ObjectSet → Option ℕ → Option Dataset → Type 0
IsDatasetRead spaces root set None found = found ≡ None
IsDatasetRead spaces root set (Some object) found =
    (dataset : Dataset) × (found ≡ Some dataset) × (dataset.object ≡ object) × IsVolumeOf dataset
    × IsRecordFound spaces set root.birth object dataset.record

-- what was found of a name: nothing where the directory hasn't got it, or where no row can have it
pub record IsFound (spaces : List VdevSpace) (birth : ℕ) (root : Block) (name : List ℕ)
    (found : Option Dataset) : Type 0 where
  pub set : ObjectSet
  pub rows : List DirectoryRow
  pub read : AreRowsFound spaces birth root set rows
  pub number : Option ℕ
  pub is_number : IsNumberIn rows name number
  pub dataset : IsDatasetRead spaces root set number found

-- the root was read, and its directory was not
pub record IsDirectoryRefused (old new : Store) (missing : List ℕ) (birth : ℕ) (root : Block)
    (refusal : Refusal) : Type 0 where
  pub set : ObjectSet
  pub meta : IsMetaFound old.spaces birth root set
  pub mid : Store
  pub before : OnlyReadsBlocks old mid missing
  pub why : IsRowsRefused mid new missing set root.birth directory_kind 1 AreDirectoryRows refusal

-- the directory was read, and the record of the name was not
pub record IsRecordUnread (old new : Store) (missing : List ℕ) (birth : ℕ) (root : Block)
    (name : List ℕ) (refusal : Refusal) : Type 0 where
  pub set : ObjectSet
  pub rows : List DirectoryRow
  pub read : AreRowsFound old.spaces birth root set rows
  pub object : ℕ
  pub is_row : IsRowOf rows name object
  pub mid : Store
  pub before : OnlyReadsBlocks old mid missing
  pub why : IsRecordRefused mid new missing set root.birth object refusal

-- why nothing was found of a name: the root was not read, or its directory, or the record
abbrev pub IsRefused : Store → Store → List ℕ → ℕ → Block → List ℕ → Refusal → Type 0
IsRefused old new missing birth root name refusal =
    IsMetaRefused old new missing birth root refusal
    ⊎ (IsDirectoryRefused old new missing birth root refusal
    ⊎ IsRecordUnread old new missing birth root name refusal)

-- ---- by the rows of a directory that is kept in memory: nothing of the directory's blocks is read

-- what was found of a name: nothing where the rows haven't got it; else the root was read, and then
-- the record of the row's object
abbrev pub IsFoundIn :
    List VdevSpace → ℕ → Block → List DirectoryRow → List ℕ → Option Dataset → Type 0
IsFoundIn spaces birth root rows name None = HasNoRow rows name
IsFoundIn spaces birth root rows name (Some dataset) =
    IsRowOf rows name dataset.object × IsVolumeOf dataset × (set : ObjectSet)
    × IsMetaFound spaces birth root set
    × IsRecordFound spaces set root.birth dataset.object dataset.record

-- the root was read, and the record of this object was not
pub record IsObjectUnread (old new : Store) (missing : List ℕ) (birth : ℕ) (root : Block)
    (object : ℕ) (refusal : Refusal) : Type 0 where
  pub set : ObjectSet
  pub meta : IsMetaFound old.spaces birth root set
  pub mid : Store
  pub before : OnlyReadsBlocks old mid missing
  pub why : IsRecordRefused mid new missing set root.birth object refusal

-- why nothing was found of a name that the rows have: the root was not read, or the record of the
-- row's object
abbrev pub IsRefusedIn :
    Store → Store → List ℕ → ℕ → Block → List DirectoryRow → List ℕ → Refusal → Type 0
IsRefusedIn old new missing birth root rows name refusal =
    (object : ℕ) × IsRowOf rows name object
    × (IsMetaRefused old new missing birth root refusal
    ⊎ IsObjectUnread old new missing birth root object refusal)
