-- Of which snapshots the records of a pool's datasets tell that its volumes are clones.
use Rattle.std.specs.Prelude.{ℕ, ◌≡◌, ◌≢◌, ◌⊎◌, List, Option, Some, None, Contains, nat_eq}
use Rattle.std.specs.HashMap.{HashMap, get}
use Rattle.std.specs.declared.hash.BuildHasherDefault.{BuildHasherDefault}
use Rattle.std.specs.declared.hash.FoldHasher.{FoldHasher}
use Rattle.meta_objset.specs.declared.directory.DirectoryRow.{DirectoryRow}
use Rattle.meta_objset.specs.declared.record.DatasetRecord.{DatasetRecord}
use Rattle.meta_objset.specs.Names.{IsName, IsNamed}
use Rattle.pool_model.specs.declared.volume.PlainVolume.{PlainVolume}
use Rattle.pool_model.specs.Names.{volume_part}
use Rattle.dataset_snapshots.specs.declared.chaining.RowRecord.{RowRecord}
use Rattle.dataset_snapshots.specs.Chaining.{HasRecordAt}

-- The dataset of a row branches off that of another: its record names that one as what is before it, and the record of that one
-- something else as what comes next.
pub record RowBranchesOff (records : List RowRecord) (row before : DirectoryRow) : Type 0 where
  pub r : DatasetRecord
  pub has : HasRecordAt records row.object r
  pub some : r.previous ≢ 0
  pub previous : r.previous ≡ before.object
  pub s : DatasetRecord
  pub there : HasRecordAt records before.object s
  pub other : s.next ≢ row.object

-- The row tells that the volume of the first name is a clone of the snapshot of the second: it is of that volume, and branches off the
-- row of that snapshot.
pub record TellsClone (rows : List DirectoryRow) (records : List RowRecord) (row : DirectoryRow) (name origin : List ℕ) : Type 0 where
  pub before : DirectoryRow
  pub among : Contains rows before
  pub branches : RowBranchesOff records row before
  pub called : List ℕ
  pub named : IsNamed row.name called
  pub part : volume_part called ≡ name
  pub snapshot : IsNamed before.name origin

-- one of the rows does
abbrev pub TellsOrigin : List DirectoryRow → List RowRecord → List ℕ → List ℕ → Type 0
TellsOrigin rows records name origin =
    (row : DirectoryRow) × Contains rows row × TellsClone rows records row name origin

-- the origin is one that is told; there is none where none is told
abbrev pub IsToldOrigin : (List ℕ → Type 0) → Option (List ℕ) → Type 0
IsToldOrigin Told None = (origin : List ℕ) → ¬ Told origin
IsToldOrigin Told (Some origin) = Told origin

-- the same volume, with an origin that is told of its name, or with none
pub record HasToldOrigin (Told : List ℕ → List ℕ → Type 0) (bare volume : PlainVolume) : Type 0 where
  pub same : volume ≡ record bare { origin = volume.origin }
  pub told : IsToldOrigin (Told bare.name) volume.origin

-- the origin is one that is told; where none is told it is the one before
abbrev pub IsOriginNow : (List ℕ → Type 0) → Option (List ℕ) → Option (List ℕ) → Type 0
IsOriginNow Told before now =
    ((origin : List ℕ) × Told origin × (now ≡ Some origin))
    ⊎ (((origin : List ℕ) → ¬ Told origin) × (now ≡ before))

-- the same volume, with an origin that is told of its name, or with its own
pub record IsSetBy (Told : List ℕ → List ℕ → Type 0) (before now : PlainVolume) : Type 0 where
  pub same : now ≡ record before { origin = now.origin }
  pub told : IsOriginNow (Told before.name) before.origin now.origin

-- ---- how rows are looked up

-- rows by their objects
abbrev pub RowIndex : Type 0
RowIndex = HashMap ℕ DirectoryRow (BuildHasherDefault FoldHasher)

-- the index has one of the rows at the object of each
pub record IsRowIndex (rows : List DirectoryRow) (index : RowIndex) : Type 0 where
  pub has : (object : ℕ) (row : DirectoryRow) → get nat_eq index object ≡ Some row
      → Contains rows row × (row.object ≡ object)
  pub each : (row : DirectoryRow) → Contains rows row → get nat_eq index row.object ≢ None

-- the rows that it has have names
abbrev pub HasNames : RowIndex → Type 0
HasNames index = (object : ℕ) (row : DirectoryRow) → get nat_eq index object ≡ Some row → IsName row.name
