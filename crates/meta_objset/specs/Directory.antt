-- Names and the objects that they name.
use Rattle.std.specs.Prelude.{ℕ, ◌≡◌, ◌≢◌, ◌⊎◌, ◌↔◌, ◌^◌, ◌<◌, ◌≤◌, List, [], ◌∷◌, ◌++◌, length, take, drop, insert, All, AllPairs, Contains}
use Rattle.std.specs.List.{flat_map}
use Rattle.words.specs.Words.{word_bytes}
use Rattle.object_table.specs.declared.shape.RowShape.{RowShape}
use Rattle.object_table.specs.Rows.{SpellsRows}
use Rattle.meta_objset.specs.declared.directory.DirectoryRow.{DirectoryRow}
use Rattle.meta_objset.specs.Names.{IsName, IsBefore}

-- a name, and the number of an object
pub record FitsRow (row : DirectoryRow) : Type 0 where
  pub name : IsName row.name
  pub object : row.object < 2 ^ 64

-- the names ascend, so each is there once
pub record IsDirectory (rows : List DirectoryRow) : Type 0 where
  pub each : All FitsRow rows
  pub order : AllPairs (λ row later. IsBefore row.name later.name) rows

-- no row has the name
abbrev pub LacksName : List DirectoryRow → List ℕ → Type 0
LacksName rows name = All (λ row. row.name ≢ name) rows

-- these are the rows before and one more
abbrev pub IsWith : List DirectoryRow → DirectoryRow → List DirectoryRow → Type 0
IsWith before row after = (other : DirectoryRow) → Contains after other ↔ (Contains before other ⊎ (other ≡ row))

-- the row was put among the rows before where its name belongs
pub record IsPlacedAmong (before : List DirectoryRow) (row : DirectoryRow) (after : List DirectoryRow)
    : Type 0 where
  pub at : ℕ
  pub within : at ≤ length before
  pub front : All (λ other. IsBefore other.name row.name) (take at before)
  pub behind : All (λ other. IsBefore row.name other.name) (drop at before)
  pub placed : after ≡ insert before at row

-- these are the rows before but for the one of that name
abbrev pub IsWithout : List DirectoryRow → List ℕ → List DirectoryRow → Type 0
IsWithout before name after = (other : DirectoryRow) → Contains after other ↔ (Contains before other × (other.name ≢ name))

-- 56 bytes of the name, and the number
abbrev pub row_bytes : DirectoryRow → List ℕ
row_bytes row = row.name ++ word_bytes (row.object ∷ [])

-- these bytes, and no others, spell the row
abbrev pub SpellsRow : List ℕ → DirectoryRow → Type 0
SpellsRow bytes row = FitsRow row × (bytes ≡ row_bytes row)

-- the bytes of the rows, one after another
abbrev pub rows_bytes : List DirectoryRow → List ℕ
rows_bytes rows = flat_map row_bytes rows

-- rows of 64 bytes behind a first row of 64
abbrev pub directory_shape : RowShape
directory_shape = record { first_len = 64; row_len = 64 }

-- the bytes of whole blocks, and no others, spell the directory
abbrev pub SpellsDirectory : List ℕ → List DirectoryRow → Type 0
SpellsDirectory bytes rows = IsDirectory rows × SpellsRows directory_shape bytes (rows_bytes rows)
