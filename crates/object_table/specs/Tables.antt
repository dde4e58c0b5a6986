-- Tables in objects.
use Rattle.std.specs.Prelude.{ℕ, zero, suc, ◌≡◌, ◌≢◌, ◌+◌, ◌<◌, ◌≤◌, List, [], ◌++◌, length, Option, Some, None}
use Rattle.objset.specs.Objects.{Object}
use Rattle.object_table.specs.declared.kind.TableKind.{TableKind}
use Rattle.object_table.specs.declared.shape.RowShape.{RowShape}
use Rattle.object_table.specs.Rows.{SpellsRows}

-- the bytes of a block, none at a hole
abbrev pub bytes_at : Option (List ℕ) → List ℕ
bytes_at None = []
bytes_at (Some bytes) = bytes

-- the bytes of so many blocks of an array, one block after the other
abbrev pub bytes_to : (ℕ → Option (List ℕ)) → ℕ → List ℕ
bytes_to array zero = []
bytes_to array (suc count) = bytes_to array count ++ bytes_at (array count)

-- these are the bytes of so many blocks, none of them a hole
abbrev pub IsFront : (ℕ → Option (List ℕ)) → ℕ → List ℕ → Type 0
IsFront array count bytes = ((id : ℕ) → id < count → array id ≢ None) × (bytes ≡ bytes_to array count)

-- each block of the array has 4,096 bytes
abbrev pub HasWholeBlocks : (ℕ → Option (List ℕ)) → Type 0
HasWholeBlocks array = (id : ℕ) (bytes : List ℕ) → array id ≡ Some bytes → length bytes ≡ 4096

-- the object has the table's type, and blocks of 8 sectors
abbrev pub IsOfKind : TableKind → Object → Type 0
IsOfKind kind object = (object.object_type ≡ kind.object_type) × (object.data_sectors ≡ 8)

-- The array spells the rows up to this block id: none of its blocks is a hole, and nothing is behind them.
pub record IsTableTo (shape : RowShape) (highest : ℕ) (array : ℕ → Option (List ℕ)) (rows : List ℕ) : Type 0 where
  pub no_hole : (id : ℕ) → id ≤ highest → array id ≢ None
  pub behind : (id : ℕ) → highest < id → array id ≡ None
  pub spelled : SpellsRows shape (bytes_to array (highest + 1)) rows

-- The object has a table with these rows: its blocks up to the highest spell them.
pub record HasTable (kind : TableKind) (object : Option Object) (rows : List ℕ) : Type 0 where
  pub there : Object
  pub is : object ≡ Some there
  pub of_kind : IsOfKind kind there
  pub table : IsTableTo kind.rows there.highest there.array rows
