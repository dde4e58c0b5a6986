-- How rows stand in a table.
use Rattle.std.specs.Prelude.{ℕ, ◌≡◌, ◌*◌, ◌<◌, ◌≤◌, List, length}
use Rattle.object_table.specs.declared.shape.RowShape.{RowShape}

-- the first row has room for a word, no row is empty, and none is larger than a block
pub record FitsShape (shape : RowShape) : Type 0 where
  pub word : 8 ≤ shape.first_len
  pub first : shape.first_len ≤ 4096
  pub some : 0 < shape.row_len
  pub row : shape.row_len ≤ 4096

-- so many rows, one after the other
abbrev pub AreRows : RowShape → ℕ → List ℕ → Type 0
AreRows shape count rows = length rows ≡ count * shape.row_len
