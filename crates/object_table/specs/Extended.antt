-- Tables with rows added.
use Rattle.std.specs.Prelude.{ℕ, Vec, ◌≡◌, ◌⊎◌, ◌+◌, ◌*◌, ◌/◌, ◌%◌, ◌^◌, ◌<◌, ◌≤◌, List, ◌++◌, ◌∷◌, length, take, replicate, All}
use Rattle.std.specs.declared.alloc.Global.{Global}
use Rattle.dnode_tree.specs.declared.writes.BlockWrite.{BlockWrite}
use Rattle.objset.specs.declared.changes.Change.{Change}
use Rattle.objset.specs.declared.changes.Change.TheVariants.{Create, Put, Free, Replace}
use Rattle.object_table.specs.declared.ends.TableEnd.{TableEnd}
use Rattle.object_table.specs.declared.shape.RowShape.{RowShape}
use Rattle.object_table.specs.Made.{AreBlocksOf}

-- the byte of a table at which so many rows end
abbrev pub end_of_rows : RowShape → ℕ → ℕ
end_of_rows shape count = shape.first_len + count * shape.row_len

-- of a table with so many rows the change writes the first block and those from the rows' end on, and no other
abbrev pub IsExtension : RowShape → ℕ → Change → Type 0
IsExtension shape count (Put writes) =
    All (λ write. (write.id ≡ 0) ⊎ (end_of_rows shape count / 4096 ≤ write.id)) writes.items
IsExtension shape count (Create object_type sectors writes) = ⊥
IsExtension shape count Free = ⊥
IsExtension shape count (Replace writes) = ⊥

-- ---- Only the crate's own functions say these.

-- the end has whole blocks, and with these rows there are less than 2^46 bytes of rows
pub record HasRoomFor (shape : RowShape) (end : TableEnd) (rows : List ℕ) : Type 0 where
  pub first : length end.first.items ≡ 4096
  pub last : length end.last.items ≡ 4096
  pub few : end.rows * shape.row_len + length rows < 2 ^ 46

-- whole blocks: what stood at the front of the first of them, the rows behind it, and zeros up to the end of the last one
pub record AreTailBytes (front rows bytes : List ℕ) : Type 0 where
  pub zeros : ℕ
  pub few : zeros < 4096
  pub whole : length bytes % 4096 ≡ 0
  pub bytes_are : bytes ≡ front ++ (rows ++ replicate zeros 0)

-- The writes make the blocks from the one on in which the old rows end, at that place: it is the first block, or the last one.
pub record AreTailWrites (first last : List ℕ) (place : ℕ) (rows : List ℕ) (writes : List BlockWrite) : Type 0 where
  pub block : List ℕ
  pub at_first : place < 4096 → block ≡ first
  pub at_last : 4096 ≤ place → block ≡ last
  pub bytes : List ℕ
  pub are : AreTailBytes (take (place % 4096) block) rows bytes
  pub blocks : AreBlocksOf (place / 4096) bytes (length bytes / 4096) writes

-- Before them the first block is written, where it is not one of them.
pub record AreEndWrites (first : Vec ℕ Global) (last : List ℕ) (place : ℕ) (rows : List ℕ) (writes : List BlockWrite) : Type 0 where
  pub tail : List BlockWrite
  pub are : AreTailWrites first.items last place rows tail
  pub which : ((place < 4096) × (writes ≡ tail))
      ⊎ ((4096 ≤ place) × (writes ≡ (record { id = 0; bytes = first }) ∷ tail))
