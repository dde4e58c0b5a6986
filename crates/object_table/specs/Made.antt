-- Tables that are made.
use Rattle.std.specs.Prelude.{ℕ, ◌≡◌, ◌+◌, ◌*◌, ◌<◌, List, None, take}
use Rattle.dnode_tree.specs.declared.writes.BlockWrite.{BlockWrite}
use Rattle.dnode_tree.specs.Writes.{AreBetween, AreInOrder, written}
use Rattle.objset.specs.Changes.{AreGoodWrites, AreWhole, highest_of}
use Rattle.object_table.specs.declared.shape.RowShape.{RowShape}
use Rattle.object_table.specs.Tables.{IsFront, IsTableTo}

-- Over no blocks, the writes make the first blocks of the bytes, of 4,096 each, from that id on, and no others.
pub record AreBlocksOf (first : ℕ) (bytes : List ℕ) (count : ℕ) (writes : List BlockWrite) : Type 0 where
  pub order : AreInOrder writes
  pub ids : AreBetween first (first + count) writes
  pub last : 0 < count → highest_of writes 0 + 1 ≡ first + count
  pub whole : AreWhole 8 writes
  pub front : IsFront (λ id. written writes (λ id. None) (first + id)) count (take (count * 4096) bytes)

-- Over no blocks, the writes make the blocks of a table with these rows.
pub record AreTableWrites (shape : RowShape) (rows : List ℕ) (writes : List BlockWrite) : Type 0 where
  pub good : AreGoodWrites writes
  pub whole : AreWhole 8 writes
  pub table : IsTableTo shape (highest_of writes 0) (written writes (λ id. None)) rows
