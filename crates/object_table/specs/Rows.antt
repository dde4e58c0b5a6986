-- Lists of rows as the bytes of whole blocks.
use Rattle.std.specs.Prelude.{ℕ, ◌≡◌, ◌-◌, ◌*◌, ◌^◌, ◌<◌, List, [], ◌∷◌, ◌++◌, length, replicate}
use Rattle.words.specs.Words.{word_bytes}
use Rattle.object_table.specs.declared.shape.RowShape.{RowShape}
use Rattle.object_table.specs.Shape.{AreRows}

-- The first row's word is the number of rows, and zeros fill the row. The rows follow, and then zeros up to the end of the last
-- block: of 4,096 bytes each, and no more blocks than the rows need.
pub record SpellsRows (shape : RowShape) (bytes rows : List ℕ) : Type 0 where
  pub count : ℕ
  pub small : count < 2 ^ 64
  pub are_rows : AreRows shape count rows
  pub zeros : ℕ
  pub few : zeros < 4096
  pub blocks : ℕ
  pub whole : length bytes ≡ blocks * 4096
  pub spelled : bytes ≡ word_bytes (count ∷ []) ++ (replicate (shape.first_len - 8) 0 ++ (rows ++ replicate zeros 0))
