-- What is written of a block.
use Rattle.std.specs.Prelude.{ℕ, ◌≡◌, ◌≤◌, Bool, true, List, [], ◌∷◌, length, map, take, sum}
use Rattle.raidz_parity.specs.Layout.{columns_of}
use Rattle.raidz_parity.specs.Parity.{row_of}

-- bytes that are written on a disk, from this byte of it on
pub record ColumnWrite : Type 0 where
  pub disk : ℕ
  pub offset : ℕ
  pub bytes : List ℕ

-- the parity `row` of the columns of these lengths, which lie in the block one after the other, and room for its bytes: they are in it where it is made
pub record IsRow (row : ℕ) (lengths block room : List ℕ) (is_made : Bool) : Type 0 where
  pub known : row ≤ 1
  pub fits : sum lengths ≤ length block
  pub made : is_made ≡ true → room ≡ row_of row (columns_of lengths block) (length room)

-- so many parities of the columns, at most two, each of n bytes
abbrev pub rows_of : ℕ → List (List ℕ) → ℕ → List (List ℕ)
rows_of count columns n = map (λ row. row_of row columns n) (take count (0 ∷ 1 ∷ []))
