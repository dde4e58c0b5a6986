-- Parity rows, and their writes.
use Rattle.std.proofs.Common.{ℕ, zero, suc, ◌≡◌, ◌<◌, ◌≤◌, List, [], ◌∷◌, length, map, replicate, sum, Some, All, refl, ap, subst, ◌∙◌, arith}
use Rattle.std.specs.List.{slice_get}
use Rattle.raidz_parity.specs.Layout.{columns_of, laid_out}
use Rattle.raidz_parity.specs.Parity.{row_from, row_of, IsParity, IsParityOf, RowsAreParities}
use Rattle.raidz_io.specs.Writes.{rows_of}

length-row_from : (row : ℕ) (columns : List (List ℕ)) (j n : ℕ) → length (row_from row columns j n) ≡ n
length-row_from row columns j zero = refl
length-row_from row columns j (suc n) = ap suc (length-row_from row columns (suc j) n)

pub length-row_of : (row : ℕ) (columns : List (List ℕ)) (n : ℕ) → length (row_of row columns n) ≡ n
length-row_of row columns n = length-row_from row columns 0 n

-- bytes that are the row have its length
pub given_length : (row n : ℕ) (columns : List (List ℕ)) (bytes : List ℕ) → bytes ≡ row_of row columns n → length bytes ≡ n
given_length row n columns bytes is = ap length is ∙ length-row_of row columns n

-- of at most two rows, the one at i
pub row_at : (count i : ℕ) (columns : List (List ℕ)) (n : ℕ) → i < count → count ≤ 2 → slice_get (rows_of count columns n) i ≡ Some (row_of i columns n)
row_at zero i columns n within most = absurd (omega arith)
row_at (suc zero) zero columns n within most = refl
row_at (suc zero) (suc i) columns n within most = absurd (omega arith)
row_at (suc (suc zero)) zero columns n within most = refl
row_at (suc (suc zero)) (suc zero) columns n within most = refl
row_at (suc (suc zero)) (suc (suc i)) columns n within most = absurd (omega arith)
row_at (suc (suc (suc count))) i columns n within most = absurd (omega arith)

pub lengths_of_rows : (count : ℕ) (columns : List (List ℕ)) (n : ℕ) → count ≤ 2 → map (length {A = ℕ}) (rows_of count columns n) ≡ replicate count n
lengths_of_rows zero columns n most = refl
lengths_of_rows (suc zero) columns n most = ap (λ m. m ∷ []) (length-row_of 0 columns n)
lengths_of_rows (suc (suc zero)) columns n most = let one = length-row_of 0 columns n in let two = length-row_of 1 columns n in cc
lengths_of_rows (suc (suc (suc count))) columns n most = absurd (omega arith)

below : (count row : ℕ) (columns : List (List ℕ)) (n : ℕ) (parity : List ℕ) → count ≤ 2 → slice_get (rows_of count columns n) row ≡ Some parity
    → row_of row columns n ≡ parity
below zero row columns n parity most at = absurd (cc)
below (suc zero) zero columns n parity most at = cc
below (suc zero) (suc row) columns n parity most at = absurd (cc)
below (suc (suc zero)) zero columns n parity most at = cc
below (suc (suc zero)) (suc zero) columns n parity most at = cc
below (suc (suc zero)) (suc (suc row)) columns n parity most at = absurd (cc)
below (suc (suc (suc count))) row columns n parity most at = absurd (omega arith)

-- rows as long as the longest column are the parity
pub rows_are_parity : RowsAreParities → (count n : ℕ) (lengths block : List ℕ) → count ≤ 2 → sum lengths ≤ length block → All (λ m. m ≤ n) lengths
    → IsParity (laid_out (rows_of count (columns_of lengths block) n) lengths block)
rows_are_parity law count n lengths block most fits longest row parity at =
    let Is : List ℕ → Type 0 = λ bytes. IsParityOf row bytes (columns_of lengths block) in
    subst Is (below count row (columns_of lengths block) n parity most at) (law row n lengths block fits longest).1
