-- Rows of parity as lists.
use Rattle.std.proofs.Common.{ℕ, zero, suc, ◌≡◌, ◌+◌, ◌<◌, ◌≤◌, List, [], ◌∷◌, inl, inr, length, slice_index, All, refl, sym, ◌∙◌, ap, subst, arith}
use Rattle.std.proofs.lemmas.Bool.{cases_lt}
use Rattle.std.proofs.lemmas.List.{get_or_past}
use Rattle.raidz_parity.specs.Layout.{columns_of}
use Rattle.raidz_parity.specs.Parity.{weighted_sum_at, row_from, row_of, RowsAreParities}
use Rattle.raidz_parity.proofs.Split.{lengths-columns_of}
use Rattle.raidz_parity.proofs.Weights.{weighted_sum_at-past, All-wider}

length-row_from : (row : ℕ) (columns : List (List ℕ)) (j n : ℕ) → length (row_from row columns j n) ≡ n
length-row_from row columns j zero = refl
length-row_from row columns j (suc n) = ap suc (length-row_from row columns (suc j) n)

row_from-at : (row : ℕ) (columns : List (List ℕ)) (j n k : ℕ) → k < n → slice_index (row_from row columns j n) k ≡ weighted_sum_at row columns (j + k)
row_from-at row columns j zero k within = absurd (omega arith)
row_from-at row columns j (suc n) zero within = let none : j ≡ j + 0 = omega arith in ap (weighted_sum_at row columns) none
row_from-at row columns j (suc n) (suc k) within =
    let next : suc j + k ≡ j + suc k = omega arith in
    row_from-at row columns (suc j) n k (omega arith) ∙ ap (weighted_sum_at row columns) next

-- bytes that are the sums are the row
sums_from : (row : ℕ) (columns : List (List ℕ)) (j : ℕ) (sums : List ℕ)
    → ((k : ℕ) → k < length sums → slice_index sums k ≡ weighted_sum_at row columns (j + k)) → sums ≡ row_from row columns j (length sums)
sums_from row columns j [] are = refl
sums_from row columns j (x ∷ sums) are =
    let none : j + 0 ≡ j = omega arith in
    let here : x ≡ weighted_sum_at row columns j = are 0 (omega arith) ∙ ap (weighted_sum_at row columns) none in
    let rest : sums ≡ row_from row columns (suc j) (length sums) =
    sums_from row columns (suc j) sums (λ k within.
    let next : j + suc k ≡ suc j + k = omega arith in
    are (suc k) (omega arith) ∙ ap (weighted_sum_at row columns) next) in
    cc

pub sums_are_row : (row n : ℕ) (columns : List (List ℕ)) (sums : List ℕ) → length sums ≡ n
    → ((j : ℕ) → j < length sums → slice_index sums j ≡ weighted_sum_at row columns j) → sums ≡ row_of row columns n
sums_are_row row n columns sums long are =
    sums_from row columns 0 sums (λ k within. let same : k ≡ 0 + k = omega arith in are k within ∙ ap (weighted_sum_at row columns) same)
    ∙ ap (row_from row columns 0) long

pub rows_are_parities : RowsAreParities
rows_are_parities row n lengths bytes fits longest =
    let columns : List (List ℕ) = columns_of lengths bytes in
    let long : length (row_of row columns n) ≡ n = length-row_from row columns 0 n in (
      long,
      λ j. elim (cases_lt j n) [
        | inl within ↦
            let same : 0 + j ≡ j = omega arith in
            row_from-at row columns 0 n j within ∙ ap (weighted_sum_at row columns) same
        | inr past ↦
            let Short : List ℕ → Type 0 = λ ns. All (λ m. m ≤ j) ns in
            get_or_past (row_of row columns n) j 0 (omega (arith, long))
            ∙ sym (weighted_sum_at-past row columns j (subst Short (sym (lengths-columns_of lengths bytes fits)) (All-wider lengths n j (omega arith) longest)))
      ],
    )
