-- Each data has parity columns.
use Rattle.std.proofs.Common.{ℕ, zero, suc, ◌≡◌, ◌+◌, ◌<◌, ◌≤◌, inl, inr, List, [], ◌∷◌, length, map, replicate, slice_index, bit_xor, sum, Some, All, refl, sym, ap, ◌∙◌, arith}
use Rattle.std.specs.List.{slice_get}
use Rattle.std.specs.Int.Bits.{xor_zero_l}
use Rattle.std.proofs.lemmas.Bool.{cases_lt}
use Rattle.std.proofs.lemmas.List.Elements.{All-head, All-tail}
use Rattle.gf256.specs.Field.{product}
use Rattle.gf256.proofs.Laws.{product-zero_right}
use Rattle.raidz_parity.specs.Layout.{Block, columns_of}
use Rattle.raidz_parity.specs.Parity.{weight, weighted_sum_at, IsParityOf}
use Rattle.raidz_io.specs.Stripe.{IsStripe}
use Rattle.raidz_io.specs.Choices.{IsWhole}
use Rattle.raidz_io.proofs.Parts.{lengths-columns_of}
use Rattle.raidz_io.proofs.Written.{same_some}

-- the first n values of a function
tabulated : (ℕ → ℕ) → ℕ → List ℕ
tabulated f zero = []
tabulated f (suc n) = f 0 ∷ tabulated (λ j. f (suc j)) n

length-tabulated : (f : ℕ → ℕ) (n : ℕ) → length (tabulated f n) ≡ n
unfolding tabulated
length-tabulated f zero = refl
length-tabulated f (suc n) = ap suc (length-tabulated (λ j. f (suc j)) n)

slice_index-tabulated : (f : ℕ → ℕ) (n j : ℕ) → j < n → slice_index (tabulated f n) j ≡ f j
unfolding tabulated
slice_index-tabulated f zero j within = absurd (omega arith)
slice_index-tabulated f (suc n) zero within = refl
slice_index-tabulated f (suc n) (suc j) within = slice_index-tabulated (λ k. f (suc k)) n j (omega arith)

slice_index-past : (xs : List ℕ) (j : ℕ) → length xs ≤ j → slice_index xs j ≡ 0
slice_index-past [] j past = refl
slice_index-past (x ∷ xs) zero past = absurd (omega arith)
slice_index-past (x ∷ xs) (suc j) past = slice_index-past xs j (omega arith)

-- past all columns the sum is zero
sum_past : (row : ℕ) (columns : List (List ℕ)) (n j : ℕ) → All (λ m. m ≤ n) (map (length {A = ℕ}) columns) → n ≤ j → weighted_sum_at row columns j ≡ 0
sum_past row [] n j short past = refl
sum_past row (c ∷ columns) n j short past =
    let here : slice_index c j ≡ 0 =
    slice_index-past c j (omega (arith, All-head (λ m. m ≤ n) (length c) (map (length {A = ℕ}) columns) short, past)) in
    let rest : weighted_sum_at row columns j ≡ 0 =
    sum_past row columns n j (All-tail (λ m. m ≤ n) (length c) (map (length {A = ℕ}) columns) short) past in
    ap (λ s. bit_xor (product (weight row (length columns)) s) (weighted_sum_at row columns j)) here
    ∙ ap (λ s. bit_xor s (weighted_sum_at row columns j)) (product-zero_right (weight row (length columns)))
    ∙ xor_zero_l (weighted_sum_at row columns j) ∙ rest

-- the parity columns of this size, from a row on
rows_from : ℕ → ℕ → ℕ → List (List ℕ) → List (List ℕ)
rows_from zero row n columns = []
rows_from (suc p) row n columns = tabulated (weighted_sum_at row columns) n ∷ rows_from p (suc row) n columns

length-rows_from : (p row n : ℕ) (columns : List (List ℕ)) → map (length {A = ℕ}) (rows_from p row n columns) ≡ replicate p n
unfolding rows_from
length-rows_from zero row n columns = refl
length-rows_from (suc p) row n columns =
    let here : length (tabulated (weighted_sum_at row columns) n) ≡ n = length-tabulated (weighted_sum_at row columns) n in
    let rest : map (length {A = ℕ}) (rows_from p (suc row) n columns) ≡ replicate p n = length-rows_from p (suc row) n columns in
    cc

row_right : (row n : ℕ) (columns : List (List ℕ)) → All (λ m. m ≤ n) (map (length {A = ℕ}) columns)
    → IsParityOf row (tabulated (weighted_sum_at row columns) n) columns
row_right row n columns short j =
    let f : ℕ → ℕ = weighted_sum_at row columns in
    elim (cases_lt j n) [
      | inl within ↦ slice_index-tabulated f n j within
      | inr past ↦
          slice_index-past (tabulated f n) j (omega (arith, length-tabulated f n, past)) ∙ sym (sum_past row columns n j short past)
    ]

rows_right : (p row n k : ℕ) (columns : List (List ℕ)) (parity : List ℕ) → All (λ m. m ≤ n) (map (length {A = ℕ}) columns)
    → slice_get (rows_from p row n columns) k ≡ Some parity → IsParityOf (row + k) parity columns
unfolding rows_from
rows_right zero row n k columns parity short at j = absurd (cc (at))
rows_right (suc p) row n zero columns parity short at j =
    let same : tabulated (weighted_sum_at row columns) n ≡ parity = same_some (tabulated (weighted_sum_at row columns) n) parity at in
    let none : row ≡ row + 0 = omega arith in
    ap (λ c. slice_index c j) (sym same) ∙ row_right row n columns short j ∙ ap (λ r. weighted_sum_at r columns j) none
rows_right (suc p) row n (suc k) columns parity short at j =
    let next : suc row + k ≡ row + suc k = omega arith in
    rows_right p (suc row) n k columns parity short at j ∙ ap (λ r. weighted_sum_at r columns j) next

-- the columns of a block
pub whole_of : (p : ℕ) (sizes block : List ℕ) → IsStripe p sizes → length block ≡ sum sizes → All (λ byte. byte < 256) block
    → (columns : Block) × IsWhole p sizes block columns
whole_of p sizes block stripe size bytes =
    let n : ℕ = slice_index sizes 0 in
    let parts : List (List ℕ) = columns_of sizes block in
    let lengths : map (length {A = ℕ}) parts ≡ sizes = lengths-columns_of sizes block (omega (arith, size)) in
    let short : All (λ m. m ≤ n) (map (length {A = ℕ}) parts) = rw lengths stripe.longest in
    let parity : List (List ℕ) = rows_from p 0 n parts in (
      record { parity = parity; data_columns = parts },
      record {
        block_size = size;
        bytes = bytes;
        has_sizes = record { parity_sizes = length-rows_from p 0 n parts; data_sizes = lengths };
        block_columns = refl;
        is_parity = λ row found at j.
            let none : 0 + row ≡ row = omega arith in
            rows_right p 0 n row parts found short at j ∙ ap (λ r. weighted_sum_at r parts j) none;
      },
    )
