-- Sums of columns in lanes.
use Rattle.std.proofs.Common.{ℕ, ◌≡◌, ◌+◌, ◌-◌, ◌<◌, ◌≤◌, List, [], ◌∷◌, inl, inr, length, take, drop, get_or, map, replicate, bit_xor, slice_index, w8, Fits, sym, ◌∙◌, ap, arith, add-one, drop-cons, length-drop}
use Rattle.std.specs.Simd.Lanes.{zip2, Each1, chunk, put_chunk}
use Rattle.std.specs.Int.Bits.{xor_zero_l, xor_zero_r}
use Rattle.std.proofs.lemmas.Bool.{cases_lt}
use Rattle.std.proofs.lemmas.List.{drop_all, get_or-take, get_or-drop, length-take-le, get_or-replicate}
use Rattle.std.proofs.lemmas.Simd.{length-replicate, Each1-get_or, length-put_chunk, get_or-put_chunk_below, get_or-put_chunk_at}
use Rattle.gf256.specs.Field.{product, power_of_x}
use Rattle.gf256.proofs.Laws.{product-one_left, product-one_right, product-zero_right, power-zero, power-suc}
use Rattle.raidz_parity.specs.Layout.{columns_of}
use Rattle.raidz_parity.specs.Parity.{weight, weighted_sum_at}
use Rattle.raidz_parity.proofs.Weights.{weighted_step, weight-zero, zip2_at, map_at}

-- lanes to which the sums of the columns from i on, which lie in rest, are still to be added: then they are the sums of
-- all columns from at on
pub record IsSummed (row at i : ℕ) (lengths bytes rest lanes : List ℕ) : Type 0 where
  pub long : length lanes ≡ 64
  pub small : (k : ℕ) → k < 64 → slice_index lanes k < 256
  pub to_add : (k : ℕ) → k < 64
      → bit_xor (product (weight row (length (drop i lengths))) (slice_index lanes k)) (weighted_sum_at row (columns_of (drop i lengths) rest) (at + k))
      ≡ weighted_sum_at row (columns_of lengths bytes) (at + k)

pub summed_start : (row at : ℕ) (lengths bytes : List ℕ) → IsSummed row at 0 lengths bytes bytes (replicate 64 0)
summed_start row at lengths bytes =
    let none : (k : ℕ) → k < 64 → slice_index (replicate 64 0) k ≡ 0 = λ k within. get_or-replicate 64 k 0 0 within in
    record {
      long = length-replicate {A = ℕ} 64 0;
      small = λ k within. omega (arith, none k within);
      to_add = λ k within.
          let whole : ℕ = weighted_sum_at row (columns_of lengths bytes) (at + k) in
          let w : ℕ = weight row (length lengths) in
          ap (λ d. bit_xor (product w d) whole) (none k within) ∙ ap (λ d. bit_xor d whole) (product-zero_right w) ∙ xor_zero_l whole;
    }

-- the next column is added
pub summed_next : (row at i : ℕ) (lengths bytes rest lanes column loaded new : List ℕ) → i < length lengths → column ≡ take (get_or lengths i 0) rest
    → IsSummed row at i lengths bytes rest lanes → (length new ≡ 64) × Each1 (Fits w8) new
    → ((k : ℕ) → k < 64 → slice_index loaded k ≡ slice_index column (at + k))
    → ((k : ℕ) → k < 64 → slice_index new k ≡ bit_xor (product (power_of_x row) (slice_index lanes k)) (slice_index loaded k))
    → IsSummed row at (i + 1) lengths bytes (drop (get_or lengths i 0) rest) new
summed_next row at i lengths bytes rest lanes column loaded new within is summed are loaded_is added =
    let n : ℕ = get_or lengths i 0 in
    let here : drop i lengths ≡ n ∷ drop (i + 1) lengths = rw add-one (drop-cons lengths i 0 within) in
    record {
      long = are.0;
      small = λ k inside. (Each1-get_or (Fits w8) new k 0 (omega (arith, are.0)) are.1).fits;
      to_add = λ k inside.
          weighted_step row n (drop (i + 1) lengths) rest (slice_index lanes k) (slice_index new k) (at + k) _ (summed.small k inside)
          (added k inside
          ∙ ap (bit_xor (product (power_of_x row) (slice_index lanes k))) (loaded_is k inside ∙ ap (λ (xs : List ℕ). slice_index xs (at + k)) is))
          (rw here at (summed.to_add k inside));
    }

pub summed_end : (row at i : ℕ) (lengths bytes rest lanes : List ℕ) → length lengths ≤ i → IsSummed row at i lengths bytes rest lanes
    → (k : ℕ) → k < 64 → slice_index lanes k ≡ weighted_sum_at row (columns_of lengths bytes) (at + k)
summed_end row at i lengths bytes rest lanes past summed k within =
    let done : drop i lengths ≡ [] = drop_all i lengths past in
    let now : ℕ = slice_index lanes k in
    sym (product-one_left now (summed.small k within))
    ∙ ap (λ w. product w now) (sym (weight-zero row))
    ∙ sym (xor_zero_r (product (weight row 0) now))
    ∙ ap (λ (ns : List ℕ). bit_xor (product (weight row (length ns)) now) (weighted_sum_at row (columns_of ns rest) (at + k))) (sym done)
    ∙ summed.to_add k within

-- lanes that are read straight from a column
pub length-loaded : (column : List ℕ) (at : ℕ) → at + 64 ≤ length column → length (chunk at 64 column) ≡ 64
length-loaded column at within = length-take-le 64 (drop at column) (omega (arith, length-drop at column))

pub loaded_at : (column : List ℕ) (at k : ℕ) → k < 64 → slice_index (chunk at 64 column) k ≡ slice_index column (at + k)
loaded_at column at k within = get_or-take 64 (drop at column) k 0 within ∙ get_or-drop at column k 0

-- what the lanes are multiplied by before the next column is added
pub first_factor : (row : ℕ) (lanes : List ℕ) → row ≡ 0 → ((k : ℕ) → k < 64 → slice_index lanes k < 256)
    → (k : ℕ) → k < 64 → slice_index lanes k ≡ product (power_of_x row) (slice_index lanes k)
first_factor row lanes is small k within =
    sym (ap (λ r. product (power_of_x r) (slice_index lanes k)) is ∙ ap (λ p. product p (slice_index lanes k)) power-zero ∙ product-one_left (slice_index lanes k) (small k within))

pub second_factor : (row : ℕ) (lanes doubled : List ℕ) → row ≡ 1 → doubled ≡ map (product 2) lanes → length lanes ≡ 64
    → (k : ℕ) → k < 64 → slice_index doubled k ≡ product (power_of_x row) (slice_index lanes k)
second_factor row lanes doubled is doubled_is long k within =
    let two : power_of_x row ≡ 2 = ap power_of_x is ∙ power-suc 0 ∙ ap (product 2) power-zero ∙ product-one_right 2 (omega arith) in
    ap (λ (xs : List ℕ). slice_index xs k) doubled_is ∙ map_at (product 2) lanes k (omega arith) ∙ ap (λ p. product p (slice_index lanes k)) (sym two)

-- the lanes so far, multiplied, with a column's lanes added
pub lanes_step : (row : ℕ) (lanes multiplied loaded : List ℕ) → length multiplied ≡ 64 → length loaded ≡ 64
    → ((k : ℕ) → k < 64 → slice_index multiplied k ≡ product (power_of_x row) (slice_index lanes k))
    → (k : ℕ) → k < 64 → slice_index (zip2 bit_xor multiplied loaded) k ≡ bit_xor (product (power_of_x row) (slice_index lanes k)) (slice_index loaded k)
lanes_step row lanes multiplied loaded long long' is k within =
    zip2_at bit_xor multiplied loaded (long ∙ sym long') k (omega arith) ∙ ap (λ d. bit_xor d (slice_index loaded k)) (is k within)

-- the step of a loop that writes lanes over a parity: what stands before at, and the lanes' places
pub put_next : (row at : ℕ) (columns : List (List ℕ)) (old new lanes : List ℕ) → length new ≡ length old
    → ((j : ℕ) → j < at → slice_index new j ≡ slice_index old j)
    → ((k : ℕ) → k < 64 → at + k < length old → slice_index new (at + k) ≡ slice_index lanes k)
    → ((k : ℕ) → k < 64 → slice_index lanes k ≡ weighted_sum_at row columns (at + k))
    → ((j : ℕ) → j < at → j < length old → slice_index old j ≡ weighted_sum_at row columns j)
    → (j : ℕ) → j < at + 64 → j < length new → slice_index new j ≡ weighted_sum_at row columns j
put_next row at columns old new lanes kept before here sums done j within inside =
    elim (cases_lt j at) [
      | inl early ↦ before j early ∙ done j early (omega arith)
      | inr late ↦
          let k : ℕ = j - at in
          let place : j ≡ at + k = omega arith in
          ap (slice_index new) place ∙ here k (omega arith) (omega arith) ∙ sums k (omega arith) ∙ ap (weighted_sum_at row columns) (sym place)
    ]

pub put_chunk_next : (row at : ℕ) (columns : List (List ℕ)) (old lanes : List ℕ) → length lanes ≡ 64 → at + 64 ≤ length old
    → ((k : ℕ) → k < 64 → slice_index lanes k ≡ weighted_sum_at row columns (at + k))
    → ((j : ℕ) → j < at → slice_index old j ≡ weighted_sum_at row columns j)
    → (j : ℕ) → j < at + 64 → slice_index (put_chunk at old lanes) j ≡ weighted_sum_at row columns j
put_chunk_next row at columns old lanes long room sums done j within =
    put_next row at columns old (put_chunk at old lanes) lanes (length-put_chunk at old lanes)
    (λ j before. get_or-put_chunk_below at old lanes j 0 before)
    (λ k inside reaches. get_or-put_chunk_at at old lanes k 0 (omega arith) (omega arith))
    sums (λ j before inside. done j before) j within (omega (arith, length-put_chunk at old lanes))
