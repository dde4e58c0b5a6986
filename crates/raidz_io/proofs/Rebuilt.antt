-- Columns of which some are wrong, as the parity sees them.
use Rattle.std.proofs.Common.{ℕ, zero, suc, ◌≡◌, inl, inr, ◌+◌, ◌<◌, ◌≤◌, List, [], ◌∷◌, ◌++◌, length, map, take, drop, replicate, sum, slice_index, Some, All, Contains, Result, Ok, Err, IsOk, IsErr, OnOk, IfOk, refl, sym, ap, subst, ◌∙◌, arith}
use Rattle.std.specs.List.{slice_get}
use Rattle.std.proofs.lemmas.Bool.{cases_lt}
use Rattle.std.proofs.lemmas.Bool.Decides.{nat_tests}
use Rattle.std.proofs.lemmas.List.{length-map, length-replicate, length-take-le}
use Rattle.std.proofs.lemmas.List.Elements.{All-nil, All-cons, All-head, All-tail}
use Rattle.std.proofs.lemmas.Option.{slice_get_past}
use Rattle.raidz_parity.specs.Layout.{Block, columns_of, IsLaidOut, ChangesOnly}
use Rattle.raidz_io.specs.Stripe.{IsStripe, stripe_sizes, number_of, AreParities, HasSizes, read_columns, MatchesBut}
use Rattle.raidz_io.proofs.Calls.{Contains-front, Contains-later, Contains-none, Contains-cases}
use Rattle.raidz_io.proofs.Parts.{slice_get_front, slice_get_back, columns_of-append, columns_of-front, lengths-columns_of, length-columns_of}
use Rattle.raidz_io.proofs.Written.{slice_get_some, same_some}

pub Contains-map : (f : ℕ → ℕ) (xs : List ℕ) (k : ℕ) → Contains xs k → Contains (map f xs) (f k)
Contains-map f [] k held = absurd (Contains-none k held)
Contains-map f (x ∷ xs) k held =
    elim (Contains-cases x xs k held) [
      | inl same ↦ rw same (Contains-front (f x) (map f xs))
      | inr later ↦ Contains-later (f x) (map f xs) (f k) (Contains-map f xs k later)
    ]

pub number_of-data : (p n k : ℕ) → k < n → number_of p n k ≡ p + k
number_of-data p n k below = grind (arith, nat_tests)

pub number_of-parity : (p n k : ℕ) → number_of p n (n + k) ≡ k
number_of-parity p n k = grind (arith, nat_tests)

number_below : (p n k : ℕ) → k < n + p → number_of p n k < p + n
number_below p n k below = grind (arith, nat_tests)

pub numbers_below : (p n : ℕ) (wrong : List ℕ) → All (λ k. k < n + p) wrong → All (λ k. k < p + n) (map (number_of p n) wrong)
numbers_below p n [] below = All-nil (λ k. k < p + n)
numbers_below p n (k ∷ wrong) below =
    All-cons (λ k. k < p + n) (number_of p n k) (map (number_of p n) wrong)
    (number_below p n k (All-head (λ k. k < n + p) k wrong below))
    (numbers_below p n wrong (All-tail (λ k. k < n + p) k wrong below))

rows_of_lengths : (columns : List (List ℕ)) (count rows : ℕ) → map (length {A = ℕ}) columns ≡ replicate count rows
    → All (λ column. length column ≡ rows) columns
rows_of_lengths [] count rows are = All-nil (λ column. length column ≡ rows)
rows_of_lengths (x ∷ xs) zero rows are = absurd (cc)
rows_of_lengths (x ∷ xs) (suc count) rows are =
    All-cons (λ column. length column ≡ rows) x xs (cc) (rows_of_lengths xs count rows (cc))

pub size_of_part : (columns : List (List ℕ)) (count rows k : ℕ) (part : List ℕ) → map (length {A = ℕ}) columns ≡ replicate count rows
    → slice_get columns k ≡ Some part → length part ≡ rows
size_of_part [] count rows k part are at = absurd (cc)
size_of_part (x ∷ xs) zero rows k part are at = absurd (cc)
size_of_part (x ∷ xs) (suc count) rows zero part are at =
    let same : x ≡ part = same_some x part at in
    let long : length x ≡ rows = cc in
    ap (length {A = ℕ}) (sym same) ∙ long
size_of_part (x ∷ xs) (suc count) rows (suc k) part are at = size_of_part xs count rows k part (cc) at

-- what was read lies as the parity wants it
pub laid_out : (p : ℕ) (sizes bytes : List ℕ) (parities : List (List ℕ)) → IsStripe p sizes → sum sizes ≤ length bytes
    → map (length {A = ℕ}) parities ≡ replicate p (slice_index sizes 0) → IsLaidOut parities sizes (take (sum sizes) bytes)
laid_out p sizes bytes parities is fits are = record {
  rows = rows_of_lengths parities p (slice_index sizes 0) are;
  longest = is.longest;
  fits = sym (length-take-le (sum sizes) bytes fits);
}

pub changes : (p n : ℕ) (sizes bytes wrong : List ℕ) (parities : List (List ℕ)) (right : Block) → n ≡ length sizes → sum sizes ≤ length bytes
    → AreParities p (slice_index sizes 0) (drop (sum sizes) bytes) parities → HasSizes p sizes right
    → MatchesBut wrong (read_columns right) (columns_of (stripe_sizes p sizes) bytes)
    → ChangesOnly (map (number_of p n) wrong) right (record { parity = parities; data_columns = columns_of sizes (take (sum sizes) bytes) })
changes p n sizes bytes wrong parities right count fits are has matches =
    let size : ℕ = slice_index sizes 0 in
    let found : List (List ℕ) = columns_of sizes bytes in
    let found' : List (List ℕ) = columns_of (replicate p size) (drop (sum sizes) bytes) in
    let all : columns_of (stripe_sizes p sizes) bytes ≡ found ++ found' = columns_of-append sizes (replicate p size) bytes in
    let front : columns_of sizes (take (sum sizes) bytes) ≡ found = columns_of-front sizes bytes fits in
    let long : length found ≡ n = length-columns_of sizes bytes ∙ sym count in
    let long_right : length right.data_columns ≡ n =
    omega (arith, length-map right.data_columns (length {A = ℕ}), ap (length {A = ℕ}) has.data_sizes, count) in
    let parity_count : length right.parity ≡ p =
    omega (arith, length-map right.parity (length {A = ℕ}), ap (length {A = ℕ}) has.parity_sizes, length-replicate p size) in
    let parity_count' : length parities ≡ p =
    omega (arith, length-map parities (length {A = ℕ}), ap (length {A = ℕ}) are.sizes, length-replicate p size) in
    record {
      parity_lengths = are.sizes ∙ sym has.parity_sizes;
      data_lengths = ap (map (length {A = ℕ})) front ∙ lengths-columns_of sizes bytes fits ∙ sym has.data_sizes;
      other_parity = λ k kept. elim (cases_lt k p) [
        | inl within ↦
            let part = slice_get_some right.parity k (omega (arith, within, parity_count)) in
            let here : slice_get (read_columns right) (n + k) ≡ Some part.0 =
            rw (← long_right) (slice_get_back right.data_columns right.parity k ∙ part.1) in
            let not_wrong : ¬ Contains wrong (n + k) = λ held.
            kept (subst (Contains (map (number_of p n) wrong)) (number_of-parity p n k) (Contains-map (number_of p n) wrong (n + k) held)) in
            let read : slice_get (found ++ found') (n + k) ≡ Some part.0 = rw all at (matches (n + k) part.0 not_wrong here) in
            let at : slice_get found' k ≡ Some part.0 =
            sym (slice_get_back found found' k) ∙ ap (λ m. slice_get (found ++ found') (m + k)) long ∙ read in
            are.read k part.0 at (size_of_part right.parity p size k part.0 has.parity_sizes part.1) ∙ sym part.1
        | inr past ↦
            slice_get_past parities k (omega (arith, past, parity_count')) ∙ sym (slice_get_past right.parity k (omega (arith, past, parity_count)))
      ];
      other_data = λ k kept. ap (λ columns. slice_get columns k) front ∙ elim (cases_lt k n) [
        | inl within ↦
            let part = slice_get_some right.data_columns k (omega (arith, within, long_right)) in
            let here : slice_get (read_columns right) k ≡ Some part.0 =
            slice_get_front right.data_columns right.parity k (omega (arith, within, long_right)) ∙ part.1 in
            let not_wrong : ¬ Contains wrong k = λ held.
            kept (subst (Contains (map (number_of p n) wrong)) (number_of-data p n k within ∙ ap (λ m. m + k) (sym parity_count))
            (Contains-map (number_of p n) wrong k held)) in
            let read : slice_get (found ++ found') k ≡ Some part.0 = rw all at (matches k part.0 not_wrong here) in
            sym (slice_get_front found found' k (omega (arith, within, long))) ∙ read ∙ sym part.1
        | inr past ↦
            slice_get_past found k (omega (arith, past, long)) ∙ sym (slice_get_past right.data_columns k (omega (arith, past, long_right)))
      ];
    }

-- the columns that were read, in the buffer of what was read
pub record AreIn (p : ℕ) (sizes bytes : List ℕ) (columns : Block) : Type 0 where
  pub parity : AreParities p (slice_index sizes 0) (drop (sum sizes) bytes) columns.parity
  pub block : columns.data_columns ≡ columns_of sizes (take (sum sizes) bytes)

parity_count : (p : ℕ) (sizes bytes : List ℕ) (columns : Block) → AreIn p sizes bytes columns → length columns.parity ≡ p
parity_count p sizes bytes columns are =
    omega (
      arith,
      length-map columns.parity (length {A = ℕ}),
      ap (length {A = ℕ}) are.parity.sizes,
      length-replicate p (slice_index sizes 0),
    )

pub rebuilds_below : (p n : ℕ) (sizes bytes wrong numbers : List ℕ) (columns : Block) → AreIn p sizes bytes columns → n ≡ length sizes
    → numbers ≡ map (number_of p n) wrong → All (λ k. k < n + p) wrong
    → All (λ k. k < length columns.parity + length columns.data_columns) numbers
rebuilds_below p n sizes bytes wrong numbers columns are count is below =
    let data_count : length columns.data_columns ≡ n = ap length are.block ∙ length-columns_of sizes (take (sum sizes) bytes) ∙ sym count in
    rw (parity_count p sizes bytes columns are, data_count, is) (numbers_below p n wrong below)

-- no more are lost than there are parities
pub not_more : (p n : ℕ) (sizes bytes wrong numbers : List ℕ) (columns : Block) → AreIn p sizes bytes columns
    → numbers ≡ map (number_of p n) wrong → length wrong ≤ p → ¬ (length columns.parity < length numbers)
not_more p n sizes bytes wrong numbers columns are is few more =
    omega (arith, parity_count p sizes bytes columns are, ap length is, length-map wrong (number_of p n), few, more)

pub rebuilt : (p n : ℕ) (sizes bytes wrong numbers : List ℕ) (columns again right : Block) → AreIn p sizes bytes columns → n ≡ length sizes
    → sum sizes ≤ length bytes → numbers ≡ map (number_of p n) wrong → HasSizes p sizes right
    → MatchesBut wrong (read_columns right) (columns_of (stripe_sizes p sizes) bytes)
    → (ChangesOnly numbers right columns → again ≡ right) → again ≡ right
rebuilt p n sizes bytes wrong numbers columns again right are count fits is has matches rebuilds =
    let P : List ℕ → Type 0 = λ ns. ChangesOnly ns right columns in
    let Q : List (List ℕ) → Type 0 = λ parts. ChangesOnly (map (number_of p n) wrong) right (record { parity = columns.parity; data_columns = parts }) in
    rebuilds (subst P (sym is) (subst Q (sym are.block) (changes p n sizes bytes wrong columns.parity right count fits are.parity has matches)))

pub ok_unless : {T E : Type 0} (result : Result T E) → ¬ IsErr result → IsOk result
ok_unless (Ok x) never = refl
ok_unless (Err e) never = absurd (never refl)

pub at_ok : {T E : Type 0} (result : Result T E) (P : Type 0) → IsOk result → OnOk result P → P
at_ok (Ok x) P ok held = held
at_ok (Err e) P ok held = absurd (cc)

pub IfOk-map : {T E : Type 0} (result : Result T E) (P Q : T → Type 0) → ((x : T) → P x → Q x) → IfOk result P → IfOk result Q
IfOk-map (Ok x) P Q each held = each x held
IfOk-map (Err e) P Q each held = tt
