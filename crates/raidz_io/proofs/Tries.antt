-- Columns that are compared one by one.
use Rattle.std.proofs.Common.{ℕ, zero, suc, ◌≡◌, inl, inr, ◌+◌, ◌<◌, ◌≤◌, List, [], ◌∷◌, ◌++◌, length, map, take, drop, get_or, sum, Some, Contains, refl, sym, ap, subst, ◌∙◌, append_assoc, arith, length-drop}
use Rattle.std.specs.List.{slice_get}
use Rattle.std.proofs.lemmas.Bool.{cases_lt}
use Rattle.std.proofs.lemmas.List.{take_more, take_all, take_at, drop_at}
use Rattle.std.proofs.lemmas.List.Sums.{sum_by-cons, sum_by-append}
use Rattle.raidz_parity.specs.Layout.{Block, columns_of, joined}
use Rattle.raidz_io.specs.Stripe.{read_columns}
use Rattle.raidz_io.proofs.Parts.{drop_drop}

pub joined-append : (xs ys : List (List ℕ)) → joined (xs ++ ys) ≡ joined xs ++ joined ys
joined-append [] ys = refl
joined-append (x ∷ xs) ys = ap (λ rest. x ++ rest) (joined-append xs ys) ∙ sym (append_assoc x (joined xs) (joined ys))

pub append-nil : (xs : List ℕ) → xs ++ [] ≡ xs
append-nil [] = refl
append-nil (x ∷ xs) = ap (λ rest. x ∷ rest) (append-nil xs)

-- one parity more
pub joined_more : (front whole part : List ℕ) (columns : List (List ℕ)) (i : ℕ) → i < length columns → part ≡ get_or columns i []
    → whole ≡ front ++ joined (take i columns) → whole ++ part ≡ front ++ joined (take (i + 1) columns)
joined_more front whole part columns i within is so_far =
    let next : joined (take (i + 1) columns) ≡ joined (take i columns) ++ part =
    ap joined (take_more columns i [] within) ∙ joined-append (take i columns) (get_or columns i [] ∷ [])
    ∙ ap (λ last. joined (take i columns) ++ last) (append-nil (get_or columns i []) ∙ sym is) in
    ap (λ xs. xs ++ part) so_far ∙ append_assoc front (joined (take i columns)) part ∙ ap (λ xs. front ++ xs) (sym next)

-- all columns
pub joined_all : (columns : Block) (whole : List ℕ) (p : ℕ) → length columns.parity ≤ p
    → whole ≡ joined columns.data_columns ++ joined (take p columns.parity) → whole ≡ joined (read_columns columns)
joined_all columns whole p all is =
    is ∙ ap (λ parity. joined columns.data_columns ++ joined parity) (take_all p columns.parity all)
    ∙ sym (joined-append columns.data_columns columns.parity)

-- a buffer of columns is cut into them again
pub columns_of-joined : (sizes : List ℕ) (columns : List (List ℕ)) → map (length {A = ℕ}) columns ≡ sizes → columns_of sizes (joined columns) ≡ columns
columns_of-joined [] [] is = refl
columns_of-joined [] (x ∷ columns) is = absurd (cc)
columns_of-joined (n ∷ sizes) [] is = absurd (cc)
columns_of-joined (n ∷ sizes) (x ∷ columns) is =
    let long : length x ≡ n = cc in
    rw (take_at x (joined columns) n long, drop_at x (joined columns) n long)
    (ap (λ rest. x ∷ rest) (columns_of-joined sizes columns (cc)))

-- column i of the buffer
pub part_at : (sizes : List ℕ) (i d : ℕ) (bytes rest : List ℕ) → i < length sizes → rest ≡ drop (sum (take i sizes)) bytes
    → slice_get (columns_of sizes bytes) i ≡ Some (take (get_or sizes i d) rest)
part_at [] i d bytes rest within is = absurd (omega arith)
part_at (n ∷ sizes) zero d bytes rest within is = ap (λ b. Some (take n b)) (sym is)
part_at (n ∷ sizes) (suc i) d bytes rest within is =
    part_at sizes i d (drop n bytes) rest (omega arith)
    (is ∙ ap (λ m. drop m bytes) (sum_by-cons (λ m. m) n (take i sizes)) ∙ sym (drop_drop n (sum (take i sizes)) bytes))

sum_to : (sizes : List ℕ) (i d : ℕ) → i < length sizes → sum (take i sizes) + get_or sizes i d ≤ sum sizes
sum_to [] i d within = absurd (omega arith)
sum_to (n ∷ sizes) zero d within = omega (arith, sum_by-cons (λ m. m) n sizes)
sum_to (n ∷ sizes) (suc i) d within =
    omega (arith, sum_to sizes i d (omega arith), sum_by-cons (λ m. m) n sizes, sum_by-cons (λ m. m) n (take i sizes))

pub part_fits : (sizes : List ℕ) (i d : ℕ) (bytes rest : List ℕ) → i < length sizes → sum sizes ≡ length bytes
    → rest ≡ drop (sum (take i sizes)) bytes → get_or sizes i d ≤ length rest
part_fits sizes i d bytes rest within fits is =
    omega (arith, sum_to sizes i d within, fits, ap (length {A = ℕ}) is, length-drop (sum (take i sizes)) bytes)

pub part_after : (sizes : List ℕ) (i d : ℕ) (bytes rest after : List ℕ) → i < length sizes → rest ≡ drop (sum (take i sizes)) bytes
    → after ≡ drop (get_or sizes i d) rest → after ≡ drop (sum (take (i + 1) sizes)) bytes
part_after sizes i d bytes rest after within is after_is =
    let n : ℕ = get_or sizes i d in
    let s : ℕ = sum (take i sizes) in
    let more : sum (take (i + 1) sizes) ≡ s + n =
    omega (arith, ap sum (take_more sizes i d within), sum_by-append (λ m. m) (take i sizes) (n ∷ []), sum_by-cons (λ m. m) n []) in
    after_is ∙ ap (drop n) is ∙ drop_drop s n bytes ∙ ap (λ m. drop m bytes) (sym more)

-- one column more is the same
pub same_more : (sizes : List ℕ) (i : ℕ) (whole bytes wrong part part' : List ℕ)
    → ((k : ℕ) (found : List ℕ) → k < i → ¬ Contains wrong k → slice_get (columns_of sizes whole) k ≡ Some found → slice_get (columns_of sizes bytes) k ≡ Some found)
    → slice_get (columns_of sizes whole) i ≡ Some part → slice_get (columns_of sizes bytes) i ≡ Some part' → (¬ Contains wrong i → part ≡ part')
    → (k : ℕ) (found : List ℕ) → k < i + 1 → ¬ Contains wrong k → slice_get (columns_of sizes whole) k ≡ Some found
    → slice_get (columns_of sizes bytes) k ≡ Some found
same_more sizes i whole bytes wrong part part' before at at' same k found within kept here =
    elim (cases_lt k i) [
      | inl earlier ↦ before k found earlier kept here
      | inr last ↦
          let is : i ≡ k = omega arith in
          let P : ℕ → Type 0 = λ n. slice_get (columns_of sizes whole) n ≡ Some part in
          let Q : ℕ → Type 0 = λ n. slice_get (columns_of sizes bytes) n ≡ Some part' in
          let R : ℕ → Type 0 = λ n. ¬ Contains wrong n in
          let found_is : Some found ≡ Some part = sym here ∙ subst P is at in
          subst Q is at' ∙ ap (λ p. Some p) (sym (same (subst R (sym is) kept))) ∙ sym found_is
    ]
