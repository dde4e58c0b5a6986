-- Columns that lie in a buffer one after the other.
use Rattle.std.proofs.Common.{ℕ, zero, suc, ◌≡◌, ◌+◌, ◌<◌, ◌≤◌, List, [], ◌∷◌, ◌++◌, length, map, take, drop, sum, Some, refl, sym, ◌∙◌, ap, arith, length-drop}
use Rattle.std.specs.List.{slice_get}
use Rattle.std.proofs.lemmas.List.{take_all, drop_all, take-append-drop, take-append-le, drop-append-le, length-take-le}
use Rattle.std.proofs.lemmas.List.Sums.{sum_by-cons}
use Rattle.std.proofs.Math.Seq.{take-add}
use Rattle.raidz_parity.specs.Layout.{columns_of, joined}

pub slice_get_before : {X : Type 0} (xs ys : List X) (k : ℕ) (x : X) → slice_get xs k ≡ Some x → slice_get (xs ++ ys) k ≡ Some x
slice_get_before [] ys k x at = cc
slice_get_before (y ∷ xs) ys zero x at = at
slice_get_before (y ∷ xs) ys (suc k) x at = slice_get_before xs ys k x at

pub slice_get_front : {X : Type 0} (xs ys : List X) (k : ℕ) → k < length xs → slice_get (xs ++ ys) k ≡ slice_get xs k
slice_get_front [] ys k within = absurd (omega arith)
slice_get_front (x ∷ xs) ys zero within = refl
slice_get_front (x ∷ xs) ys (suc k) within = slice_get_front xs ys k (omega arith)

pub slice_get_back : {X : Type 0} (xs ys : List X) (k : ℕ) → slice_get (xs ++ ys) (length xs + k) ≡ slice_get ys k
slice_get_back [] ys k = let same : 0 + k ≡ k = omega arith in ap (slice_get ys) same
slice_get_back (x ∷ xs) ys k =
    let same : suc (length xs) + k ≡ suc (length xs + k) = omega arith in
    ap (slice_get (x ∷ (xs ++ ys))) same ∙ slice_get_back xs ys k

pub slice_get_last : {X : Type 0} (xs : List X) (x : X) → slice_get (xs ++ x ∷ []) (length xs) ≡ Some x
slice_get_last [] x = refl
slice_get_last (y ∷ xs) x = slice_get_last xs x

take_whole : (part : List ℕ) (n : ℕ) → length part ≡ n → take n part ≡ part
take_whole part n long = take_all n part (omega arith)

-- a column after the others
pub columns_of-push : (sizes : List ℕ) (n : ℕ) (bytes part : List ℕ) → length bytes ≡ sum sizes → length part ≡ n
    → columns_of (sizes ++ n ∷ []) (bytes ++ part) ≡ columns_of sizes bytes ++ part ∷ []
columns_of-push [] n [] part fits long = ap (λ p. p ∷ []) (take_whole part n long)
columns_of-push [] n (b ∷ bytes) part fits long = absurd (omega arith)
columns_of-push (m ∷ sizes) n bytes part fits long =
    let whole : sum (m ∷ sizes) ≡ m + sum sizes = sum_by-cons (λ k. k) m sizes in
    let within : m ≤ length bytes = omega arith in
    let rest : length (drop m bytes) ≡ sum sizes = omega (arith, length-drop m bytes) in
    rw (take-append-le m bytes part within, drop-append-le m bytes part within)
    (ap (λ columns. take m bytes ∷ columns) (columns_of-push sizes n (drop m bytes) part rest long))

pub length-columns_of : (sizes bytes : List ℕ) → length (columns_of sizes bytes) ≡ length sizes
length-columns_of [] bytes = refl
length-columns_of (n ∷ sizes) bytes = ap suc (length-columns_of sizes (drop n bytes))

pub lengths-columns_of : (sizes bytes : List ℕ) → sum sizes ≤ length bytes → map (length {A = ℕ}) (columns_of sizes bytes) ≡ sizes
lengths-columns_of [] bytes fits = refl
lengths-columns_of (n ∷ sizes) bytes fits =
    let first : sum (n ∷ sizes) ≡ n + sum sizes = sum_by-cons (λ m. m) n sizes in
    let column : length (take n bytes) ≡ n = length-take-le n bytes (omega arith) in
    let rest : map (length {A = ℕ}) (columns_of sizes (drop n bytes)) ≡ sizes =
    lengths-columns_of sizes (drop n bytes) (omega (arith, length-drop n bytes)) in
    cc

joined-columns_of : (sizes bytes : List ℕ) → joined (columns_of sizes bytes) ≡ take (sum sizes) bytes
joined-columns_of [] bytes = refl
joined-columns_of (n ∷ sizes) bytes =
    ap (λ rest. take n bytes ++ rest) (joined-columns_of sizes (drop n bytes))
    ∙ sym (take-add n (sum sizes) bytes)
    ∙ ap (λ m. take m bytes) (sym (sum_by-cons (λ m. m) n sizes))

-- a buffer is its columns, one after the other
pub joined_buffer : (sizes bytes : List ℕ) → length bytes ≡ sum sizes → joined (columns_of sizes bytes) ≡ bytes
joined_buffer sizes bytes fits = joined-columns_of sizes bytes ∙ take_all (sum sizes) bytes (omega (arith, fits))

pub drop_drop : (n m : ℕ) (bytes : List ℕ) → drop m (drop n bytes) ≡ drop (n + m) bytes
drop_drop zero m bytes = let same : m ≡ 0 + m = omega arith in ap (λ k. drop k bytes) same
drop_drop (suc n) m [] = drop_all m [] (omega arith) ∙ sym (drop_all (suc n + m) [] (omega arith))
drop_drop (suc n) m (b ∷ bytes) =
    let same : suc (n + m) ≡ suc n + m = omega arith in
    drop_drop n m bytes ∙ ap (λ k. drop k (b ∷ bytes)) same

-- the columns of the front, and those after them
pub columns_of-append : (sizes sizes' bytes : List ℕ) → columns_of (sizes ++ sizes') bytes ≡ columns_of sizes bytes ++ columns_of sizes' (drop (sum sizes) bytes)
columns_of-append [] sizes' bytes = refl
columns_of-append (n ∷ sizes) sizes' bytes =
    ap (λ columns. take n bytes ∷ columns)
    (columns_of-append sizes sizes' (drop n bytes)
    ∙ ap (λ rest. columns_of sizes (drop n bytes) ++ columns_of sizes' rest)
    (drop_drop n (sum sizes) bytes ∙ ap (λ m. drop m bytes) (sym (sum_by-cons (λ m. m) n sizes))))

columns_of-more : (sizes bytes more : List ℕ) → sum sizes ≤ length bytes → columns_of sizes bytes ≡ columns_of sizes (bytes ++ more)
columns_of-more [] bytes more fits = refl
columns_of-more (n ∷ sizes) bytes more fits =
    let first : sum (n ∷ sizes) ≡ n + sum sizes = sum_by-cons (λ m. m) n sizes in
    rw (take-append-le n bytes more (omega arith), drop-append-le n bytes more (omega arith))
    (ap (λ columns. take n bytes ∷ columns) (columns_of-more sizes (drop n bytes) more (omega (arith, length-drop n bytes))))

-- what is beyond them does not matter
pub columns_of-front : (sizes bytes : List ℕ) → sum sizes ≤ length bytes → columns_of sizes (take (sum sizes) bytes) ≡ columns_of sizes bytes
columns_of-front sizes bytes fits = columns_of-more sizes (take (sum sizes) bytes) (drop (sum sizes) bytes) (omega (arith, length-take-le (sum sizes) bytes fits)) ∙ ap (columns_of sizes) (take-append-drop (sum sizes) bytes)
