-- Lists that are made of items and their numbers.
use Rattle.std.proofs.Common.{◌≡◌, ◌≢◌, ◌<◌, ◌≤◌, ◌∙◌, ℕ, zero, suc, ◌+◌, List, [], ◌∷◌, ◌++◌, length, get_or, map, take, refl, sym, ap, subst, arith}
use Rattle.std.proofs.Math.Seq.{take-suc}
use Rattle.std.proofs.lemmas.List.{get_or-map, length-append, length-take-le, take_all, map-append, length-map}
use Rattle.nvlist.specs.Grammar.{FitsBehind, FitsLists}
use Rattle.nvlist.specs.Plain.{PlainList, no_pairs, PlainLists, no_lists, next}
use Rattle.nvlist.specs.View.{lists_of}
use Rattle.vdev_label.proofs.Children.{refuses}
use Rattle.vdev_label.specs.Pairs.{numbered}
use Rattle.vdev_label.specs.Refuses.{Refuses}
use Rattle.vdev_label.specs.declared.refusal.Refusal.{Refusal}

-- the lists, one by one
abbrev pub items_of : PlainLists → List PlainList
items_of no_lists = []
items_of (next first others) = first ∷ items_of others

items_of-lists_of : (all : List PlainList) → items_of (lists_of all) ≡ all
items_of-lists_of [] = refl
items_of-lists_of (first ∷ others) = ap (λ rest. first ∷ rest) (items_of-lists_of others)

pub same_lists : (xs ys : List PlainList) → lists_of xs ≡ lists_of ys → xs ≡ ys
same_lists xs ys same = sym (items_of-lists_of xs) ∙ ap items_of same ∙ items_of-lists_of ys

pub each_fits : (all : List PlainList) (i : ℕ) → FitsLists (lists_of all) → i < length all → FitsBehind [] (get_or all i no_pairs)
each_fits [] i fits below = absurd (omega (arith, below))
each_fits (first ∷ others) zero fits below = fits.1
each_fits (first ∷ others) (suc i) fits below = each_fits others i fits.2 (omega (arith, below))

numbered-push : {A : Type 0} (of : ℕ → A → PlainList) (n : ℕ) (xs : List A) (x : A)
    → numbered of n (xs ++ x ∷ []) ≡ numbered of n xs ++ of (n + length xs) x ∷ []
numbered-push of n [] x = let same : n ≡ n + 0 = omega arith in ap (λ k. of k x ∷ []) same
numbered-push of n (y ∷ xs) x =
    let same : suc n + length xs ≡ n + suc (length xs) = omega arith in
    ap (λ rest. of n y ∷ rest) (numbered-push of (suc n) xs x ∙ ap (λ k. numbered of (suc n) xs ++ of k x ∷ []) same)

-- one more
pub numbered_next : {A : Type 0} (of : ℕ → A → PlainList) (all : List PlainList) (i : ℕ) (xs : List A) (x : A) → i < length all
    → get_or all i no_pairs ≡ of i x → length xs ≡ i → take i all ≡ numbered of 0 xs → take (i + 1) all ≡ numbered of 0 (xs ++ x ∷ [])
numbered_next of all i xs x below is count so_far =
    let sum : i + 1 ≡ suc i = omega arith in let place : i ≡ 0 + length xs = omega (arith, count) in
    ap (λ n. take n all) sum ∙ take-suc all i no_pairs below ∙ ap (λ front. front ++ get_or all i no_pairs ∷ []) so_far
    ∙ ap (λ it. numbered of 0 xs ++ it ∷ []) (is ∙ ap (λ k. of k x) place) ∙ sym (numbered-push of 0 xs x)

numbered_get : {A : Type 0} (of : ℕ → A → PlainList) (n : ℕ) (xs : List A) (i : ℕ) → i < length (numbered of n xs)
    → (x : A) × (get_or (numbered of n xs) i no_pairs ≡ of (n + i) x)
numbered_get of n [] i below = absurd (omega (arith, below))
numbered_get of n (x ∷ xs) zero below = let same : n ≡ n + 0 = omega arith in (x, ap (λ k. of k x) same)
numbered_get of n (x ∷ xs) (suc i) below =
    let it = numbered_get of (suc n) xs i (omega (arith, below)) in let same : suc n + i ≡ n + suc i = omega arith in
    (it.0, it.1 ∙ ap (λ k. of k it.0) same)

numbered_not : {A : Type 0} (of : ℕ → A → PlainList) (all : List PlainList) (i : ℕ) → i < length all
    → ((x : A) → get_or all i no_pairs ≢ of i x) → (xs : List A) → lists_of all ≢ lists_of (numbered of 0 xs)
numbered_not of all i below none xs same =
    let are : all ≡ numbered of 0 xs = same_lists all (numbered of 0 xs) same in
    let P : List PlainList → Type 0 = λ them. i < length them in
    let it = numbered_get of 0 xs i (subst P are below) in
    let place : 0 + i ≡ i = omega arith in
    none it.0 (ap (λ them. get_or them i no_pairs) are ∙ it.1 ∙ ap (λ k. of k it.0) place)

-- one that is made of no item: so are they all
pub none_of_them : {A : Type 0} (of : ℕ → A → PlainList) (r : Refusal) (all : List PlainList) (i : ℕ) (it : PlainList) → i < length all
    → get_or all i no_pairs ≡ it → Refuses r ((x : A) → it ≢ of i x) → Refuses r ((xs : List A) → lists_of all ≢ lists_of (numbered of 0 xs))
none_of_them of r all i it below is none =
    refuses r _ _ (λ no xs. numbered_not of all i below (λ x same. no x (sym is ∙ same)) xs) none

-- all of them
pub all_numbered : {A : Type 0} (of : ℕ → A → PlainList) (all : List PlainList) (n : ℕ) (xs : List A) → length all ≤ n
    → take n all ≡ numbered of 0 xs → lists_of all ≡ lists_of (numbered of 0 xs)
all_numbered of all n xs end so_far = ap lists_of (sym (take_all n all end) ∙ so_far)

-- the same of lists of the code, by the one that is looked at
pub view_at : {X : Type 0} (view : X → PlainList) (lists : List X) (i : ℕ) (it : X) → i < length lists → it ≡ get_or lists i it
    → get_or (map view lists) i no_pairs ≡ view it
view_at view lists i it below is = get_or-map view lists i it no_pairs below ∙ sym (ap view is)

pub view_below : {X : Type 0} (view : X → PlainList) (lists : List X) (i : ℕ) → i < length lists → i < length (map view lists)
view_below view lists i below = omega (arith, below, length-map lists view)

pub view_end : {X : Type 0} (view : X → PlainList) (lists : List X) (n : ℕ) → length lists ≤ n → length (map view lists) ≤ n
view_end view lists n end = omega (arith, end, length-map lists view)

pub view_fits : {X : Type 0} (view : X → PlainList) (lists : List X) (i : ℕ) (it : X) → i < length lists → it ≡ get_or lists i it
    → FitsLists (lists_of (map view lists)) → FitsBehind [] (view it)
view_fits view lists i it below is fits =
    let P : PlainList → Type 0 = FitsBehind [] in
    subst P (view_at view lists i it below is) (each_fits (map view lists) i fits (view_below view lists i below))

pub one_longer : {A : Type 0} (old new : List A) (x : A) (n : ℕ) → new ≡ old ++ x ∷ [] → length old ≡ n → length new ≡ n + 1
one_longer old new x n are count = ap length are ∙ length-append old (x ∷ []) ∙ ap (λ k. k + 1) count

-- one more is made
pub made_next : {A X : Type 0} (of : ℕ → A → PlainList) (view : X → PlainList) (all : List A) (i : ℕ) (x : A) (old new : List X) (it : X) → i < length all
    → get_or all i x ≡ x → view it ≡ of i x → new ≡ old ++ it ∷ [] → map view old ≡ numbered of 0 (take i all)
    → map view new ≡ numbered of 0 (take (i + 1) all)
made_next of view all i x old new it below at_i is are so_far =
    let sum : suc i ≡ i + 1 = omega arith in
    let place : i ≡ 0 + length (take i all) = omega (arith, length-take-le i all (omega (arith, below))) in
    ap (map view) are ∙ map-append view old (it ∷ []) ∙ ap (λ front. front ++ view it ∷ []) so_far
    ∙ ap (λ one. numbered of 0 (take i all) ++ one ∷ []) (is ∙ ap (λ k. of k x) place) ∙ sym (numbered-push of 0 (take i all) x)
    ∙ ap (λ one. numbered of 0 (take i all ++ one ∷ [])) (sym at_i) ∙ ap (numbered of 0) (sym (take-suc all i x below) ∙ ap (λ n. take n all) sum)

pub get_again : {A : Type 0} (xs : List A) (i : ℕ) (d : A) → i < length xs → get_or xs i (get_or xs i d) ≡ get_or xs i d
get_again [] i d below = absurd (omega (arith, below))
get_again (x ∷ xs) zero d below = refl
get_again (x ∷ xs) (suc i) d below = get_again xs i d (omega (arith, below))
