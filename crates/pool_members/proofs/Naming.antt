-- Which child names which place, one child after the other.
use Rattle.std.proofs.Common.{◌≡◌, ◌≢◌, ◌⊎◌, inl, inr, ◌<◌, ◌∙◌, ℕ, zero, suc, ◌==◌, Bool, true, false, List, [], ◌∷◌, ◌++◌, length, slice_get, slice_set, Contains, Option, Some, None, ap, sym, subst, refl, arith}
use Rattle.std.specs.Option.{option_to_list, option_and_then}
use Rattle.std.proofs.lemmas.List.{length-set}
use Rattle.std.proofs.lemmas.List.Elements.{Contains-append_right, Contains-append_cases}
use Rattle.std.proofs.lemmas.Option.{slice_get_within}
use Rattle.model_disk.proofs.JointLemmas.{same_if, apart_if}
use Rattle.pool_members.specs.Arranged.{places, AreEachOnce}
use Rattle.pool_members.specs.Namers.{place_of, AreNamers}
use Rattle.pool_members.specs.declared.arranging.Child.{Child}
use Rattle.pool_members.proofs.Places.{each_once-absent, each_once-present, each_once-fresh, each_once-among}

set-at : {X : Type 0} (xs : List X) (i : ℕ) (y : X) → i < length xs → slice_get (slice_set xs i y) i ≡ Some y
set-at [] i y below = absurd (omega arith)
set-at (x ∷ xs) zero y below = refl
set-at (x ∷ xs) (suc i) y below = set-at xs i y (omega arith)

set-other : {X : Type 0} (xs : List X) (i j : ℕ) (y : X) → j ≢ i → slice_get (slice_set xs i y) j ≡ slice_get xs j
set-other [] i j y apart = refl
set-other (x ∷ xs) zero zero y apart = absurd (apart refl)
set-other (x ∷ xs) zero (suc j) y apart = refl
set-other (x ∷ xs) (suc i) zero y apart = refl
set-other (x ∷ xs) (suc i) (suc j) y apart = set-other xs i j y (λ same. apart (ap suc same))

-- a list with one more
pub last-at : {X : Type 0} (xs : List X) (x : X) → slice_get (xs ++ x ∷ []) (length xs) ≡ Some x
last-at [] x = refl
last-at (first ∷ xs) x = last-at xs x

pub last-other : {X : Type 0} (xs : List X) (x : X) (i : ℕ) → i ≢ length xs → slice_get (xs ++ x ∷ []) i ≡ slice_get xs i
last-other [] x zero apart = absurd (apart refl)
last-other [] x (suc i) apart = refl
last-other (first ∷ xs) x zero apart = refl
last-other (first ∷ xs) x (suc i) apart = last-other xs x i (λ same. apart (ap suc same))

place_of-last : (front : List Child) (child : Child) → place_of (front ++ child ∷ []) (length front) ≡ child.disk
place_of-last front child = ap (option_and_then (λ (child : Child). child.disk)) (last-at front child)

place_of-other : (front : List Child) (child : Child) (index : ℕ) → index ≢ length front → place_of (front ++ child ∷ []) index ≡ place_of front index
place_of-other front child index apart = ap (option_and_then (λ (child : Child). child.disk)) (last-other front child index apart)

pub place_of-within : (children : List Child) (index place : ℕ) → place_of children index ≡ Some place → index < length children
place_of-within [] index place is = cc
place_of-within (child ∷ children) zero place is = omega arith
place_of-within (child ∷ children) (suc index) place is =
    let below : index < length children = place_of-within children index place is in
    omega arith

-- what a child names is among the places
pub named_place : (children : List Child) (index place : ℕ) → place_of children index ≡ Some place → Contains (places children) place
named_place [] index place is = cc
named_place (child ∷ children) zero place is =
    subst (λ m. Contains (option_to_list m ++ places children) place) (sym is) (0, omega arith, refl)
named_place (child ∷ children) (suc index) place is =
    Contains-append_right (option_to_list child.disk) (places children) place (named_place children index place is)

first_or_later : (child : Child) (children : List Child) (place : ℕ) (m : Option ℕ) → child.disk ≡ m
    → Contains (option_to_list m) place ⊎ Contains (places children) place
    → (Contains (places children) place → (index : ℕ) × (place_of children index ≡ Some place))
    → (index : ℕ) × (place_of (child ∷ children) index ≡ Some place)
first_or_later child children place (Some named) is (inl (zero, below, same)) later = (0, is ∙ ap Some same)
first_or_later child children place (Some named) is (inl (suc k, below, same)) later = absurd (omega (arith, below))
first_or_later child children place None is (inl known) later = absurd (omega (arith, known.1))
first_or_later child children place m is (inr known) later = let found = later known in (suc found.0, found.1)

-- and a place among them is named by some child
who_names : (children : List Child) (place : ℕ) → Contains (places children) place → (index : ℕ) × (place_of children index ≡ Some place)
who_names [] place known = absurd (omega (arith, known.1))
who_names (child ∷ children) place known =
    first_or_later child children place child.disk refl (Contains-append_cases (option_to_list child.disk) (places children) place known)
    (who_names children place)

-- what is known of the children so far
pub record AreSo (count : ℕ) (children : List Child) (namers : List (Option ℕ)) : Type 0 where
  pub named : AreNamers count children namers
  pub once : AreEachOnce count children

-- one more child, which names none
names_none : (count : ℕ) (front : List Child) (child : Child) (namers : List (Option ℕ)) → child.disk ≡ None
    → AreNamers count front namers → (place index : ℕ) (test : Bool) → (index == length front) ≡ test
    → place_of (front ++ child ∷ []) index ≡ Some place → slice_get namers place ≡ Some (Some index)
names_none count front child namers is were place index true tested named =
    let last : place_of (front ++ child ∷ []) index ≡ child.disk =
    ap (place_of (front ++ child ∷ [])) (sym (same_if index (length front) tested)) ∙ place_of-last front child in
    cc
names_none count front child namers is were place index false tested named =
    (were.names place index).1 (sym (place_of-other front child index (λ same. apart_if index (length front) tested (sym same))) ∙ named)

named_earlier : (count : ℕ) (front : List Child) (child : Child) (namers : List (Option ℕ)) → AreNamers count front namers
    → (place index : ℕ) → slice_get namers place ≡ Some (Some index) → place_of (front ++ child ∷ []) index ≡ Some place
named_earlier count front child namers were place index at =
    let named : place_of front index ≡ Some place = (were.names place index).0 at in
    let below : index < length front = place_of-within front index place named in
    place_of-other front child index (λ same. absurd (omega (arith, below, same))) ∙ named

pub so_absent : (count : ℕ) (front : List Child) (child : Child) (namers : List (Option ℕ)) → child.disk ≡ None
    → AreSo count front namers → AreSo count (front ++ child ∷ []) namers
so_absent count front child namers is were =
    record {
      named = record {
        so_many = were.named.so_many;
        names = λ place index. (
          named_earlier count front child namers were.named place index,
          names_none count front child namers is were.named place index (index == length front) refl,
        );
      };
      once = each_once-absent count front child is were.once;
    }

-- or one that no child before it names
pub some_apart : (index : ℕ) → Some None ≡ Some (Some index) → ⊥
some_apart index is = cc

pub one_namer : (index other : ℕ) → Some (Some index) ≡ Some (Some other) → index ≡ other
one_namer index other is = cc

named_now : (count : ℕ) (front : List Child) (child : Child) (namers : List (Option ℕ)) (place : ℕ) → child.disk ≡ Some place
    → place < length namers → AreNamers count front namers → (other index : ℕ) (test : Bool) → (other == place) ≡ test
    → slice_get (slice_set namers place (Some (length front))) other ≡ Some (Some index) → place_of (front ++ child ∷ []) index ≡ Some other
named_now count front child namers place is inside were other index true tested at =
    let same : place ≡ other = same_if other place tested in
    let now : slice_get (slice_set namers place (Some (length front))) other ≡ Some (Some (length front)) =
    ap (slice_get (slice_set namers place (Some (length front)))) (sym same) ∙ set-at namers place (Some (length front)) inside in
    let which : length front ≡ index = cc in
    ap (place_of (front ++ child ∷ [])) (sym which) ∙ place_of-last front child ∙ is ∙ ap Some same
named_now count front child namers place is inside were other index false tested at =
    named_earlier count front child namers were other index
    (sym (set-other namers place other (Some (length front)) (λ same. apart_if other place tested (sym same))) ∙ at)

names_now : (count : ℕ) (front : List Child) (child : Child) (namers : List (Option ℕ)) (place : ℕ) → child.disk ≡ Some place
    → place < length namers → slice_get namers place ≡ Some None → AreNamers count front namers → (other index : ℕ) (test : Bool)
    → (index == length front) ≡ test → place_of (front ++ child ∷ []) index ≡ Some other
    → slice_get (slice_set namers place (Some (length front))) other ≡ Some (Some index)
names_now count front child namers place is inside free were other index true tested named =
    let which : length front ≡ index = same_if index (length front) tested in
    let last : place_of (front ++ child ∷ []) index ≡ child.disk = ap (place_of (front ++ child ∷ [])) (sym which) ∙ place_of-last front child in
    let same : place ≡ other = cc in
    ap (slice_get (slice_set namers place (Some (length front)))) (sym same) ∙ set-at namers place (Some (length front)) inside
    ∙ ap (λ (n : ℕ). Some (Some n)) which
names_now count front child namers place is inside free were other index false tested named =
    let at : slice_get namers other ≡ Some (Some index) =
    (were.names other index).1 (sym (place_of-other front child index (λ same. apart_if index (length front) tested (sym same))) ∙ named) in
    set-other namers place other (Some (length front)) (λ same. absurd (some_apart index (sym free ∙ ap (slice_get namers) (sym same) ∙ at))) ∙ at

not_named : (count : ℕ) (front : List Child) (namers : List (Option ℕ)) (place : ℕ) → slice_get namers place ≡ Some None
    → AreNamers count front namers → ¬ Contains (places front) place
not_named count front namers place free were known =
    let (index, named) = who_names front place known in
    some_apart index (sym free ∙ (were.names place index).1 named)

pub so_present : (count : ℕ) (front : List Child) (child : Child) (namers : List (Option ℕ)) (place : ℕ) → child.disk ≡ Some place
    → place < count → slice_get namers place ≡ Some None → AreSo count front namers
    → AreSo count (front ++ child ∷ []) (slice_set namers place (Some (length front)))
so_present count front child namers place is below free were =
    let inside : place < length namers = slice_get_within namers place None free in
    record {
      named = record {
        so_many = length-set namers place (Some (length front)) ∙ were.named.so_many;
        names = λ other index. (
          named_now count front child namers place is inside were.named other index (other == place) refl,
          names_now count front child namers place is inside free were.named other index (index == length front) refl,
        );
      };
      once = each_once-present count front child place is below (not_named count front namers place free were.named) were.once;
    }

-- or one that names what isn't there, or what one before it names
pub so_beyond : (count : ℕ) (front rest all : List Child) (child : Child) (place : ℕ) → all ≡ front ++ child ∷ rest → child.disk ≡ Some place
    → ¬ (place < count) → ¬ AreEachOnce count all
so_beyond count front rest all child place parts is beyond each =
    beyond (each_once-among count front rest child place is (subst (AreEachOnce count) parts each))

pub so_again : (count : ℕ) (front rest all : List Child) (child : Child) (namers : List (Option ℕ)) (place index : ℕ) → all ≡ front ++ child ∷ rest
    → child.disk ≡ Some place → slice_get namers place ≡ Some (Some index) → AreNamers count front namers → ¬ AreEachOnce count all
so_again count front rest all child namers place index parts is at were each =
    each_once-fresh count front rest child place is (subst (AreEachOnce count) parts each)
    (named_place front index place ((were.names place index).0 at))
