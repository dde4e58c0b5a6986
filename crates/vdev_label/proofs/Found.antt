-- A list in which each of so many names is found, and that has no more pairs, has these pairs in order.
use Rattle.std.proofs.Common.{◌≡◌, ◌≤◌, ◌∙◌, ℕ, suc, Bool, true, false, if◌then◌else◌, List, Option, Some, None, refl, sym, ap, subst, arith}
use Rattle.std.specs.Prelude.{IsTrue}
use Rattle.std.specs.Cmp.Lexicographic.{slice_cmp}
use Rattle.std.proofs.Common.{Ordering, Less, Equal, Greater}
use Rattle.std.specs.Ordering.{nat_cmp, is_lt, ordering_reverse}
use Rattle.std.specs.Str.{bytes_eq}
use Rattle.std.proofs.lemmas.Cmp.{nat_list_cmp_total}
use Rattle.std.proofs.lemmas.Slice.Eq.{bytes_eq-Decides}
use Rattle.nvlist.specs.Find.{find}
use Rattle.nvlist.specs.Grammar.{FitsBehind, FitsValue}
use Rattle.nvlist.specs.Plain.{PlainValue, PlainList, no_pairs, pair, pair_count}

abbrev pub IsBelow : List ℕ → List ℕ → Type 0
IsBelow name other = slice_cmp nat_cmp name other ≡ Less

-- the names ascend from the last
abbrev pub Ascends : List ℕ → PlainList → Type 0
Ascends last no_pairs = Unit {0}
Ascends last (pair name value others) = IsBelow last name × Ascends name others

-- each of these names is found, with its value
abbrev pub AllFound : PlainList → PlainList → Type 0
AllFound no_pairs l = Unit {0}
AllFound (pair name value others) l = (find name l ≡ Some value) × AllFound others l

less_is : (o : Ordering) → IsTrue (is_lt o) → o ≡ Less
less_is Less t = refl
less_is Equal t = cc
less_is Greater t = cc

pub fits_ascend : (last : List ℕ) (l : PlainList) → FitsBehind last l → Ascends last l
fits_ascend last no_pairs fits = tt
fits_ascend last (pair name value others) fits = (less_is (slice_cmp nat_cmp last name) fits.0.behind, fits_ascend name others fits.2)

below_trans : (a b c : List ℕ) → IsBelow a b → IsBelow b c → IsBelow a c
below_trans a b c = nat_list_cmp_total.trans a b c

no_Less : (o : Ordering) → o ≡ ordering_reverse o → o ≡ Less → ⊥
no_Less Less same is = cc
no_Less Equal same is = cc
no_Less Greater same is = cc

not_below : (a : List ℕ) → IsBelow a a → ⊥
not_below a below = no_Less (slice_cmp nat_cmp a a) (nat_list_cmp_total.antisymm a a) below

from_below : (low high : List ℕ) (l : PlainList) → IsBelow low high → Ascends high l → Ascends low l
from_below low high no_pairs below ascends = tt
from_below low high (pair name value others) below ascends = (below_trans low high name below ascends.0, ascends.1)

apart : (first name : List ℕ) → IsBelow first name → (test : Bool) → bytes_eq first name ≡ test → test ≡ false
apart first name below true tested =
    let P : List ℕ → Type 0 = λ it. IsBelow it name in
    absurd (not_below name (subst P ((bytes_eq-Decides first name).0 tested) below))
apart first name below false tested = refl

else_is : (test : Bool) (a b r : Option PlainValue) → test ≡ false → (if test then a else b) ≡ r → b ≡ r
else_is true a b r tested is = cc
else_is false a b r tested is = is

then_is : (test : Bool) (a b r : Option PlainValue) → test ≡ true → (if test then a else b) ≡ r → a ≡ r
then_is true a b r tested is = is
then_is false a b r tested is = cc

found_behind : (first : List ℕ) (x : PlainValue) (others : PlainList) (name : List ℕ) (value : PlainValue) → bytes_eq first name ≡ false
    → find name (pair first x others) ≡ Some value → find name others ≡ Some value
found_behind first x others name value tested found =
    else_is (bytes_eq first name) (Some x) (find name others) (Some value) tested found

same_name : (first name : List ℕ) → bytes_eq first name ≡ true → first ≡ name
same_name first name tested = (bytes_eq-Decides first name).0 tested

above_by : (last first : List ℕ) (x : PlainValue) (others : PlainList) (name : List ℕ) (value : PlainValue) → IsBelow last first → Ascends first others
    → find name (pair first x others) ≡ Some value → (find name others ≡ Some value → IsBelow first name)
    → (test : Bool) → bytes_eq first name ≡ test → IsBelow last name
above_by last first x others name value below ascends found rest true tested =
    let P : List ℕ → Type 0 = IsBelow last in subst P (same_name first name tested) below
above_by last first x others name value below ascends found rest false tested =
    below_trans last first name below (rest (found_behind first x others name value tested found))

-- what is found in a list that ascends is above what it ascends from
found_above : (last : List ℕ) (l : PlainList) (name : List ℕ) (value : PlainValue) → Ascends last l → find name l ≡ Some value → IsBelow last name
found_above last no_pairs name value ascends found = cc
found_above last (pair first x others) name value ascends found =
    above_by last first x others name value ascends.0 ascends.1 found (found_above first others name value ascends.1) (bytes_eq first name) refl

-- names above the first pair's are found behind it
behind : (first : List ℕ) (x : PlainValue) (others wanted : PlainList) → Ascends first wanted → AllFound wanted (pair first x others) → AllFound wanted others
behind first x others no_pairs ascends found = tt
behind first x others (pair name value more) ascends found = (
  found_behind first x others name value (apart first name ascends.0 (bytes_eq first name) refl) found.0,
  behind first x others more (from_below first name more ascends.0 ascends.1) found.1,
)

-- wanted names, the first of which is not the first pair's, are found behind it
behind_all : (first : List ℕ) (x : PlainValue) (others : PlainList) (name : List ℕ) (value : PlainValue) (more : PlainList) → Ascends first others
    → Ascends name more → AllFound (pair name value more) (pair first x others) → bytes_eq first name ≡ false
    → IsBelow first name × AllFound (pair name value more) others
behind_all first x others name value more ascends wanted found tested =
    let here = found_behind first x others name value tested found.0 in
    let above = found_above first others name value ascends here in
    (above, behind first x others (pair name value more) (above, wanted) found)

least_by : (first : List ℕ) (x : PlainValue) (others : PlainList) (name : List ℕ) (value : PlainValue) (more : PlainList)
    → ((wanted : PlainList) → Ascends first wanted → AllFound wanted others → pair_count wanted ≤ pair_count others)
    → Ascends first others → Ascends name more → AllFound (pair name value more) (pair first x others)
    → (test : Bool) → bytes_eq first name ≡ test → suc (pair_count more) ≤ suc (pair_count others)
least_by first x others name value more least ascends wanted found true tested =
    let P : List ℕ → Type 0 = λ it. Ascends it more in
    let from : Ascends first more = subst P (sym (same_name first name tested)) wanted in
    omega (arith, least more from (behind first x others more from found.1))
least_by first x others name value more least ascends wanted found false tested =
    let all = behind_all first x others name value more ascends wanted found tested in
    omega (arith, least (pair name value more) (all.0, wanted) all.1)

at_least : (last : List ℕ) (l wanted : PlainList) → Ascends last l → Ascends last wanted → AllFound wanted l → pair_count wanted ≤ pair_count l
at_least last l no_pairs ascends wanted found = omega arith
at_least last no_pairs (pair name value more) ascends wanted found = let no : None ≡ Some value = found.0 in cc
at_least last (pair first x others) (pair name value more) ascends wanted found =
    least_by first x others name value more (λ them. at_least first others them ascends.1) ascends.1 wanted.1 found (bytes_eq first name) refl

exact_by : (first : List ℕ) (x : PlainValue) (others : PlainList) (name : List ℕ) (value : PlainValue) (more : PlainList)
    → (Ascends first more → AllFound more others → others ≡ more)
    → Ascends first others → Ascends name more → AllFound (pair name value more) (pair first x others) → pair_count others ≤ pair_count more
    → (test : Bool) → bytes_eq first name ≡ test → pair first x others ≡ pair name value more
exact_by first x others name value more exact ascends wanted found count true tested =
    let P : List ℕ → Type 0 = λ it. Ascends it more in
    let from : Ascends first more = subst P (sym (same_name first name tested)) wanted in
    let it : Some x ≡ Some value = then_is (bytes_eq first name) (Some x) (find name others) (Some value) tested found.0 in
    let same_value : x ≡ value = cc in
    let rest : others ≡ more = exact from (behind first x others more from found.1) in
    ap (λ n. pair n x others) (same_name first name tested) ∙ ap (λ v. pair name v others) same_value ∙ ap (pair name value) rest
exact_by first x others name value more exact ascends wanted found count false tested =
    let all = behind_all first x others name value more ascends wanted found tested in
    absurd (omega (arith, count, at_least first others (pair name value more) ascends (all.0, wanted) all.1))

-- the list is what was wanted of it
pub exactly : (last : List ℕ) (l wanted : PlainList) → Ascends last l → Ascends last wanted → AllFound wanted l → pair_count l ≤ pair_count wanted → l ≡ wanted
exactly last no_pairs no_pairs ascends wanted found count = refl
exactly last no_pairs (pair name value more) ascends wanted found count = let no : None ≡ Some value = found.0 in cc
exactly last (pair first x others) no_pairs ascends wanted found count = absurd (omega (arith, count))
exactly last (pair first x others) (pair name value more) ascends wanted found count =
    exact_by first x others name value more (λ from them. exactly first others more ascends.1 from them (omega (arith, count))) ascends.1 wanted.1 found
    (omega (arith, count)) (bytes_eq first name) refl

fits_by : (first : List ℕ) (x : PlainValue) (others : PlainList) (name : List ℕ) (value : PlainValue) → FitsValue x
    → (find name others ≡ Some value → FitsValue value) → find name (pair first x others) ≡ Some value
    → (test : Bool) → bytes_eq first name ≡ test → FitsValue value
fits_by first x others name value fits rest found true tested =
    let it : Some x ≡ Some value = then_is (bytes_eq first name) (Some x) (find name others) (Some value) tested found in
    let same : x ≡ value = cc in subst FitsValue same fits
fits_by first x others name value fits rest found false tested = rest (found_behind first x others name value tested found)

-- what is found in a list that fits does so
pub find_fits : (last : List ℕ) (l : PlainList) (name : List ℕ) (value : PlainValue) → FitsBehind last l → find name l ≡ Some value → FitsValue value
find_fits last no_pairs name value fits found = cc
find_fits last (pair first x others) name value fits found =
    fits_by first x others name value fits.1 (find_fits first others name value fits.2) found (bytes_eq first name) refl
