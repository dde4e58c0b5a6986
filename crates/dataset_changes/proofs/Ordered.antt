-- The changes of plans that are in the order of their numbers.
use Rattle.std.proofs.Common.{ℕ, ◌≡◌, ◌≢◌, ◌<◌, Bool, true, false, cond, eqb, List, [], ◌∷◌, Option, Some, None, All, AllPairs, ⊎_elim, refl, sym, subst, ap, ◌∙◌, arith}
use Rattle.std.specs.Cmp.{eq_by_cmp_equiv, nat_cmp_total, unsigned_tied}
use Rattle.std.specs.List.{AllByRecursion}
use Rattle.std.specs.List.Sorted.{IsStrictlySortedBy}
use Rattle.std.specs.Map.{keys_of, lookup}
use Rattle.std.specs.BTreeMap.{is_at}
use Rattle.std.specs.Ordering.{nat_cmp}
use Rattle.std.specs.declared.cmp.Ordering.TheVariants.{Less}
use Rattle.std.proofs.lemmas.Bool.{cases_eq, ne_eqb}
use Rattle.std.proofs.lemmas.Bool.Decides.{eqb_tells, nat_tests}
use Rattle.std.proofs.lemmas.List.Elements.{All-from_recursion}
use Rattle.std.proofs.lemmas.List.Kept.{AllPairs-cons}
use Rattle.std.proofs.lemmas.Map.{lookup-none}
use Rattle.std.proofs.lemmas.Map.Entries.{lookup_head, lookup_tail, none_past_head}
use Rattle.std.proofs.lemmas.Map.Keys.{IsDistinct-from_sorted, sorted_head, sorted_tail}
use Rattle.objset.specs.Changes.{after_change, changed}
use Rattle.objset.specs.Objects.{Object}
use Rattle.objset.specs.declared.changes.Change.{Change}
use Rattle.objset.specs.declared.changes.ObjectChange.{ObjectChange}
use Rattle.dataset_changes.specs.Planned.{after_plan, change_of, changes_of}

-- what becomes of an object by what is planned at its number
abbrev pub after_planned : Option (Option Change) → Option Object → Option Object
after_planned None object = object
after_planned (Some plan) object = after_plan plan object

eqb_same : (k : ℕ) → eqb k k ≡ true
eqb_same k = ⊎_elim (λ yes. yes.0) (λ other. absurd (other.1 refl)) (eqb_tells k k)

at_same : (k : ℕ) → is_at (nat_cmp k) k ≡ true
at_same k = unsigned_tied k k ∙ eqb_same k

at_other : (q k : ℕ) → q ≢ k → is_at (nat_cmp q) k ≡ false
at_other q k apart = unsigned_tied q k ∙ ne_eqb q k apart

less : (x y : ℕ) → nat_cmp x y ≡ Less → x < y
less x y is = grind (arith, nat_tests)

-- ---- one plan before others

head_changed : (k : ℕ) (plan : Option Change) (rest : List ObjectChange) (objects : ℕ → Option Object) → changed rest objects k ≡ objects k → changed (change_of k plan rest) objects k ≡ after_plan plan (objects k)
head_changed k None rest objects none = none
head_changed k (Some change) rest objects none = ap (λ (b : Bool). cond b (after_change change (objects k)) (changed rest objects k)) (eqb_same k)

tail_changed : (k : ℕ) (plan : Option Change) (rest : List ObjectChange) (objects : ℕ → Option Object) (q : ℕ) → q ≢ k → changed (change_of k plan rest) objects q ≡ changed rest objects q
tail_changed k None rest objects q apart = refl
tail_changed k (Some change) rest objects q apart =
    ap (λ (b : Bool). cond b (after_change change (objects q)) (changed rest objects q)) (ne_eqb k q (λ same. apart (sym same)))

module _ (e : ℕ × Option Change) (es : List (ℕ × Option Change)) (sorted : IsStrictlySortedBy nat_cmp (keys_of (e ∷ es))) where
  rest_sorted : IsStrictlySortedBy nat_cmp (keys_of es)
  rest_sorted = sorted_tail nat_cmp e.0 (keys_of es) sorted

  none_behind : lookup (is_at (nat_cmp e.0)) es ≡ None
  none_behind =
      lookup-none (is_at (nat_cmp e.0)) es
      (none_past_head (eq_by_cmp_equiv nat_cmp_total) e.0 e es (IsDistinct-from_sorted nat_cmp (keys_of (e ∷ es)) sorted) (at_same e.0))

  found_head : lookup (is_at (nat_cmp e.0)) (e ∷ es) ≡ Some e.1
  found_head = lookup_head (is_at (nat_cmp e.0)) e es (at_same e.0)

  found_tail : (q : ℕ) → q ≢ e.0 → lookup (is_at (nat_cmp q)) (e ∷ es) ≡ lookup (is_at (nat_cmp q)) es
  found_tail q apart = lookup_tail (is_at (nat_cmp q)) e es (at_other q e.0 apart)

  other_behind : (q : ℕ) (plan : Option Change) → lookup (is_at (nat_cmp q)) es ≡ Some plan → q ≢ e.0
  other_behind q plan is same =
      let clash : None ≡ Some plan = sym none_behind ∙ subst (λ (n : ℕ). lookup (is_at (nat_cmp n)) es ≡ Some plan) same is in absurd cc

-- ---- all of them

-- each object becomes what is planned at its number
pub changed_is : (es : List (ℕ × Option Change)) → IsStrictlySortedBy nat_cmp (keys_of es) → (objects : ℕ → Option Object) (q : ℕ) → changed (changes_of es) objects q ≡ after_planned (lookup (is_at (nat_cmp q)) es) (objects q)
changed_is [] sorted objects q = refl
changed_is (e ∷ es) sorted objects q =
    ⊎_elim
    (λ same.
    subst (λ (n : ℕ). changed (changes_of (e ∷ es)) objects n ≡ after_planned (lookup (is_at (nat_cmp n)) (e ∷ es)) (objects n)) (sym same)
    (head_changed e.0 e.1 (changes_of es) objects
    (changed_is es (rest_sorted e es sorted) objects e.0 ∙ ap (λ (p : Option (Option Change)). after_planned p (objects e.0)) (none_behind e es sorted))
    ∙ sym (ap (λ (p : Option (Option Change)). after_planned p (objects e.0)) (found_head e es sorted))))
    (λ apart.
    tail_changed e.0 e.1 (changes_of es) objects q apart ∙ changed_is es (rest_sorted e es sorted) objects q
    ∙ sym (ap (λ (p : Option (Option Change)). after_planned p (objects q)) (found_tail e es sorted q apart)))
    (cases_eq q e.0)

-- what holds of each plan of a change holds of each change
module _ (P : ℕ → Change → Type 0) where
  abbrev Holds : ObjectChange → Type 0
  Holds change = P change.number change.change

  head_holds : (k : ℕ) (plan : Option Change) (rest : List ObjectChange) → ((change : Change) → plan ≡ Some change → P k change) → AllByRecursion Holds rest → AllByRecursion Holds (change_of k plan rest)
  head_holds k None rest here behind = behind
  head_holds k (Some change) rest here behind = (here change refl, behind)

  all_hold : (es : List (ℕ × Option Change)) → IsStrictlySortedBy nat_cmp (keys_of es) → ((q : ℕ) (change : Change) → lookup (is_at (nat_cmp q)) es ≡ Some (Some change) → P q change)
      → AllByRecursion Holds (changes_of es)
  all_hold [] sorted each = tt
  all_hold (e ∷ es) sorted each =
      head_holds e.0 e.1 (changes_of es) (λ change is. each e.0 change (found_head e es sorted ∙ ap (λ (p : Option Change). Some p) is))
      (all_hold es (rest_sorted e es sorted) (λ q change is. each q change (found_tail e es sorted q (other_behind e es sorted q (Some change) is) ∙ is)))

  pub changes_hold : (es : List (ℕ × Option Change)) → IsStrictlySortedBy nat_cmp (keys_of es) → ((q : ℕ) (change : Change) → lookup (is_at (nat_cmp q)) es ≡ Some (Some change) → P q change)
      → All (λ change. P change.number change.change) (changes_of es)
  changes_hold es sorted each = All-from_recursion Holds (changes_of es) (all_hold es sorted each)

-- ---- their order

module _ (k : ℕ) where
  abbrev IsBehind : ObjectChange → Type 0
  IsBehind later = k < later.number

  one_behind : (n : ℕ) (plan : Option Change) (rest : List ObjectChange) → k < n → AllByRecursion IsBehind rest → AllByRecursion IsBehind (change_of n plan rest)
  one_behind n None rest here behind = behind
  one_behind n (Some change) rest here behind = (here, behind)

  all_behind : (es : List (ℕ × Option Change)) → AllByRecursion (λ n. nat_cmp k n ≡ Less) (keys_of es) → AllByRecursion IsBehind (changes_of es)
  all_behind [] each = tt
  all_behind (e ∷ es) each = one_behind e.0 e.1 (changes_of es) (less k e.0 each.0) (all_behind es each.1)

abbrev IsBefore : ObjectChange → ObjectChange → Type 0
IsBefore change later = change.number < later.number

first_ordered : (k : ℕ) (plan : Option Change) (rest : List ObjectChange) → AllByRecursion (IsBehind k) rest → AllPairs IsBefore rest → AllPairs IsBefore (change_of k plan rest)
first_ordered k None rest behind ordered = ordered
first_ordered k (Some change) rest behind ordered =
    AllPairs-cons IsBefore (record { number = k; change = change }) rest (All-from_recursion (IsBehind k) rest behind) ordered

pub changes_ordered : (es : List (ℕ × Option Change)) → IsStrictlySortedBy nat_cmp (keys_of es) → AllPairs (λ change later. change.number < later.number) (changes_of es)
changes_ordered [] sorted = λ i j d below within. absurd (omega arith)
changes_ordered (e ∷ es) sorted =
    first_ordered e.0 e.1 (changes_of es) (all_behind e.0 es (sorted_head nat_cmp e.0 (keys_of es) sorted)) (changes_ordered es (rest_sorted e es sorted))
