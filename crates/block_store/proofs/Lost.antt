-- The disks that are lost for a birth.
use Rattle.std.proofs.Common.{ℕ, zero, suc, ◌≡◌, ◌≢◌, inl, inr, ◌≤◌, Bool, true, false, cond, if◌then◌else◌, List, [], ◌∷◌, ◌++◌, ◌⊎◌, Contains, refl, sym, ap, subst, ◌∙◌, arith}
use Rattle.std.specs.Prelude.{nat_le, nat_lt, min, map, filter, slice_index, slice_set}
use Rattle.std.proofs.lemmas.Bool.Decides.{nat_tests}
use Rattle.raidz_io.proofs.Calls.{Contains-front, Contains-later, Contains-cases}
use Rattle.std.proofs.lemmas.List.Elements.{Contains-append_left, Contains-append_right, Contains-append_cases}
use Rattle.block_store.specs.Store.{Store, Spans, is_out, IsOutToo, GoesOut, in_group, outs, outs_from, missed, stale_from, lost}
use Rattle.block_store.proofs.Outs.{in_is_out, more_out}

of_filter_by : (p : ℕ → Bool) (y : ℕ) (ys : List ℕ) (x : ℕ) (b : Bool) → p y ≡ b → (Contains (filter p ys) x → Contains ys x × (p x ≡ true))
    → Contains (cond b (y ∷ filter p ys) (filter p ys)) x → Contains (y ∷ ys) x × (p x ≡ true)
of_filter_by p y ys x true is rest held = elim (Contains-cases y (filter p ys) x held) [
  | inl same ↦ (rw same (Contains-front y ys), ap p same ∙ is)
  | inr later ↦ let there = rest later in (Contains-later y ys x there.0, there.1)
]
of_filter_by p y ys x false is rest held = let there = rest held in (Contains-later y ys x there.0, there.1)

of_filter : (p : ℕ → Bool) (xs : List ℕ) (x : ℕ) → Contains (filter p xs) x → Contains xs x × (p x ≡ true)
of_filter p [] x (k, within, is) = absurd (omega arith)
of_filter p (y ∷ ys) x held = of_filter_by p y ys x (p y) refl (of_filter p ys x) held

into_filter_by : (p : ℕ → Bool) (y : ℕ) (ys : List ℕ) (x : ℕ) (b : Bool) → p y ≡ b → (Contains ys x → Contains (filter p ys) x) → Contains (y ∷ ys) x → p x ≡ true
    → Contains (cond b (y ∷ filter p ys) (filter p ys)) x
into_filter_by p y ys x true is rest held passes = elim (Contains-cases y ys x held) [
  | inl same ↦ rw same (Contains-front y (filter p ys))
  | inr later ↦ Contains-later y (filter p ys) x (rest later)
]
into_filter_by p y ys x false is rest held passes = elim (Contains-cases y ys x held) [
  | inl same ↦ absurd (let no : true ≡ false = sym passes ∙ ap p same ∙ is in cc)
  | inr later ↦ rest later
]

into_filter : (p : ℕ → Bool) (xs : List ℕ) (x : ℕ) → Contains xs x → p x ≡ true → Contains (filter p xs) x
into_filter p [] x (k, within, is) passes = absurd (omega arith)
into_filter p (y ∷ ys) x held passes = into_filter_by p y ys x (p y) refl (λ later. into_filter p ys x later passes) held passes

le_of : (a b : ℕ) → nat_le a b ≡ true → a ≤ b
le_of a b is = grind (arith, nat_tests)

of_le : (a b : ℕ) → a ≤ b → nat_le a b ≡ true
of_le a b le = grind (arith, nat_tests)

-- those that are out since the birth or earlier
abbrev away : Store → ℕ → List ℕ
away store birth = filter (λ disk. nat_le (slice_index store.spans.since disk) birth) (outs store)

-- a disk that is lost is out since the birth or earlier, or missed it
pub lost_cases : (store : Store) (birth disk : ℕ) → Contains (lost store birth) disk
    → (Contains (outs store) disk × (slice_index store.spans.since disk ≤ birth)) ⊎ Contains (missed store birth) disk
lost_cases store birth disk held = elim (Contains-append_cases (away store birth) (missed store birth) disk held) [
  | inl first ↦
      let is = of_filter (λ it. nat_le (slice_index store.spans.since it) birth) (outs store) disk first in
      inl (is.0, le_of (slice_index store.spans.since disk) birth is.1)
  | inr stale ↦ inr stale
]

-- so it is out, or missed it
pub lost_is_out : (store : Store) (birth disk : ℕ) → Contains (lost store birth) disk → Contains (outs store) disk ⊎ Contains (missed store birth) disk
lost_is_out store birth disk held = elim (lost_cases store birth disk held) [ inl is ↦ inl is.0 | inr stale ↦ inr stale ]

pub is_lost : (store : Store) (birth disk : ℕ) → Contains (outs store) disk → slice_index store.spans.since disk ≤ birth → Contains (lost store birth) disk
is_lost store birth disk out since =
    Contains-append_left (away store birth) (missed store birth) disk
    (into_filter (λ it. nat_le (slice_index store.spans.since it) birth) (outs store) disk out (of_le (slice_index store.spans.since disk) birth since))

-- each disk that was lost for a birth is so still
abbrev pub LoseMore : Store → Store → Type 0
LoseMore old new = (birth disk : ℕ) → Contains (lost old birth) disk → Contains (lost new birth) disk

-- where the same disks missed the same groups it is enough that those that are out stay so, since no later group
lose_by : (old new : Store) → new.spans.stale ≡ old.spans.stale
    → ((birth disk : ℕ) → Contains (outs old) disk → slice_index old.spans.since disk ≤ birth → Contains (lost new birth) disk) → LoseMore old new
lose_by old new stale out birth disk held = elim (lost_cases old birth disk held) [
  | inl is ↦ out birth disk is.0 is.1
  | inr missed_it ↦
      Contains-append_right (away new birth) (missed new birth) disk (subst (λ them. Contains (stale_from 0 them birth) disk) (sym stale) missed_it)
]

pub lose_same : (old new : Store) → new.out ≡ old.out → new.spans ≡ old.spans → LoseMore old new
lose_same old new out spans =
    lose_by old new (ap (λ (s : Spans). s.stale) spans) (λ birth disk is since.
    is_lost new birth disk (subst (λ flags. Contains (outs_from 0 flags) disk) (sym out) is)
    (subst (λ (s : Spans). slice_index s.since disk ≤ birth) (sym spans) since))

-- ---- a plan of another group

lowered : (since : List ℕ) (group disk : ℕ) → slice_index (map (min group) since) disk ≤ slice_index since disk
lowered [] group disk = omega arith
lowered (x ∷ xs) group zero = omega arith
lowered (x ∷ xs) group (suc disk) = lowered xs group disk

no_later : (test : Bool) (since : List ℕ) (group disk : ℕ) → slice_index (if test then map (min group) since else since) disk ≤ slice_index since disk
no_later true since group disk = lowered since group disk
no_later false since group disk = omega arith

pub lose_in : (old new : Store) (group : ℕ) → new.out ≡ old.out → new.spans ≡ in_group old.spans group → LoseMore old new
lose_in old new group out spans =
    lose_by old new (ap (λ (s : Spans). s.stale) spans) (λ birth disk is since.
    let sooner : slice_index (in_group old.spans group).since disk ≤ slice_index old.spans.since disk =
    no_later (nat_lt group old.spans.group) old.spans.since group disk in
    is_lost new birth disk (subst (λ flags. Contains (outs_from 0 flags) disk) (sym out) is)
    (subst (λ (s : Spans). slice_index s.since disk ≤ birth) (sym spans) (omega (arith, sooner, since))))

-- ---- a disk goes out

set_other : (xs : List ℕ) (i k v : ℕ) → i ≢ k → slice_index (slice_set xs i v) k ≡ slice_index xs k
set_other [] i k v differ = refl
set_other (x ∷ xs) zero zero v differ = absurd (differ refl)
set_other (x ∷ xs) zero (suc k) v differ = refl
set_other (x ∷ xs) (suc i) zero v differ = refl
set_other (x ∷ xs) (suc i) (suc k) v differ = set_other xs i k v (λ same. differ (ap suc same))

pub lose_one : (old new : Store) (disk : ℕ) → IsOutToo old.out disk new.out → GoesOut old disk new → LoseMore old new
lose_one old new disk too gone = cases (is_out old.out disk) refl gone
  where
    cases : (was : Bool) → is_out old.out disk ≡ was
        → new.spans ≡ (if was then old.spans else record old.spans { since = slice_set old.spans.since disk old.spans.group })
        → LoseMore old new
    cases true is spans =
        lose_by old new (ap (λ (s : Spans). s.stale) spans) (λ birth other out since.
        is_lost new birth other (more_out old new disk too other out) (subst (λ (s : Spans). slice_index s.since other ≤ birth) (sym spans) since))
    cases false is spans =
        lose_by old new (ap (λ (s : Spans). s.stale) spans) (λ birth other out since.
        let differ : disk ≢ other = λ same. absurd (let no : true ≡ false = sym (in_is_out old other out) ∙ ap (is_out old.out) (sym same) ∙ is in cc) in
        let same : slice_index (slice_set old.spans.since disk old.spans.group) other ≡ slice_index old.spans.since other =
        set_other old.spans.since disk other old.spans.group differ in
        is_lost new birth other (more_out old new disk too other out)
        (subst (λ (s : Spans). slice_index s.since other ≤ birth) (sym spans) (omega (arith, same, since))))

pub same_group : (old new : Store) (disk : ℕ) → GoesOut old disk new → new.spans.group ≤ old.spans.group
same_group old new disk gone = cases (is_out old.out disk) gone
  where
    cases : (was : Bool) → new.spans ≡ (if was then old.spans else record old.spans { since = slice_set old.spans.since disk old.spans.group })
        → new.spans.group ≤ old.spans.group
    cases true spans = let same : new.spans.group ≡ old.spans.group = ap (λ (s : Spans). s.group) spans in omega (arith, same)
    cases false spans = let same : new.spans.group ≡ old.spans.group = ap (λ (s : Spans). s.group) spans in omega (arith, same)
