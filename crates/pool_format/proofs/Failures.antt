-- Which disks failed, in parts of a run.
use Rattle.std.proofs.Common.{◌≡◌, ◌⊎◌, inl, inr, ◌<◌, ◌≤◌, ◌∙◌, ℕ, zero, suc, ◌&&◌, Bool, true, false, nat_le, if◌then◌else◌, List, [], ◌∷◌, ◌++◌, length, Contains, Result, Ok, Err, refl, sym, subst, arith}
use Rattle.std.specs.Prelude.{IsErrAnd}
use Rattle.std.proofs.lemmas.Bool.Decides.{nat_tests}
use Rattle.std.proofs.lemmas.List.{length-append}
use Rattle.std.proofs.lemmas.List.Elements.{Contains-append_cases}
use Rattle.model_disk.specs.Call.{Call, is_failed}
use Rattle.model_disk.specs.Joint.{JointCall, Disks, on, failed_since}
use Rattle.model_disk.specs.Runs.{Makes}
use Rattle.model_disk.proofs.FailureLemmas.{failed_first, kept_through}
use Rattle.pool_slots.specs.Failures.{HasFailedOn}
use Rattle.pool_slots.proofs.Failing.{fails_now, fails_later}
use Rattle.pool_format.specs.Faults.{FailedOn, IsFaultOf, is_fault}
use Rattle.pool_format.specs.declared.refusal.Refusal.{Refusal}

abbrev pub nowhere : ℕ → Type 0
nowhere which = ⊥

test_gt : (a b : ℕ) → b < a → nat_le a b ≡ false
test_gt a b lt = grind (arith, nat_tests)

none_since : (n : ℕ) (calls : List JointCall) (disk : ℕ) → length calls ≤ n → Contains (failed_since n calls) disk → ⊥
none_since n [] disk le has = omega (arith, has.1)
none_since n (made ∷ earlier) disk le has =
    let P : Bool → Type 0 = λ b. Contains (if b && is_failed made.call then made.which ∷ failed_since n earlier else failed_since n earlier) disk in
    none_since n earlier disk (omega (arith, le)) (subst P (test_gt n (length earlier) (omega (arith, le))) has)

one_is : (which disk : ℕ) → Contains (which ∷ []) disk → which ≡ disk
one_is which disk (zero, below, is) = is
one_is which disk (suc i, below, is) = absurd (omega (arith, below))

fail_case : (Q : ℕ → Type 0) (test failed : Bool) (which : ℕ) (xs : List ℕ) (disk : ℕ) → (failed ≡ true → Q which) → (Contains xs disk → Q disk)
    → Contains (if test && failed then which ∷ xs else xs) disk → Q disk
fail_case Q true true which xs disk this rest has = elim (Contains-append_cases (which ∷ []) xs disk has) [
  | inl one ↦ subst Q (one_is which disk one) (this refl)
  | inr more ↦ rest more
]
fail_case Q true false which xs disk this rest has = rest has
fail_case Q false failed which xs disk this rest has = rest has

-- it failed in the first part of a run, or in the second
failed_split : (n : ℕ) (newer mid : List JointCall) (disk : ℕ) → Contains (failed_since n (newer ++ mid)) disk
    → Contains (failed_since n mid) disk ⊎ Contains (failed_since (length mid) (newer ++ mid)) disk
failed_split n [] mid disk has = inl has
failed_split n (made ∷ newer) mid disk has =
    let Q : ℕ → Type 0 = λ d. Contains (failed_since n mid) d ⊎ Contains (failed_since (length mid) (made ∷ (newer ++ mid))) d in
    fail_case Q (nat_le n (length (newer ++ mid))) (is_failed made.call) made.which (failed_since n (newer ++ mid)) disk
    (λ failed. inr (failed_first (length mid) made.which made.call (newer ++ mid) (omega (arith, length-append newer mid)) failed))
    (λ more. elim (failed_split n newer mid disk more) [ inl before ↦ inl before | inr later ↦ inr (kept_through (length mid) (made ∷ []) (newer ++ mid) disk later) ])
    has

failed_where : (may : ℕ → ℕ → List ℕ → Type 0) (old mid new : Disks) (disk : ℕ) → Makes may mid new → HasFailedOn old new disk → HasFailedOn old mid disk ⊎ HasFailedOn mid new disk
failed_where may old mid new disk makes failed =
    let P : List JointCall → Type 0 = λ them. Contains (failed_since (length old.calls) them) disk in
    let Q : List JointCall → Type 0 = λ them. Contains (failed_since (length old.calls) mid.calls) disk ⊎ Contains (failed_since (length mid.calls) them) disk in
    subst Q (sym makes.calls) (failed_split (length old.calls) makes.newer mid.calls disk (subst P makes.calls failed))

-- ---- which failed

pub none_failed : (old : Disks) → FailedOn nowhere old old
none_failed old disk = (λ failed. none_since (length old.calls) old.calls disk (omega arith) failed, λ none. absurd none)

-- after a part in which none did
pub failed_after : (may also : ℕ → ℕ → List ℕ → Type 0) (faulty : ℕ → Type 0) (old mid new : Disks) → Makes may old mid → Makes also mid new → FailedOn nowhere old mid → FailedOn faulty mid new
    → FailedOn faulty old new
failed_after may also faulty old mid new first second none failed disk = (
  λ has. elim (failed_where also old mid new disk second has) [ inl before ↦ absurd ((none disk).0 before) | inr later ↦ (failed disk).0 later ],
  λ is. fails_later may old mid new first disk ((failed disk).1 is),
)

one_call : (old : Disks) (which : ℕ) (call : Call) (disk : ℕ) → Contains (failed_since (length old.calls) (on which call ∷ old.calls)) disk → (disk ≡ which) × (is_failed call ≡ true)
one_call old which call disk has =
    let Q : ℕ → Type 0 = λ d. (d ≡ which) × (is_failed call ≡ true) in
    fail_case Q (nat_le (length old.calls) (length old.calls)) (is_failed call) which (failed_since (length old.calls) old.calls) disk (λ failed. (refl, failed))
    (λ more. absurd (none_since (length old.calls) old.calls disk (omega arith) more)) has

one_since : (old new : Disks) (which : ℕ) (call : Call) (disk : ℕ) → new.calls ≡ on which call ∷ old.calls → HasFailedOn old new disk → (disk ≡ which) × (is_failed call ≡ true)
one_since old new which call disk calls has =
    let P : List JointCall → Type 0 = λ them. Contains (failed_since (length old.calls) them) disk in
    one_call old which call disk (subst P calls has)

pub failed_one : (old new : Disks) (which : ℕ) (call : Call) → new.calls ≡ on which call ∷ old.calls → is_failed call ≡ true → FailedOn (λ w. w ≡ which) old new
failed_one old new which call calls failed disk = (
  λ has. (one_since old new which call disk calls has).0,
  λ is. let P : ℕ → Type 0 = HasFailedOn old new in subst P (sym is) (fails_now old new which call calls failed),
)

pub answered_one : (old new : Disks) (which : ℕ) (call : Call) → new.calls ≡ on which call ∷ old.calls → is_failed call ≡ false → FailedOn nowhere old new
answered_one old new which call calls fine disk = (
  λ has. let failed : is_failed call ≡ true = (one_since old new which call disk calls has).1 in absurd (let e : false ≡ true = sym fine ∙ failed in cc),
  λ none. absurd none,
)

pub none_made : (old new : Disks) → new.calls ≡ old.calls → FailedOn nowhere old new
none_made old new calls disk = (
  λ has. let P : List JointCall → Type 0 = λ them. Contains (failed_since (length old.calls) them) disk in none_since (length old.calls) old.calls disk (omega arith) (subst P calls has),
  λ none. absurd none,
)

-- by the answer
pub failed_err : {T : Type 0} (r : Result T Refusal) (e : Refusal) (old new : Disks) → IsErrAnd r (λ x. x ≡ e) → FailedOn (is_fault e) old new → FailedOn (IsFaultOf r) old new
failed_err (Ok x) e old new is failed = absurd is
failed_err {T} (Err x) e old new is failed = let P : Refusal → Type 0 = λ y. FailedOn (is_fault y) old new in subst P (sym is) failed
