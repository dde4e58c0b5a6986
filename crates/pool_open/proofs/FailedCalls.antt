-- A call that failed was one on a disk that was called.
use Rattle.std.proofs.Common.{◌≡◌, inl, inr, ◌≤◌, ◌<◌, ◌∙◌, ℕ, zero, suc, ◌+◌, ◌==◌, ◌&&◌, Bool, true, false, nat_le, if◌then◌else◌, List, [], ◌∷◌, ◌++◌, length, Contains, ap, subst, arith}
use Rattle.std.proofs.lemmas.Bool.Decides.{nat_tests}
use Rattle.std.proofs.lemmas.List.{length-append}
use Rattle.std.proofs.lemmas.List.Elements.{Contains-append_cases}
use Rattle.model_disk.specs.Call.{Call, is_failed}
use Rattle.model_disk.specs.Joint.{Disks, JointCall, calls_on, failed_since}
use Rattle.model_disk.proofs.JointLemmas.{calls_on-same}
use Rattle.model_disk.proofs.RunLemmas.{calls_on-append}
use Rattle.pool_slots.specs.Failures.{HasFailedOn}
use Rattle.pool_slots.specs.Slots.{InUse, MakesOn}
use Rattle.pool_open.proofs.Outs.{used_or_out}

only_one : (x y : ℕ) → Contains (x ∷ []) y → x ≡ y
only_one x y (zero, within, is) = is
only_one x y (suc k, within, is) = absurd (omega (arith, within))

-- the disk of a call that failed is that of the last call, or of one before
fail_case : (Q : ℕ → Type 0) (test : Bool) (which : ℕ) (xs : List ℕ) (disk : ℕ) → Q which → (Contains xs disk → Q disk) → Contains (if test then which ∷ xs else xs) disk → Q disk
fail_case Q true which xs disk this rest has = elim (Contains-append_cases (which ∷ []) xs disk has) [
  | inl first ↦ subst Q (only_one which disk first) this
  | inr other ↦ rest other
]
fail_case Q false which xs disk this rest has = rest has

too_late : (n m : ℕ) → m < n → nat_le n m ≡ false
too_late n m less = grind (arith, nat_tests)

-- among calls that were there before, none failed since
none_since : (n : ℕ) (calls : List JointCall) (disk : ℕ) → length calls ≤ n → Contains (failed_since n calls) disk → ⊥
none_since n [] disk few has = omega (arith, has.1)
none_since n (made ∷ earlier) disk few has =
    let P : Bool → Type 0 = λ b. Contains (if b && is_failed made.call then made.which ∷ failed_since n earlier else failed_since n earlier) disk in
    none_since n earlier disk (omega (arith, few)) (subst P (too_late n (length earlier) (omega (arith, few))) has)

some_if : (same : Bool) (call : Call) (calls : List Call) → 0 < length calls → 0 < length (if same then call ∷ calls else calls)
some_if true call calls some = omega arith
some_if false call calls some = some

-- so that disk has one of the new calls
was_called : (n : ℕ) (newer calls : List JointCall) (disk : ℕ) → length calls ≤ n → Contains (failed_since n (newer ++ calls)) disk → 0 < length (calls_on disk newer)
was_called n [] calls disk few has = absurd (none_since n calls disk few has)
was_called n (made ∷ newer) calls disk few has =
    let Q : ℕ → Type 0 = λ d. 0 < length (calls_on d (made ∷ newer)) in
    let one : length (calls_on made.which (made ∷ newer)) ≡ suc (length (calls_on made.which newer)) = ap length (calls_on-same made.which made.call newer) in
    fail_case Q (nat_le n (length (newer ++ calls)) && is_failed made.call) made.which (failed_since n (newer ++ calls)) disk (omega (arith, one))
    (λ before. some_if (made.which == disk) made.call (calls_on disk newer) (was_called n newer calls disk few before)) has

-- a disk on which a call failed in a run was one that the run may call
pub failed_in_use : (out : List Bool) (may : ℕ → ℕ → List ℕ → Type 0) (old new : Disks) (which : ℕ) → MakesOn (InUse out) may old new → HasFailedOn old new which → InUse out which
failed_in_use out may old new which run failed =
    let P : List JointCall → Type 0 = λ them. Contains (failed_since (length old.calls) them) which in
    let some = was_called (length old.calls) run.makes.newer old.calls which (omega arith) (subst P run.makes.calls failed) in
    let count : length (calls_on which new.calls) ≡ length (calls_on which run.makes.newer) + length (calls_on which old.calls) =
    ap (λ (them : List JointCall). length (calls_on which them)) run.makes.calls ∙ ap length (calls_on-append which run.makes.newer old.calls)
    ∙ length-append (calls_on which run.makes.newer) (calls_on which old.calls) in
    elim (used_or_out out which) [
      | inl used ↦ used
      | inr gone ↦ absurd (omega (arith, some, count, ap length (run.alone which gone)))
    ]
