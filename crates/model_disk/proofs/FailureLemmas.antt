-- Calls that failed, in runs.
use Rattle.std.proofs.Common.{◌≡◌, inl, inr, ◌≤◌, ◌∙◌, ℕ, ◌+◌, ◌&&◌, Bool, true, false, nat_le, if◌then◌else◌, List, [], ◌∷◌, ◌++◌, length, Contains, Result, Ok, Err, OnErr, refl, sym, ap, subst, arith}
use Rattle.std.proofs.lemmas.Bool.Decides.{nat_tests}
use Rattle.std.proofs.lemmas.List.{length-append}
use Rattle.std.proofs.lemmas.List.Elements.{Contains-append_cases, Contains-append_left, Contains-append_right}
use Rattle.model_disk.specs.Call.{Call, FailedRead, FailedWrite, FailedFlush, is_failed, read_call, write_call, flush_call}
use Rattle.model_disk.specs.Joint.{JointCall, Disks, on, failed_since}
use Rattle.model_disk.specs.RunLaws.{IsRun, FailuresAreSeen}
use Rattle.model_disk.specs.Runs.{HasFailed, Makes}

test_le : (a b : ℕ) → a ≤ b → nat_le a b ≡ true
test_le a b le = grind (arith, nat_tests)

test_both : (a b n : ℕ) → a ≤ b → nat_le b n ≡ true → nat_le a n ≡ true
test_both a b n le test = grind (arith, nat_tests)

kept_if : (test : Bool) (which : ℕ) (disks : List ℕ) (disk : ℕ) → Contains disks disk → Contains (if test then which ∷ disks else disks) disk
kept_if true which disks disk has = Contains-append_right (which ∷ []) disks disk has
kept_if false which disks disk has = has

pub failed_first : (n : ℕ) (which : ℕ) (call : Call) (calls : List JointCall) → n ≤ length calls → is_failed call ≡ true
    → Contains (failed_since n (on which call ∷ calls)) which
failed_first n which call calls le failed =
    let P : Bool → Type 0 = λ b. Contains (if b && is_failed call then which ∷ failed_since n calls else failed_since n calls) which in
    let Q : Bool → Type 0 = λ b. Contains (if true && b then which ∷ failed_since n calls else failed_since n calls) which in
    let first : Contains (which ∷ failed_since n calls) which = (0, omega arith, refl) in
    subst P (sym (test_le n (length calls) le)) (subst Q (sym failed) first)

now : (old new : Disks) (which : ℕ) (call : Call) → new.calls ≡ on which call ∷ old.calls → is_failed call ≡ true → HasFailed old new
now old new which call calls failed =
    let P : List JointCall → Type 0 = λ them. Contains (failed_since (length old.calls) them) which in
    (which, subst P (sym calls) (failed_first (length old.calls) which call old.calls (omega arith) failed))

pub kept_through : (n : ℕ) (newer calls : List JointCall) (disk : ℕ) → Contains (failed_since n calls) disk → Contains (failed_since n (newer ++ calls)) disk
kept_through n [] calls disk has = has
kept_through n (made ∷ newer) calls disk has =
    kept_if (nat_le n (length (newer ++ calls)) && is_failed made.call) made.which (failed_since n (newer ++ calls)) disk (kept_through n newer calls disk has)

before : (old mid new : Disks) (newer : List JointCall) → IsRun mid new newer → HasFailed old mid → HasFailed old new
before old mid new newer run failed =
    let P : List JointCall → Type 0 = λ them. Contains (failed_since (length old.calls) them) failed.0 in
    (failed.0, subst P (sym run.calls) (kept_through (length old.calls) newer mid.calls failed.0 failed.1))

more_if : (first later failed : Bool) (which : ℕ) (xs ys : List ℕ) (disk : ℕ) → (later ≡ true → first ≡ true) → (Contains ys disk → Contains xs disk)
    → Contains (if later && failed then which ∷ ys else ys) disk → Contains (if first && failed then which ∷ xs else xs) disk
more_if true true true which xs ys disk more rest has = elim (Contains-append_cases (which ∷ []) ys disk has) [
  | inl this ↦ Contains-append_left (which ∷ []) xs disk this
  | inr other ↦ Contains-append_right (which ∷ []) xs disk (rest other)
]
more_if true true false which xs ys disk more rest has = rest has
more_if true false failed which xs ys disk more rest has = kept_if (true && failed) which xs disk (rest has)
more_if false true failed which xs ys disk more rest has = let e : false ≡ true = more refl in absurd cc
more_if false false failed which xs ys disk more rest has = rest has

pub failed_earlier : (first later : ℕ) (calls : List JointCall) (disk : ℕ) → first ≤ later → Contains (failed_since later calls) disk
    → Contains (failed_since first calls) disk
failed_earlier first later [] disk le has = has
failed_earlier first later (made ∷ earlier) disk le has =
    more_if (nat_le first (length earlier)) (nat_le later (length earlier)) (is_failed made.call) made.which (failed_since first earlier) (failed_since later earlier)
    disk (test_both first later (length earlier) le) (failed_earlier first later earlier disk le) has

since : (old mid new : Disks) (newer : List JointCall) → IsRun old mid newer → HasFailed mid new → HasFailed old new
since old mid new newer run failed =
    let longer : length mid.calls ≡ length newer + length old.calls = ap length run.calls ∙ length-append newer old.calls in
    (failed.0, failed_earlier (length old.calls) (length mid.calls) new.calls failed.0 (omega (arith, longer)) failed.1)

pub failures_are_seen : FailuresAreSeen
failures_are_seen = record { now = now; before = before; since = since }

-- ---- by the answers of calls

pub flush_failed : {T E : Type 0} (r : Result T E) (old new : Disks) (which : ℕ) → new.calls ≡ on which (flush_call r) ∷ old.calls → OnErr r (HasFailed old new)
flush_failed (Ok x) old new which calls = tt
flush_failed (Err e) old new which calls = now old new which FailedFlush calls refl

pub write_failed : {T E : Type 0} (r : Result T E) (old new : Disks) (which at : ℕ) (bytes : List ℕ) → new.calls ≡ on which (write_call r at bytes) ∷ old.calls
    → OnErr r (HasFailed old new)
write_failed (Ok x) old new which at bytes calls = tt
write_failed (Err e) old new which at bytes calls = now old new which (FailedWrite at bytes) calls refl

pub read_failed : {T E : Type 0} (r : Result T E) (old new : Disks) (which at : ℕ) (buffer : List ℕ) → new.calls ≡ on which (read_call r at buffer) ∷ old.calls
    → OnErr r (HasFailed old new)
read_failed (Ok x) old new which at buffer calls = tt
read_failed (Err e) old new which at buffer calls = now old new which (FailedRead at (length buffer)) calls refl

-- a failure in a part of a run, by what its parts may write
pub failed_in_first : (may : ℕ → ℕ → List ℕ → Type 0) (old mid new : Disks) → Makes may mid new → HasFailed old mid → HasFailed old new
failed_in_first may old mid new makes failed = before old mid new makes.newer (record { starts = makes.starts; calls = makes.calls }) failed

pub failed_in_second : (may : ℕ → ℕ → List ℕ → Type 0) (old mid new : Disks) → Makes may old mid → HasFailed mid new → HasFailed old new
failed_in_second may old mid new makes failed = since old mid new makes.newer (record { starts = makes.starts; calls = makes.calls }) failed
