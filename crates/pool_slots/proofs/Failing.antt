-- Which disk failed, in parts of a run.
use Rattle.std.proofs.Common.{◌≡◌, ◌∙◌, ℕ, ◌+◌, true, List, ◌∷◌, length, Contains, Result, Ok, Err, IfErr, sym, ap, subst, arith}
use Rattle.std.proofs.lemmas.List.{length-append}
use Rattle.model_disk.specs.Call.{Call, is_failed}
use Rattle.model_disk.specs.Joint.{JointCall, Disks, on, failed_since}
use Rattle.model_disk.specs.Runs.{Makes}
use Rattle.model_disk.proofs.FailureLemmas.{failed_first, failed_earlier}
use Rattle.pool_slots.specs.Failures.{HasFailedOn, IsFailure}
use Rattle.pool_slots.specs.declared.refusal.DiskFailure.{DiskFailure}

pub fails_now : (old new : Disks) (which : ℕ) (call : Call) → new.calls ≡ on which call ∷ old.calls → is_failed call ≡ true → HasFailedOn old new which
fails_now old new which call calls failed =
    let P : List JointCall → Type 0 = λ them. Contains (failed_since (length old.calls) them) which in
    subst P (sym calls) (failed_first (length old.calls) which call old.calls (omega arith) failed)

pub fails_later : (may : ℕ → ℕ → List ℕ → Type 0) (old mid new : Disks) → Makes may old mid → (disk : ℕ) → HasFailedOn mid new disk → HasFailedOn old new disk
fails_later may old mid new makes disk failed =
    let longer : length mid.calls ≡ length makes.newer + length old.calls = ap length makes.calls ∙ length-append makes.newer old.calls in
    failed_earlier (length old.calls) (length mid.calls) new.calls disk (omega (arith, longer)) failed

-- a failure in the second part of a run
pub failure_later : {T : Type 0} (r : Result T DiskFailure) (may : ℕ → ℕ → List ℕ → Type 0) (old mid new : Disks) → Makes may old mid → IfErr r (IsFailure mid new)
    → IfErr r (IsFailure old new)
failure_later (Ok x) may old mid new makes failed = tt
failure_later (Err failure) may old mid new makes failed = fails_later may old mid new makes failure.disk failed
