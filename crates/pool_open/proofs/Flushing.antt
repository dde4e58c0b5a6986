-- Disks that are flushed, and go out where that fails.
use Rattle.std.proofs.Common.{◌≡◌, inl, inr, ◌∙◌, ℕ, ◌+◌, Bool, true, false, List, ◌∷◌, slice_set, Result, Ok, Err, refl, sym, subst}
use Rattle.std.proofs.lemmas.List.{length-set}
use Rattle.std.specs.Prelude.{is_err}
use Rattle.model_disk.specs.Call.{flush_call, is_failed}
use Rattle.model_disk.specs.Joint.{Disks, JointCall, calls_on, on}
use Rattle.model_disk.specs.Runs.{IsSettled, no_write}
use Rattle.pool_slots.specs.Failures.{HasFailedOn}
use Rattle.pool_slots.specs.Slots.{InUse, MakesOn, StayOut}
use Rattle.pool_open.proofs.Outs.{fails_before, put_out, used_or_out}
use Rattle.pool_slots.proofs.Failing.{fails_later, fails_now}
use Rattle.pool_slots.proofs.Phases.{MakesOn-more, MakesOn-none, MakesOn-wider}
use Rattle.pool_slots.proofs.Writing.{AreSettledBelow, flush_settles, settled_next}
use Rattle.pool_open.specs.Settling.{GoOutFlushing}

pub flushing_none : (out : List Bool) (disks : Disks) → GoOutFlushing out out disks disks
flushing_none out disks = record {
  count = refl;
  stay = λ which used. used;
  flushes = MakesOn-none (InUse out) no_write disks;
  failed = λ which used gone. absurd (gone used);
}

pub flushing_on : (out mid later : List Bool) (old between new : Disks) → GoOutFlushing out mid old between → GoOutFlushing mid later between new
    → GoOutFlushing out later old new
flushing_on out mid later old between new first second = record {
  count = second.count ∙ first.count;
  stay = λ which used. first.stay which (second.stay which used);
  flushes = MakesOn-more (InUse out) no_write old between new first.flushes
      (MakesOn-wider (InUse mid) (InUse out) no_write no_write between new first.stay (λ which at bytes it. it) second.flushes);
  failed = λ which used gone. elim (used_or_out mid which) [
    | inl still ↦ fails_later no_write old between new first.flushes.makes which (second.failed which still gone)
    | inr already ↦ fails_before no_write old between new which second.flushes.makes (first.failed which used already)
  ];
}

-- a flush that was answered so failed
flush_failed : {T E : Type 0} (r : Result T E) → is_err r ≡ true → is_failed (flush_call r) ≡ true
flush_failed (Ok x) is = absurd cc
flush_failed (Err e) is = refl

pub flush_has_failed : {T E : Type 0} (r : Result T E) (old new : Disks) (which : ℕ) → new.calls ≡ on which (flush_call r) ∷ old.calls → is_err r ≡ true
    → HasFailedOn old new which
flush_has_failed r old new which calls is = fails_now old new which (flush_call r) calls (flush_failed r is)

-- the disk is settled where it didn't fail
pub flush_has_settled : {T E : Type 0} (r : Result T E) (out : List Bool) (old new : Disks) (which : ℕ) → new.calls ≡ on which (flush_call r) ∷ old.calls
    → is_err r ≡ false → InUse out which → IsSettled (calls_on which new.calls)
flush_has_settled (Ok x) out old new which calls is = λ used. flush_settles old new which calls
flush_has_settled (Err e) out old new which calls is = absurd cc

-- a disk whose flush failed goes out
pub flushing_put_out : (out : List Bool) (which : ℕ) (old new : Disks) → InUse out which → MakesOn (InUse out) no_write old new → HasFailedOn old new which
    → GoOutFlushing out (slice_set out which true) old new
flushing_put_out out which old new used flushes failed =
    let put = put_out out which used in
    let F : ℕ → Type 0 = HasFailedOn old new in
    record {
      count = length-set out which true;
      stay = put.stay;
      flushes = flushes;
      failed = λ disk was gone. elim (put.other disk was) [
        | inl yet ↦ absurd (gone yet)
        | inr same ↦ subst F (sym same) failed
      ];
    }

pub flushing_kept : (out : List Bool) (old new : Disks) → MakesOn (InUse out) no_write old new → GoOutFlushing out out old new
flushing_kept out old new flushes = record { count = refl; stay = λ which used. used; flushes = flushes; failed = λ which used gone. absurd (gone used) }

-- with fewer disks in use, those below a number are still settled
pub below_fewer : (out later : List Bool) (calls : List JointCall) (count : ℕ) → StayOut out later → AreSettledBelow out calls count → AreSettledBelow later calls count
below_fewer out later calls count stay settled which used below = settled which (stay which used) below

-- the next disk too
pub settled_on : (out later : List Bool) (old new : Disks) (which : ℕ) → GoOutFlushing out later old new → (InUse later which → IsSettled (calls_on which new.calls))
    → AreSettledBelow out old.calls which → AreSettledBelow later new.calls (which + 1)
settled_on out later old new which gone one before =
    settled_next later old new which gone.flushes.makes one (below_fewer out later old.calls which gone.stay before)
