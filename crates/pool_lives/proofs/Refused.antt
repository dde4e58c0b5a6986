-- A refused open of which no call failed had all disks in use to its end.
use Rattle.std.proofs.Common.{◌≡◌, ⊎_elim, ℕ, suc, ◌&&◌, Bool, true, false, nat_le, List, [], ◌∷◌, ◌++◌, length, Contains, sym, ap, subst, ◌∙◌, arith, append_assoc}
use Rattle.std.specs.Prelude.{if◌then◌else◌}
use Rattle.model_disk.specs.Call.{is_failed}
use Rattle.model_disk.specs.Joint.{Disks, JointCall, failed_since}
use Rattle.block_store.specs.declared.shape.VdevShape.{VdevShape}
use Rattle.pool_create.specs.OpenOpening.{AreReadThrough, IsNotOpenedOver}
use Rattle.pool_create.specs.OpenRefusal.{Refusal}
use Rattle.pool_slots.specs.Failures.{HasFailedOn}
use Rattle.pool_slots.specs.Present.{GoOut}
use Rattle.pool_stops.proofs.Unhindered.{is_used, same_use}

-- ---- calls that failed

more_if : (test : Bool) (which : ℕ) (disks : List ℕ) (disk : ℕ) → Contains disks disk → Contains (if test then which ∷ disks else disks) disk
more_if true which disks disk (k, below, is) = (suc k, omega (arith, below), is)
more_if false which disks disk has = has

more_failed : (n : ℕ) (newer calls : List JointCall) (disk : ℕ) → Contains (failed_since n calls) disk → Contains (failed_since n (newer ++ calls)) disk
more_failed n [] calls disk has = has
more_failed n (made ∷ newer) calls disk has =
    more_if (nat_le n (length (newer ++ calls)) && is_failed made.call) made.which (failed_since n (newer ++ calls)) disk (more_failed n newer calls disk has)

-- ---- the open

-- the disks in use were read, and called since
record WasSurveyed (old new : Disks) (out later : List Bool) : Type 0 where
  pub surveyed : Disks
  pub absent : GoOut out later old surveyed
  pub more : List JointCall
  pub calls : new.calls ≡ more ++ surveyed.calls

surveyed_first : (old new : Disks) (out later : List Bool) → AreReadThrough out later old new → WasSurveyed old new out later
surveyed_first old new out later it = record {
  surveyed = it.surveyed;
  absent = it.absent;
  more = it.blocks.only.newer;
  calls = it.blocks.only.calls;
}

was_surveyed : (guids : List ℕ) (old : Disks) (shapes : List VdevShape) (out : List Bool) (rewind : ℕ) (new : Disks) (refusal : Refusal)
    → (is : IsNotOpenedOver guids old shapes out rewind new refusal) → WasSurveyed old new out is.later
was_surveyed guids old shapes out rewind new refusal is = ⊎_elim
    (λ (through, cause). surveyed_first old new out is.later through)
    (λ (claimed, through, gives, cause).
    let first = surveyed_first old through.read out is.later through.before in
    let claims = through.claims.makes in
    record {
      surveyed = first.surveyed;
      absent = first.absent;
      more = claims.newer ++ first.more;
      calls = claims.calls ∙ ap (λ cs. claims.newer ++ cs) first.calls ∙ sym (append_assoc claims.newer first.more first.surveyed.calls);
    })
    is.cause

pub none_went_out : (guids : List ℕ) (old : Disks) (shapes : List VdevShape) (out : List Bool) (rewind : ℕ) (new : Disks) (refusal : Refusal)
    → (is : IsNotOpenedOver guids old shapes out rewind new refusal) → length out ≡ length old.starts → ((disk : ℕ) → ¬ HasFailedOn old new disk) → is.later ≡ out
none_went_out guids old shapes out rewind new refusal is count none =
    let it = was_surveyed guids old shapes out rewind new refusal is in
    same_use out is.later (is.count ∙ sym count) (λ which. it.absent.stay which) (λ which used. ⊎_elim
    (λ still. still)
    (λ unused. absurd (none which (subst (λ (calls : List JointCall). Contains (failed_since (length old.calls) calls) which) (sym it.calls)
    (more_failed (length old.calls) it.more it.surveyed.calls which (it.absent.failed which used unused)))))
    (is_used is.later which))
