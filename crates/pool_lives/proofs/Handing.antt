-- Disks that are handed on with no stop between: each byte is known, and nothing is unflushed.
use Rattle.std.proofs.Common.{◌≡◌, ◌⊎◌, inl, inr, ⊎_elim, ◌<◌, ℕ, zero, suc, Bool, true, false, List, [], ◌∷◌, ◌++◌, length, slice_get, All, Option, Some, None, refl, sym, ap, subst, ◌∙◌, arith, true≢false}
use Rattle.std.specs.Prelude.{◌==◌, if◌then◌else◌}
use Rattle.std.proofs.lemmas.List.Elements.{All-head, All-tail}
use Rattle.model_disk.specs.Call.{Call, FailedFlush, FailedRead, FailedWrite, Flushed, Read, Wrote}
use Rattle.model_disk.specs.Contents.{is_dirty}
use Rattle.model_disk.specs.Joint.{Disks, JointCall, calls_on}
use Rattle.model_disk.specs.Runs.{AreSettled}
use Rattle.model_disk.specs.declared.disk.Disk as disk
use Rattle.block_store.specs.Store.{is_out}
use Rattle.uberblock_ring.specs.declared.uberblock.Uberblock.{Uberblock}
use Rattle.pool_create.specs.Backs.{Backs, HasPlan, IsPlanOf}
use Rattle.pool_create.specs.Calls.{GrewTo}
use Rattle.pool_create.specs.CommitPlanned.{Planned}
use Rattle.pool_create.specs.CommitState.{State}
use Rattle.pool_create.specs.CoreState.{CoreState, disks_of}
use Rattle.pool_create.specs.OpenExporting.{IsExportBegun, IsExportDone, IsExportStopped}
use Rattle.pool_create.specs.OpenRefusal.{Refusal}
use Rattle.pool_create.specs.Opens.{IsUnopened}
use Rattle.pool_export.specs.Absence.{GoOutFailing}
use Rattle.pool_export.specs.Refusals.{ExportRefuses}
use Rattle.pool_export.specs.declared.refusal.Refusal.{Refusal as LabelsRefusal}
use Rattle.pool_export.specs.declared.refusal.Refusal.TheVariants.{NoDisk, NoLabel, NoMemory}
use Rattle.pool_model.specs.View.{View, is_syncing}
use Rattle.pool_model.specs.declared.refusal.Refusal.{Refusal as ExportRefusal}
use Rattle.pool_slots.specs.Opens.{IsKnown}
use Rattle.pool_slots.specs.Reads.{IsReadCall, IsReadOf, OnlyReads}
use Rattle.pool_slots.specs.Present.{is_out as is_out_of}
use Rattle.pool_slots.specs.Slots.{InUse, AreSettled as AreSettledInUse}
use Rattle.pool_stops.specs.OwnReopening.{AreSafe, GrewFromKnown}
use Rattle.pool_stops.specs.Running.{IsBetween, IsRunning, StandAt}
use Rattle.pool_stops.specs.Unhindered.{AnswerTruly}
use Rattle.pool_lives.specs.Lasting.{IsAtHand}
use Rattle.pool_lives.proofs.Known.{known_unfailed}

-- ---- a core at hand

in_use : (out : List Bool) (which : ℕ) → which < length out → is_out out which ≡ false → InUse out which
in_use [] which below none = absurd (omega (arith, below))
in_use (flag ∷ out) zero below none = ap Some none
in_use (flag ∷ out) (suc which) below none = in_use out which (omega (arith, below)) none

-- with no group that is synced nothing is planned
none_planned : (s : State) (v : View) (planned : Option Planned) → Backs s v → s.planned ≡ planned → is_syncing v.sync ≡ false → s.planned ≡ None
none_planned s v None backs is rests = is
none_planned s v (Some plan) backs is rests =
    let has : HasPlan s backs.blocks.planned plan v = subst (λ (o : Option Planned). IsPlanOf s backs.blocks.planned o v) is backs.blocks.plan in
    absurd (true≢false (sym (ap is_syncing has.sync) ∙ rests))

pub at_hand : (core : CoreState) (v : View) (last : Uberblock) (before : List Uberblock) → IsRunning core v last before
    → ((which : ℕ) → IsKnown (disks_of core) which) → IsAtHand core
at_hand core v last before runs known = record {
  none = runs.whole.none;
  count = runs.whole.count;
  known = known;
  unplanned = λ exportable. none_planned core.commit v core.commit.planned runs.represents.backs refl (exportable v runs.represents).at_rest.unsynced;
  settled = λ none which below.
      let between : IsBetween core.commit last before = subst (λ (o : Option Planned). StandAt core.commit o last before) none runs.stand in
      between.settled which (in_use core.commit.store.out which (omega (arith, below, runs.whole.count)) (runs.whole.none which));
}

-- ---- calls that only read

of_call : (faulty : Type 0) (call : Call) (earlier : List Call) (i : ℕ) → IsReadCall faulty call → is_dirty earlier i ≡ false → is_dirty (call ∷ earlier) i ≡ false
of_call faulty (Read at bytes) earlier i read clean = clean
of_call faulty (FailedRead at n) earlier i read clean = clean
of_call faulty (Wrote at bytes) earlier i read clean = absurd read
of_call faulty (FailedWrite at bytes) earlier i read clean = absurd read
of_call faulty Flushed earlier i read clean = absurd read
of_call faulty FailedFlush earlier i read clean = absurd read

still_clean : (used faulty : ℕ → Type 0) (made : JointCall) (earlier : List Call) (i : ℕ) → IsReadOf used faulty made → is_dirty earlier i ≡ false
    → is_dirty (made.call ∷ earlier) i ≡ false
still_clean used faulty made earlier i read clean = of_call (faulty made.which) made.call earlier i read.1 clean

clean_if : (test : Bool) (call : Call) (earlier : List Call) (i : ℕ) → is_dirty (call ∷ earlier) i ≡ false → is_dirty earlier i ≡ false
    → is_dirty (if test then call ∷ earlier else earlier) i ≡ false
clean_if true call earlier i now before = now
clean_if false call earlier i now before = before

reads_settle : (used faulty : ℕ → Type 0) (newer calls : List JointCall) (which i : ℕ) → All (IsReadOf used faulty) newer → is_dirty (calls_on which calls) i ≡ false
    → is_dirty (calls_on which (newer ++ calls)) i ≡ false
reads_settle used faulty [] calls which i reads clean = clean
reads_settle used faulty (made ∷ newer) calls which i reads clean =
    let rest = reads_settle used faulty newer calls which i (All-tail (IsReadOf used faulty) made newer reads) clean in
    clean_if (made.which == which) made.call (calls_on which (newer ++ calls)) i
    (still_clean used faulty made (calls_on which (newer ++ calls)) i (All-head (IsReadOf used faulty) made newer reads) rest) rest

settled_by_reads : (used faulty : ℕ → Type 0) (old new : Disks) → OnlyReads used faulty old new → AreSettled old → AreSettled new
settled_by_reads used faulty old new only settled which below i =
    subst (λ (calls : List JointCall). is_dirty (calls_on which calls) i ≡ false) (sym only.calls)
    (reads_settle used faulty only.newer old.calls which i only.reads (settled which (omega (arith, below, ap length only.starts)) i))

-- ---- exports

pub begun_grew : (core : CoreState) (u : Uberblock) (new : Disks) → IsExportBegun core u new → GrewTo (disks_of core) new
begun_grew core u new begun = record { starts = begun.makes.makes.starts; newer = begun.makes.makes.newer; calls = begun.makes.makes.calls }

safe_begun : (core : CoreState) (u : Uberblock) (new : Disks) → IsAtHand core → IsExportBegun core u new → AnswerTruly (disks_of core) new → AreSettled new → AreSafe new
safe_begun core u new hand begun truly settled = record {
  known = λ which. known_unfailed (disks_of core) new (begun_grew core u new begun) truly.none_failed which (hand.known which);
  settled = settled;
}

-- a disk in use stays so where no call failed
either : (out : List Bool) (which : ℕ) → which < length out → InUse out which ⊎ (slice_get out which ≡ Some true)
either [] which below = absurd (omega (arith, below))
either (false ∷ out) zero below = inl refl
either (true ∷ out) zero below = inr refl
either (flag ∷ out) (suc which) below = either out which (omega (arith, below))

still_in_use : (out later : List Bool) (old new : Disks) → GoOutFailing out later old new → AnswerTruly old new → (which : ℕ) → which < length out → is_out out which ≡ false → InUse later which
still_in_use out later old new absent truly which below none =
    ⊎_elim (λ used. used)
    (λ (gone : slice_get later which ≡ Some true).
    absurd (truly.none_failed which (absent.failed which (in_use out which below none) (λ used. let same : Some true ≡ Some false = sym gone ∙ used in absurd cc))))
    (either later which (omega (arith, below, absent.count)))

there_in : (core : CoreState) (u : Uberblock) (new : Disks) → IsAtHand core → IsExportBegun core u new → (which : ℕ) → which < length new.starts → which < length core.commit.store.out
there_in core u new hand begun which below = omega (arith, below, ap length begun.makes.makes.starts, hand.count)

all_settled : (core : CoreState) (u : Uberblock) (later : List Bool) (new : Disks) → IsAtHand core → IsExportBegun core u new → GoOutFailing core.commit.store.out later (disks_of core) new
    → AnswerTruly (disks_of core) new → AreSettledInUse later new.calls → AreSettled new
all_settled core u later new hand begun absent truly settled which below =
    settled which (still_in_use core.commit.store.out later (disks_of core) new absent truly which (there_in core u new hand begun which below) (hand.none which))

pub safe_exported : (core : CoreState) (u : Uberblock) (later : List Bool) (new : Disks) → IsAtHand core → IsExportDone core u later new → AnswerTruly (disks_of core) new → AreSafe new
safe_exported core u later new hand done truly = safe_begun core u new hand done.begun truly (all_settled core u later new hand done.begun done.absent truly done.settled)

-- where labels were refused it only read
settled_refused : (core : CoreState) (u : Uberblock) (later : List Bool) (new : Disks) (cause : LabelsRefusal) → IsAtHand core → IsExportBegun core u new
    → GoOutFailing core.commit.store.out later (disks_of core) new → AnswerTruly (disks_of core) new → ExportRefuses core.commit.store.out later u (disks_of core) new cause → AreSettled new
settled_refused core u later new NoMemory hand begun absent truly why =
    settled_by_reads (InUse core.commit.store.out) (is_out_of later) (disks_of core) new why (hand.settled (hand.unplanned begun.exportable))
settled_refused core u later new (NoLabel disk) hand begun absent truly why =
    settled_by_reads (InUse core.commit.store.out) (is_out_of later) (disks_of core) new why.0 (hand.settled (hand.unplanned begun.exportable))
settled_refused core u later new NoDisk hand begun absent truly why = λ which below.
    absurd (why which (still_in_use core.commit.store.out later (disks_of core) new absent truly which (there_in core u new hand begun which below) (hand.none which)))

pub safe_unexported : (core : CoreState) (u : Uberblock) (later : List Bool) (new : Disks) (refusal : ExportRefusal) → IsAtHand core
    → IsExportStopped core u later new refusal → AnswerTruly (disks_of core) new → AreSafe new
safe_unexported core u later new refusal hand stopped truly =
    safe_begun core u new hand stopped.begun truly (⊎_elim
    (λ refused. settled_refused core u later new refused.0 hand stopped.begun stopped.absent truly refused.2)
    (λ many. all_settled core u later new hand stopped.begun stopped.absent truly many.2)
    stopped.why)

-- ---- opens

module _ {D : Type 0} where
  pub safe_unopened : (g : disk.Ghosts D) (disks back : List D) (rewind : ℕ) (refusal : Refusal) → (is : IsUnopened g disks rewind back refusal)
      → AnswerTruly is.array is.new → GrewFromKnown is.array is.new → AreSettled is.new → AreSafe is.new
  safe_unopened g disks back rewind refusal is truly grew settled =
      record { known = λ which. known_unfailed is.array is.new grew.grew truly.none_failed which (grew.known which); settled = settled }
