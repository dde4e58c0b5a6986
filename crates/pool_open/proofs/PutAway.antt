-- An export of a core's disks, by what is said of their labels.
use Rattle.std.proofs.Common.{◌≡◌, ◌∙◌, inl, inr, Bool, true, false, List, Result, Ok, Err, OnOk, refl, sym, ap, subst}
use Rattle.model_disk.specs.Joint.{Disks}
use Rattle.model_disk.specs.declared.disk.Disk as disk
use Rattle.pool_core.specs.Last.{IsLastUberblock}
use Rattle.pool_core.specs.Exporting.{IsAgainstExport, IsExportable}
use Rattle.pool_core.specs.State.{CoreState, disks_of}
use Rattle.block_store.specs.Store.{is_out}
use Rattle.block_store.specs.declared.shape.VdevShape.{VdevShape}
use Rattle.pool_model.specs.View.{is_tolerable}
use Rattle.pool_export.specs.Absence.{GoOutFailing}
use Rattle.pool_export.specs.Moments.{ExportConfigures, ExportKeeps, ExportLeads, ExportMarks}
use Rattle.pool_export.specs.Refusals.{ExportRefuses}
use Rattle.pool_export.specs.Taken.{AreExported, ExportTakes}
use Rattle.pool_export.specs.Writes.{IsExportWrite}
use Rattle.pool_export.specs.declared.refusal.Refusal.{Refusal as LabelsRefusal}
use Rattle.pool_model.specs.declared.refusal.Refusal.{Refusal}
use Rattle.pool_model.specs.declared.refusal.Refusal.TheVariants.{NoMemory, DiskFault, NoSpace, Suspended, AlreadyHeld, NoHold, OutOfOrder, NoSuchName, NotYet, Exists, OutOfRange, Misaligned, NotNow, HasClones, HasSnapshots, BadName, GroupGone, BadPointer, BadDigest, BadConfig, BadMap}
use Rattle.pool_slots.specs.Slots.{AreSettled, InUse, MakesOn}
use Rattle.uberblock_ring.specs.declared.uberblock.Uberblock.{Uberblock}
use Rattle.pool_open.specs.Exporting.{IsExportBegun, IsGivenBack, IsPutAway, RefusesExport, bears, of_export, outs_of, shapes_in}
use Rattle.pool_open.specs.Words.{vdevs_in}
use Rattle.pool_open.specs.Finding.{IsArrayOf}

-- what is said of labels that are written, whatever the answer
pub record AreWritten (u : Uberblock) (later : List Bool) (new : Disks) (out : List Bool) (old : Disks) : Type 0 where
  pub absent : GoOutFailing out later old new
  pub makes : MakesOn (InUse out) (IsExportWrite old.starts out u) old new
  pub takes : ExportTakes out old u new
  pub leads : ExportLeads out old new
  pub configures : ExportConfigures out old u new
  pub marks : ExportMarks out old u new

-- and once all are
pub record AreAllWritten (u : Uberblock) (later : List Bool) (new : Disks) (out : List Bool) (old : Disks) : Type 0 where
  pub written : AreWritten u later new out old
  pub exported : AreExported later old u new
  pub settled : AreSettled later new.calls
  pub keeps : ExportKeeps later old new

-- or not
pub record AreNotAllWritten (u : Uberblock) (later : List Bool) (new : Disks) (cause : LabelsRefusal) (out : List Bool) (old : Disks) : Type 0 where
  pub written : AreWritten u later new out old
  pub why : ExportRefuses out later u old new cause

-- of the same disks, with the same ones out
of_same : (P : List Bool → Disks → Type 0) (out outs : List Bool) (old disks : Disks) → out ≡ outs → old ≡ disks → P out old → P outs disks
of_same P out outs old disks same_out same_disks is =
    let Q : List Bool → Type 0 = λ marks. P marks old in
    let R : Disks → Type 0 = P outs in
    subst R same_disks (subst Q same_out is)

begun : (core : CoreState) (u : Uberblock) (later : List Bool) (new : Disks) → IsExportable core → IsLastUberblock core.commit u → AreWritten u later new (outs_of core) (disks_of core)
    → IsExportBegun core u new
begun core u later new exportable last is =
    record { exportable = exportable; last = last; makes = is.makes; takes = is.takes; leads = is.leads; configures = is.configures; marks = is.marks }

-- what was said of the shapes and the marks that the code has
pub borne : (core : CoreState) (shapes : List VdevShape) (later marks : List Bool) (flag answer : Bool) → shapes ≡ shapes_in core → marks ≡ later → flag ≡ is_tolerable (vdevs_in shapes) (is_out marks)
    → flag ≡ answer → bears core later ≡ answer
borne core shapes later marks flag answer same_shapes same_marks is test =
    ap (bears core) (sym same_marks) ∙ ap (λ (them : List VdevShape). is_tolerable (vdevs_in them) (is_out marks)) (sym same_shapes) ∙ sym is ∙ test

pub put_away : {D : Type 0} (g : disk.Ghosts D) (core : CoreState) (u : Uberblock) (out later : List Bool) (old new : Disks) (disks : List D) → out ≡ outs_of core → old ≡ disks_of core
    → IsExportable core → IsLastUberblock core.commit u → bears core later ≡ true → AreAllWritten u later new out old → IsArrayOf g disks new → IsPutAway g core disks
put_away g core u out later old new disks same_out same_disks exportable last tolerable is array =
    let it = of_same (AreAllWritten u later new) out (outs_of core) old (disks_of core) same_out same_disks is in
    record {
      u = u;
      later = later;
      new = new;
      array = array;
      done = record {
        begun = begun core u later new exportable last it.written;
        absent = it.written.absent;
        tolerable = tolerable;
        exported = it.exported;
        settled = it.settled;
        keeps = it.keeps;
      };
    }

pub given_back : {D : Type 0} (g : disk.Ghosts D) (core : CoreState) (u : Uberblock) (out later : List Bool) (old new : Disks) (disks : List D) (cause : LabelsRefusal) (refusal : Refusal)
    → out ≡ outs_of core → old ≡ disks_of core → IsExportable core → IsLastUberblock core.commit u → AreNotAllWritten u later new cause out old → refusal ≡ of_export cause → IsArrayOf g disks new
    → IsGivenBack g core refusal disks
given_back g core u out later old new disks cause refusal same_out same_disks exportable last is same array =
    let it = of_same (AreNotAllWritten u later new cause) out (outs_of core) old (disks_of core) same_out same_disks is in
    record {
      u = u;
      later = later;
      new = new;
      array = array;
      stopped = record { begun = begun core u later new exportable last it.written; absent = it.written.absent; why = inl (cause, same, it.why) };
    }

-- where too many are out
pub given_few : {D : Type 0} (g : disk.Ghosts D) (core : CoreState) (u : Uberblock) (out later : List Bool) (old new : Disks) (disks : List D) → out ≡ outs_of core → old ≡ disks_of core
    → IsExportable core → IsLastUberblock core.commit u → AreWritten u later new out old → bears core later ≡ false → AreSettled later new.calls → IsArrayOf g disks new → IsGivenBack g core Suspended disks
given_few g core u out later old new disks same_out same_disks exportable last is few settled array =
    let it = of_same (AreWritten u later new) out (outs_of core) old (disks_of core) same_out same_disks is in
    record {
      u = u;
      later = later;
      new = new;
      array = array;
      stopped = record { begun = begun core u later new exportable last it; absent = it.absent; why = inr (refl, few, settled) };
    }

-- what holds of an answer that is no refusal
pub ok_use : {T E : Type 0} (r : Result T E) (P : Type 0) → ((e : E) → ¬ (r ≡ Err e)) → OnOk r P → P
ok_use (Ok x) P none it = it
ok_use (Err e) P none it = absurd (none e refl)

-- what the core has against it
pub refuses : (core : CoreState) (refusal : Refusal) → IsAgainstExport core refusal → RefusesExport core refusal
refuses core NoMemory it = absurd it
refuses core DiskFault it = absurd it
refuses core NoSpace it = absurd it
refuses core Suspended it = it
refuses core AlreadyHeld it = absurd it
refuses core NoHold it = absurd it
refuses core (OutOfOrder expected) it = absurd it
refuses core NoSuchName it = absurd it
refuses core NotYet it = absurd it
refuses core Exists it = absurd it
refuses core OutOfRange it = absurd it
refuses core Misaligned it = absurd it
refuses core NotNow it = it
refuses core HasClones it = absurd it
refuses core HasSnapshots it = absurd it
refuses core BadName it = absurd it
refuses core GroupGone it = absurd it
refuses core BadPointer it = absurd it
refuses core BadDigest it = absurd it
refuses core BadConfig it = absurd it
refuses core BadMap it = absurd it
