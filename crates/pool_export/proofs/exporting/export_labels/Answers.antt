use Rattle.std.proofs.Common.{◌∙◌, ℕ, List, sym, subst, ap, length}
use Rattle.model_disk.specs.Joint.{content}
use Rattle.model_disk.specs.Runs.{no_write}
use Rattle.pool_slots.specs.Slots.{AreSettled, HaveLabels, InUse, MakesOn}
use Rattle.pool_slots.proofs.Phases.{none_wider}
use Rattle.pool_slots.proofs.ReadRuns.{reads_made, reads_on}
use Rattle.pool_slots.proofs.Results.{if_err_is, on_ok_is}
use Rattle.pool_slots.proofs.Used.{are_there}
use Rattle.pool_export.specs.Moments.{ExportKeeps, WritesConfigure, WritesMark}
use Rattle.pool_export.specs.Refusals.{ExportRefuses}
use Rattle.pool_export.specs.Taken.{AreExported}
use Rattle.pool_export.specs.Writes.{AreWhole, Areas, AreasOn, AreasStandOn, IsExportWrite, IsUsedWrite, is_any}
use Rattle.pool_export.proofs.Absence.{go_on}
use Rattle.pool_export.proofs.Exports.{are_exported, are_whole, configured_read, export_configures, export_made, export_marks, export_relabels, export_takes, left_refused, marked_read, read_refused, takes_none}
use Rattle.pool_export.proofs.Moments.{at_later, lead_always}
use Rattle.pool_export.proofs.exporting.export_labels.Goals as goal

pub returns-in_err-areas-clause-makes : goal.returns-in_err-areas-clause-makes
returns-in_err-areas-clause-makes g c =
    let out = c.args.out.now.items in
    let old = c.args.disks.now in
    none_wider (InUse out) (IsExportWrite old.starts out c.args.uberblock.now) old c.read_areas.new.disks (reads_on c.read_areas.ensures.only)

pub returns-in_err-areas-clause-taken : goal.returns-in_err-areas-clause-taken
returns-in_err-areas-clause-taken g c = takes_none c.args.out.now.items c.args.uberblock.now c.args.disks.now c.read_areas.new.disks (reads_made c.read_areas.ensures.only)

pub returns-in_err-areas-clause-any_moment : goal.returns-in_err-areas-clause-any_moment
returns-in_err-areas-clause-any_moment g c =
    let out = c.args.out.now.items in
    let old = c.args.disks.now in
    lead_always no_write out old c.read_areas.new.disks (are_there out old.starts c.requires.out) c.requires.labels (λ which at bytes none. absurd none) (reads_made c.read_areas.ensures.only)

pub returns-in_err-areas-clause-configured_any_moment : goal.returns-in_err-areas-clause-configured_any_moment
returns-in_err-areas-clause-configured_any_moment g c =
    let out = c.args.out.now.items in
    let old = c.args.disks.now in
    configured_read out c.args.uberblock.now old c.read_areas.new.disks (are_there out old.starts c.requires.out) (reads_made c.read_areas.ensures.only)

pub returns-in_err-areas-clause-labels_any_moment : goal.returns-in_err-areas-clause-labels_any_moment
returns-in_err-areas-clause-labels_any_moment g c =
    let out = c.args.out.now.items in
    let old = c.args.disks.now in
    marked_read out c.args.uberblock.now old c.read_areas.new.disks (are_there out old.starts c.requires.out) (reads_made c.read_areas.ensures.only)

pub returns-in_err-areas-clause-refused : goal.returns-in_err-areas-clause-refused
returns-in_err-areas-clause-refused g c =
    let out = c.args.out.now.items in
    let later = c.read_areas.new.out.items in
    let old = c.args.disks.now in
    let u = c.args.uberblock.now in
    let cause = c.in_err-areas.field-0.0 in
    if_err_is c.from_residual.result cause (ExportRefuses out later u old c.read_areas.new.disks) c.from_residual.ensures.1
    (read_refused out later u old c.read_areas.new.disks cause c.read_areas.ensures.only c.in_err-areas.ensures.reads)

pub settle_labels-requires : goal.settle_labels-requires
settle_labels-requires g c =
    let read = c.read_areas.new.disks in
    let starts = (reads_made c.read_areas.ensures.only).starts in
    let O : Areas → Type 0 = AreasOn c.read_areas.new.out.items in
    let W : Areas → Type 0 = AreWhole in
    let L : List (List ℕ) → Type 0 = HaveLabels in
    record {
      out = c.read_areas.ensures.absent.count ∙ c.requires.out ∙ ap length (sym starts);
      count = ap length c.deref.ensures.value ∙ c.in_ok-areas.ensures.reads.0 ∙ ap length (sym starts);
      on = subst O (sym c.deref.ensures.value) c.in_ok-areas.ensures.reads.1;
      whole = subst W (sym c.deref.ensures.value) (are_whole c.args.uberblock.now c.in_ok-areas.areas.items c.in_ok-areas.ensures.reads.2);
      labels = subst L (sym starts) c.requires.labels;
    }

pub returns-clause-absent : goal.returns-clause-absent
returns-clause-absent g c =
    let out = c.args.out.now.items in
    let mid = c.read_areas.new.out.items in
    let old = c.args.disks.now in
    let read = c.read_areas.new.disks in
    let new = c.settle_labels.new.disks in
    let M : Areas → Type 0 = λ areas. MakesOn (InUse mid) (IsUsedWrite mid read.starts areas is_any) read new in
    let makes = subst M c.deref.ensures.value c.settle_labels.ensures.makes in
    go_on no_write (IsUsedWrite mid read.starts c.in_ok-areas.areas.items is_any) out mid c.settle_labels.new.out.items old read new
    c.read_areas.ensures.absent c.settle_labels.ensures.absent (reads_made c.read_areas.ensures.only) makes

pub returns-clause-makes : goal.returns-clause-makes
returns-clause-makes g c =
    let out = c.args.out.now.items in
    let mid = c.read_areas.new.out.items in
    let old = c.args.disks.now in
    let read = c.read_areas.new.disks in
    let new = c.settle_labels.new.disks in
    let M : Areas → Type 0 = λ areas. MakesOn (InUse mid) (IsUsedWrite mid read.starts areas is_any) read new in
    let makes = subst M c.deref.ensures.value c.settle_labels.ensures.makes in
    let reads = reads_made c.read_areas.ensures.only in
    let stay = c.read_areas.ensures.absent.stay in
    let given = c.in_ok-areas.ensures.reads in
    let u = c.args.uberblock.now in
    export_made out mid u c.in_ok-areas.areas.items old read new stay given.2 (reads_on c.read_areas.ensures.only) makes

pub returns-clause-taken : goal.returns-clause-taken
returns-clause-taken g c =
    let out = c.args.out.now.items in
    let mid = c.read_areas.new.out.items in
    let old = c.args.disks.now in
    let read = c.read_areas.new.disks in
    let new = c.settle_labels.new.disks in
    let M : Areas → Type 0 = λ areas. MakesOn (InUse mid) (IsUsedWrite mid read.starts areas is_any) read new in
    let makes = subst M c.deref.ensures.value c.settle_labels.ensures.makes in
    let reads = reads_made c.read_areas.ensures.only in
    let stay = c.read_areas.ensures.absent.stay in
    let given = c.in_ok-areas.ensures.reads in
    let u = c.args.uberblock.now in
    export_takes out mid u c.in_ok-areas.areas.items old read new stay reads given.3 makes.makes

pub returns-clause-exported : goal.returns-clause-exported
returns-clause-exported g c =
    let out = c.args.out.now.items in
    let mid = c.read_areas.new.out.items in
    let old = c.args.disks.now in
    let read = c.read_areas.new.disks in
    let new = c.settle_labels.new.disks in
    let M : Areas → Type 0 = λ areas. MakesOn (InUse mid) (IsUsedWrite mid read.starts areas is_any) read new in
    let makes = subst M c.deref.ensures.value c.settle_labels.ensures.makes in
    let reads = reads_made c.read_areas.ensures.only in
    let stay = c.read_areas.ensures.absent.stay in
    let given = c.in_ok-areas.ensures.reads in
    let u = c.args.uberblock.now in
    let later = c.settle_labels.new.out.items in
    let S : Areas → Type 0 = λ areas. AreasStandOn later (content new) read.starts areas is_any in
    on_ok_is c.check_left.result (AreExported later old u new)
    (are_exported mid later u c.in_ok-areas.areas.items old read new c.requires.claim c.requires.group given.1 c.settle_labels.ensures.absent.stay reads given.3 makes.makes
    (subst S c.deref.ensures.value c.settle_labels.ensures.stand))

pub returns-clause-settled : goal.returns-clause-settled
returns-clause-settled g c =
    on_ok_is c.check_left.result (AreSettled c.settle_labels.new.out.items c.settle_labels.new.disks.calls) c.settle_labels.ensures.settled

pub returns-clause-keeps : goal.returns-clause-keeps
returns-clause-keeps g c =
    let out = c.args.out.now.items in
    let mid = c.read_areas.new.out.items in
    let old = c.args.disks.now in
    let read = c.read_areas.new.disks in
    let new = c.settle_labels.new.disks in
    let M : Areas → Type 0 = λ areas. MakesOn (InUse mid) (IsUsedWrite mid read.starts areas is_any) read new in
    let makes = subst M c.deref.ensures.value c.settle_labels.ensures.makes in
    let reads = reads_made c.read_areas.ensures.only in
    let stay = c.read_areas.ensures.absent.stay in
    let given = c.in_ok-areas.ensures.reads in
    let u = c.args.uberblock.now in
    let made = export_made out mid u c.in_ok-areas.areas.items old read new stay given.2 (reads_on c.read_areas.ensures.only) makes in
    let later = c.settle_labels.new.out.items in
    on_ok_is c.check_left.result (ExportKeeps later old new)
    (λ trees last before off at.
    at_later (IsExportWrite old.starts out u) trees later old new last before c.requires.labels off (export_relabels old.starts out u) made.makes c.settle_labels.ensures.settled at)

pub returns-clause-any_moment : goal.returns-clause-any_moment
returns-clause-any_moment g c =
    let out = c.args.out.now.items in
    let mid = c.read_areas.new.out.items in
    let old = c.args.disks.now in
    let read = c.read_areas.new.disks in
    let new = c.settle_labels.new.disks in
    let M : Areas → Type 0 = λ areas. MakesOn (InUse mid) (IsUsedWrite mid read.starts areas is_any) read new in
    let makes = subst M c.deref.ensures.value c.settle_labels.ensures.makes in
    let reads = reads_made c.read_areas.ensures.only in
    let stay = c.read_areas.ensures.absent.stay in
    let given = c.in_ok-areas.ensures.reads in
    let u = c.args.uberblock.now in
    let made = export_made out mid u c.in_ok-areas.areas.items old read new stay given.2 (reads_on c.read_areas.ensures.only) makes in
    lead_always (IsExportWrite old.starts out u) out old new (are_there out old.starts c.requires.out) c.requires.labels (export_relabels old.starts out u) made.makes

pub returns-clause-configured_any_moment : goal.returns-clause-configured_any_moment
returns-clause-configured_any_moment g c =
    let out = c.args.out.now.items in
    let mid = c.read_areas.new.out.items in
    let old = c.args.disks.now in
    let read = c.read_areas.new.disks in
    let new = c.settle_labels.new.disks in
    let M : Areas → Type 0 = λ areas. MakesOn (InUse mid) (IsUsedWrite mid read.starts areas is_any) read new in
    let makes = subst M c.deref.ensures.value c.settle_labels.ensures.makes in
    let reads = reads_made c.read_areas.ensures.only in
    let stay = c.read_areas.ensures.absent.stay in
    let given = c.in_ok-areas.ensures.reads in
    let u = c.args.uberblock.now in
    let W : Areas → Type 0 = λ areas. WritesConfigure mid read areas new in
    export_configures out mid u c.in_ok-areas.areas.items old read new (are_there out old.starts c.requires.out) stay given.2 reads makes.makes
    (subst W c.deref.ensures.value c.settle_labels.ensures.configured)

pub returns-clause-labels_any_moment : goal.returns-clause-labels_any_moment
returns-clause-labels_any_moment g c =
    let out = c.args.out.now.items in
    let mid = c.read_areas.new.out.items in
    let old = c.args.disks.now in
    let read = c.read_areas.new.disks in
    let new = c.settle_labels.new.disks in
    let M : Areas → Type 0 = λ areas. MakesOn (InUse mid) (IsUsedWrite mid read.starts areas is_any) read new in
    let makes = subst M c.deref.ensures.value c.settle_labels.ensures.makes in
    let reads = reads_made c.read_areas.ensures.only in
    let stay = c.read_areas.ensures.absent.stay in
    let given = c.in_ok-areas.ensures.reads in
    let u = c.args.uberblock.now in
    let W : Areas → Type 0 = λ areas. WritesMark mid read areas new in
    export_marks out mid u c.in_ok-areas.areas.items old read new (are_there out old.starts c.requires.out) stay given.2 reads makes.makes
    (subst W c.deref.ensures.value c.settle_labels.ensures.marked)

pub returns-clause-refused : goal.returns-clause-refused
returns-clause-refused g c =
    left_refused c.check_left.result c.args.out.now.items c.deref-2.result.now c.settle_labels.new.out.items c.args.uberblock.now c.args.disks.now c.settle_labels.new.disks
    c.deref-2.ensures.value c.check_left.ensures.none
