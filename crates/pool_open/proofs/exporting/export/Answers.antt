use Rattle.std.proofs.Common.{true, false, length, subst, sym, ap, ◌∙◌}
use Rattle.model_disk.specs.Joint.{Disks}
use Rattle.pool_core.specs.StateOf.{state_of}
use Rattle.pool_export.specs.Moments.{ExportKeeps}
use Rattle.pool_export.specs.Taken.{AreExported}
use Rattle.pool_slots.specs.Slots.{AreSettled, HaveLabels}
use Rattle.pool_open.proofs.PutAway.{borne, given_back, given_few, ok_use, put_away}
use Rattle.pool_open.proofs.exporting.export.Goals as goal

pub export_labels-requires-clause-out : goal.export_labels-requires-clause-out
export_labels-requires-clause-out g c =
    ap length c.in-Ok.ensures.out ∙ (c.disks_have_labels.ensures.count ∙ ap (λ (disks : Disks). length disks.starts) (sym c.into_array-disks.ensures))

pub export_labels-requires-clause-labels : goal.export_labels-requires-clause-labels
export_labels-requires-clause-labels g c = subst (λ (disks : Disks). HaveLabels disks.starts) (sym c.into_array-disks.ensures) c.disks_have_labels.ensures.labels

pub returns-in-Err-export_labels-clause-not : goal.returns-in-Err-export_labels-clause-not
returns-in-Err-export_labels-clause-not g c =
    let said = c.export_labels.ensures in
    let new = c.export_labels.new.disks in
    given_back g.D.Disk (state_of c.args.pool.core) c.in-Ok.last.uberblock c.in-Ok.last.out.items c.export_labels.new.out.items c.into_array-disks.result new c.into_disks.result.items
    c.in-Err-export_labels.cause c.of_labels.result c.in-Ok.ensures.out c.into_array-disks.ensures c.in-Ok.ensures.exportable c.in-Ok.ensures.uberblock
    (record { written = record { absent = said.absent; makes = said.makes; takes = said.taken; leads = said.any_moment; configures = said.configured_any_moment; marks = said.labels_any_moment }; why = c.in-Err-export_labels.ensures.refused })
    c.of_labels.ensures (sym c.into_disks.ensures.starts, λ which. sym (c.into_disks.ensures.calls which))

pub returns-then-not-are_tolerable-clause-not : goal.returns-then-not-are_tolerable-clause-not
returns-then-not-are_tolerable-clause-not g c =
    let said = c.export_labels.ensures in
    let core = state_of c.args.pool.core in
    let new = c.export_labels.new.disks in
    let later = c.export_labels.new.out.items in
    given_few g.D.Disk core c.in-Ok.last.uberblock c.in-Ok.last.out.items later c.into_array-disks.result new c.into_disks-then-not-are_tolerable.result.items
    c.in-Ok.ensures.out c.into_array-disks.ensures c.in-Ok.ensures.exportable c.in-Ok.ensures.uberblock
    (record { absent = said.absent; makes = said.makes; takes = said.taken; leads = said.any_moment; configures = said.configured_any_moment; marks = said.labels_any_moment })
    (borne core c.deref.result.now later c.deref-2.result.now c.are_tolerable.result false (c.deref.ensures.value ∙ c.in-Ok.ensures.shapes) c.deref-2.ensures.value c.are_tolerable.ensures c.if-not-are_tolerable.true)
    (ok_use c.export_labels.result (AreSettled later new.calls) c.in_default.not-Err said.settled)
    (sym c.into_disks-then-not-are_tolerable.ensures.starts, λ which. sym (c.into_disks-then-not-are_tolerable.ensures.calls which))

pub returns-clause-exported : goal.returns-clause-exported
returns-clause-exported g c =
    let said = c.export_labels.ensures in
    let core = state_of c.args.pool.core in
    let u = c.in-Ok.last.uberblock in
    let old = c.into_array-disks.result in
    let new = c.export_labels.new.disks in
    let later = c.export_labels.new.out.items in
    put_away g.D.Disk core u c.in-Ok.last.out.items later old new c.into_disks-2.result.items
    c.in-Ok.ensures.out c.into_array-disks.ensures c.in-Ok.ensures.exportable c.in-Ok.ensures.uberblock
    (borne core c.deref.result.now later c.deref-2.result.now c.are_tolerable.result true (c.deref.ensures.value ∙ c.in-Ok.ensures.shapes) c.deref-2.ensures.value c.are_tolerable.ensures c.if-not-are_tolerable.false)
    (record {
      written = record { absent = said.absent; makes = said.makes; takes = said.taken; leads = said.any_moment; configures = said.configured_any_moment; marks = said.labels_any_moment };
      exported = ok_use c.export_labels.result (AreExported later old u new) c.in_default.not-Err said.exported;
      settled = ok_use c.export_labels.result (AreSettled later new.calls) c.in_default.not-Err said.settled;
      keeps = ok_use c.export_labels.result (ExportKeeps later old new) c.in_default.not-Err said.keeps;
    })
    (sym c.into_disks-2.ensures.starts, λ which. sym (c.into_disks-2.ensures.calls which))
