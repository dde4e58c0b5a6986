use Rattle.std.proofs.Common.{Option, sym, subst}
use Rattle.meta_objset.specs.declared.record.DatasetRecord.{DatasetRecord}
use Rattle.dataset_destroys.proofs.RecordSteps.{linked_put}
use Rattle.dataset_destroys.specs.Steps.{AreLinked, IsBefore}
use Rattle.dataset_destroys.proofs.links.link_before.Goals as goal

pub returns-clause-value : goal.returns-clause-value
returns-clause-value c = λ objects over is.
    subst (λ (before : Option DatasetRecord). IsBefore objects c.args.changes.now c.args.place.now.gone.previous before
    → AreLinked objects c.args.changes.now c.put_record.new.changes c.args.place.now.number c.args.place.now.gone.previous c.args.place.now.gone.next before) (sym c.in-Some.is)
    (λ there. linked_put objects c.args.changes.now c.put_record.new.changes c.args.place.now.number c.args.place.now.gone.previous c.args.place.now.gone.next c.in-Some.before c.if-before-place.false there.1
    (c.in_ok-put_record.ensures.value objects c.in-Some.before over there.1.has)) is
