use Rattle.std.proofs.Common.{Option, sym, subst}
use Rattle.meta_objset.specs.declared.record.DatasetRecord.{DatasetRecord}
use Rattle.dataset_destroys.proofs.HeadFinding.{one_less}
use Rattle.dataset_destroys.specs.Steps.{AreOneLess, IsBefore}
use Rattle.dataset_destroys.proofs.leaving.leave_origin.Goals as goal

pub returns-clause-value : goal.returns-clause-value
returns-clause-value c = λ objects over is.
    subst (λ (before : Option DatasetRecord). IsBefore objects c.args.changes.now c.args.place.now.gone.previous before
    → AreOneLess objects c.args.changes.now c.put_record.new.changes c.args.place.now.gone.previous before) (sym c.in-Some.is)
    (λ there. one_less objects c.args.changes.now c.put_record.new.changes c.args.place.now.gone.previous c.in-Some.before there.1
    (c.in_ok-put_record.ensures.value objects c.in-Some.before over there.1.has)) is
