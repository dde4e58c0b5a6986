use Rattle.meta_objset.proofs.RecordObjects.{good_record, whole_record, has_record}
use Rattle.std.proofs.Common.{◌<◌, sym, subst}
use Rattle.objset.specs.Changes.{AreWhole}
use Rattle.meta_objset.proofs.datasets.record_change.Goals as goal

pub returns-clause-good : goal.returns-clause-good
returns-clause-good c = good_record c.args.dataset.now c.in_ok-writes.writes.items c.in_ok-writes.ensures

pub returns-clause-may : goal.returns-clause-may
returns-clause-may c = λ object is.
    subst (λ sectors. AreWhole sectors c.in_ok-writes.writes.items) (sym is.sectors) (whole_record c.args.dataset.now c.in_ok-writes.writes.items c.in_ok-writes.ensures)

pub returns-clause-made : goal.returns-clause-made
returns-clause-made c = λ object is.
    has_record c.args.dataset.now c.in_ok-writes.writes.items c.in_ok-writes.ensures object.object_type object.data_sectors object.highest object.array is.object_type is.sectors is.highest
    (λ id above. is.ends id (subst (λ highest. highest < id) (sym is.highest) above))
