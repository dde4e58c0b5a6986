use Rattle.std.proofs.Common.{None, refl, arith}
use Rattle.meta_objset.proofs.RecordObjects.{good_record, whole_record, has_record}
use Rattle.meta_objset.proofs.datasets.record_creation.Goals as goal

pub returns-clause-good : goal.returns-clause-good
returns-clause-good c =
    (good_record c.args.dataset.now c.in_ok-writes_of.field-0.items c.in_ok-writes_of.ensures, omega arith, omega arith, omega arith, whole_record c.args.dataset.now c.in_ok-writes_of.field-0.items c.in_ok-writes_of.ensures)

pub returns-clause-made : goal.returns-clause-made
returns-clause-made c =
    has_record c.args.dataset.now c.in_ok-writes_of.field-0.items c.in_ok-writes_of.ensures 201 1 0 (λ id. None) refl refl refl (λ id above. refl)
