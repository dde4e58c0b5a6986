use Rattle.dataset_destroys.proofs.Refusing.{passed_on}
use Rattle.dataset_destroys.proofs.records.record_before.Goals as goal

pub returns-in_err-before-clause-known : goal.returns-in_err-before-clause-known
returns-in_err-before-clause-known g c =
    passed_on _ _ _ c.from_residual.ensures.1 (λ stored objects told there.
    let it = there c.if-dataset-eq0.false in c.in_err-before.ensures.known stored objects told it.0 it.1.0 it.1.1)

pub returns-clause-value : goal.returns-clause-value
returns-clause-value g c = λ stored objects told over.
    let found = c.in_ok-before.ensures.value stored objects told over in (found.0, (c.if-dataset-eq0.false, found.1))
