use Rattle.std.proofs.Common.{⊎_elim}
use Rattle.dnode_tree.proofs.Refusing.{passed_on}
use Rattle.dataset_changes.proofs.changes.DatasetChanges.read_record.Goals as goal

pub returns-in_err-found-clause-known : goal.returns-in_err-found-clause-known
returns-in_err-found-clause-known g c =
    passed_on _ _ _ c.from_residual.ensures.1
    (λ stored objects own blocks held are tell r there.
    ⊎_elim (λ loss. loss) (λ bad. absurd (bad.1 r there)) (c.in_err-found.ensures.known stored objects own blocks held are tell))

pub returns-in_err-found-clause-caused : goal.returns-in_err-found-clause-caused
returns-in_err-found-clause-caused g c = passed_on _ _ _ c.from_residual.ensures.1 c.in_err-found.ensures.caused
