use Rattle.std.proofs.Common.{⊎_elim}
use Rattle.dnode_tree.proofs.Refusing.{passed_on}
use Rattle.dataset_snapshots.proofs.finding.read_dataset.Goals as goal

pub returns-in_err-record-clause-refused : goal.returns-in_err-record-clause-refused
returns-in_err-record-clause-refused g c = passed_on _ _ _ c.from_residual.ensures.1 c.in_err-record.ensures.refused

pub returns-in_err-record-clause-known : goal.returns-in_err-record-clause-known
returns-in_err-record-clause-known g c =
    passed_on _ _ _ c.from_residual.ensures.1
    (λ stored objects own blocks r held are has tell.
    ⊎_elim (λ loss. loss) (λ bad. absurd (bad.1 r has)) (c.in_err-record.ensures.known stored objects own blocks held are tell))

pub volume_of-requires : goal.volume_of-requires
volume_of-requires g c = c.in_ok-record.ensures.found.spelled.0.record_is

pub returns-clause-value : goal.returns-clause-value
returns-clause-value g c = λ stored objects own blocks r held are has tell. c.in_ok-record.ensures.one stored objects own blocks held are tell r has
