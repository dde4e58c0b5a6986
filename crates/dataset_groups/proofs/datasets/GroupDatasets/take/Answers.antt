use Rattle.dnode_tree.proofs.Refusing.{passed_on}
use Rattle.block_store.specs.declared.refusal.Refusal.TheVariants.{NoMemory}
use Rattle.dataset_groups.proofs.datasets.GroupDatasets.take.Goals as goal

pub returns-in_err-snapshot-clause-refused : goal.returns-in_err-snapshot-clause-refused
returns-in_err-snapshot-clause-refused g c = passed_on _ _ _ c.from_residual.ensures.1 (c.snapshot.new.changes, c.in_err-snapshot.ensures.refused)

pub returns-in_err-snapshot-clause-known : goal.returns-in_err-snapshot-clause-known
returns-in_err-snapshot-clause-known g c = passed_on _ _ _ c.from_residual.ensures.1 c.in_err-snapshot.ensures.known

pub returns-in_err-snapshot-clause-caused : goal.returns-in_err-snapshot-clause-caused
returns-in_err-snapshot-clause-caused g c = passed_on _ _ _ c.from_residual.ensures.1 c.in_err-snapshot.ensures.caused

pub returns-in_err-insert-clause-caused : goal.returns-in_err-insert-clause-caused
returns-in_err-insert-clause-caused g c = passed_on _ NoMemory _ c.from_residual-in_err-insert.ensures.1 tt
