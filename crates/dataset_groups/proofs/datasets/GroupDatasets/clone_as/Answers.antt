use Rattle.std.proofs.Common.{⊎_elim, inl, inr}
use Rattle.dnode_tree.proofs.Refusing.{passed_on}
use Rattle.block_store.specs.declared.refusal.Refusal.TheVariants.{NoMemory}
use Rattle.dataset_groups.proofs.datasets.GroupDatasets.clone_as.Goals as goal

pub returns-in_err-clone-clause-refused : goal.returns-in_err-clone-clause-refused
returns-in_err-clone-clause-refused g c = passed_on _ _ _ c.from_residual.ensures.1 (c.clone.new.changes, c.in_err-clone.ensures.refused)

pub returns-in_err-clone-clause-known : goal.returns-in_err-clone-clause-known
returns-in_err-clone-clause-known g c =
    passed_on _ _ _ c.from_residual.ensures.1
    (λ stored known objects own blocks pool readings held are tell spells is.
    ⊎_elim (λ loss. inl loss) (λ most. inr most.0) (c.in_err-clone.ensures.known stored known objects own blocks pool readings held are tell spells is))

pub returns-in_err-clone-clause-caused : goal.returns-in_err-clone-clause-caused
returns-in_err-clone-clause-caused g c = passed_on _ _ _ c.from_residual.ensures.1 c.in_err-clone.ensures.caused

pub returns-in_err-insert-clause-caused : goal.returns-in_err-insert-clause-caused
returns-in_err-insert-clause-caused g c = passed_on _ NoMemory _ c.from_residual-in_err-insert.ensures.1 (inl tt)
