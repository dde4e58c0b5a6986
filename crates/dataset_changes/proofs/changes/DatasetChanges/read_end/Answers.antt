use Rattle.std.proofs.Common.{⊎_elim, sym, subst}
use Rattle.block_store.specs.Losses.{IsForLoss}
use Rattle.block_store.specs.declared.refusal.Refusal.{Refusal}
use Rattle.dataset_changes.proofs.Joining.{loss_of}
use Rattle.dataset_changes.proofs.Causes.{of_list_caused}
use Rattle.dataset_changes.proofs.changes.DatasetChanges.read_end.Goals as goal

pub returns-in-Err-clause-known : goal.returns-in-Err-clause-known
returns-in-Err-clause-known g c = λ stored objects own blocks held are tell list there.
    subst (λ (refusal : Refusal). IsForLoss refusal) (sym c.refusal_of.ensures)
    (loss_of _ (⊎_elim (λ loss. loss) (λ none. absurd (none there.0 there.1)) (c.in-Err.ensures.known stored objects own blocks held are tell)))

pub returns-in-Err-clause-caused : goal.returns-in-Err-clause-caused
returns-in-Err-clause-caused g c = of_list_caused _ _ _ _ _ c.refusal_of.ensures c.in-Err.ensures.caused
