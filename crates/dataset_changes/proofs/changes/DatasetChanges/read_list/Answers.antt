use Rattle.std.proofs.Common.{⊎_elim, sym, subst}
use Rattle.std.proofs.lemmas.List.Sorted.{IsPermutation-sym}
use Rattle.block_store.specs.Losses.{IsForLoss}
use Rattle.block_store.specs.declared.refusal.Refusal.{Refusal}
use Rattle.dataset_changes.proofs.Joining.{fit_list, loss_of}
use Rattle.dataset_changes.proofs.Causes.{of_list_caused}
use Rattle.dataset_changes.proofs.changes.DatasetChanges.read_list.Goals as goal

pub returns-in-Ok-clause-fits : goal.returns-in-Ok-clause-fits
returns-in-Ok-clause-fits g c = fit_list _ _ c.in-Ok.ensures.found.2

pub returns-in-Ok-clause-one : goal.returns-in-Ok-clause-one
returns-in-Ok-clause-one g c = λ stored objects own blocks held are tell list there.
    IsPermutation-sym _ _ (c.in-Ok.ensures.one stored objects own blocks held are tell list there)

pub returns-in-Err-clause-known : goal.returns-in-Err-clause-known
returns-in-Err-clause-known g c = λ stored objects own blocks held are tell list there.
    subst (λ (refusal : Refusal). IsForLoss refusal) (sym c.refusal_of.ensures)
    (loss_of _ (⊎_elim (λ loss. loss) (λ none. absurd (none (list, there))) (c.in-Err.ensures.known stored objects own blocks held are tell)))

pub returns-in-Err-clause-caused : goal.returns-in-Err-clause-caused
returns-in-Err-clause-caused g c = of_list_caused _ _ _ _ _ c.refusal_of.ensures c.in-Err.ensures.caused
