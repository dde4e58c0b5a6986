use Rattle.dataset_changes.proofs.Maps.{fit_without, fits_if_there}
use Rattle.dataset_changes.proofs.changes.DatasetChanges.remove_list.Goals as goal

pub invariant_of-self-clause-lists_fit : goal.invariant_of-self-clause-lists_fit
invariant_of-self-clause-lists_fit c = fit_without _ _ c.args.number c.args.self.now.lists_fit c.remove.ensures.updates

pub returns-clause-fits : goal.returns-clause-fits
returns-clause-fits c = fits_if_there c.args.self.now.lists c.args.number _ c.args.self.now.lists_fit c.remove.ensures.value
