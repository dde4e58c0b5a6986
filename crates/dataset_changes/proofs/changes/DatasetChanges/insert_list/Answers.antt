use Rattle.dataset_changes.proofs.Maps.{fit_inserted}
use Rattle.dataset_changes.proofs.changes.DatasetChanges.insert_list.Goals as goal

pub invariant_of-self-clause-lists_fit : goal.invariant_of-self-clause-lists_fit
invariant_of-self-clause-lists_fit c =
    fit_inserted c.insert.result _ _ c.args.number c.args.state c.args.self.now.lists_fit c.requires.fits c.requires.number c.insert.ensures.updates c.insert.ensures.err
