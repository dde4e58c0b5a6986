use Rattle.std.proofs.Common.{Option, subst}
use Rattle.dnode_tree.proofs.Refusing.{passed_on}
use Rattle.dataset_changes.specs.Over.{IsListNow}
use Rattle.dataset_changes.specs.declared.states.ListState.{ListState}
use Rattle.dataset_changes.proofs.Joining.{added_none}
use Rattle.dataset_changes.proofs.changes.DatasetChanges.known_list.Goals as goal

pub returns-in_err-end-in-None-clause-known : goal.returns-in_err-end-in-None-clause-known
returns-in_err-end-in-None-clause-known g c =
    passed_on _ _ _ c.from_residual.ensures.1
    (λ stored objects own blocks held are tell list now.
    c.in_err-end-in-None.ensures.known stored objects own blocks held are tell list (subst (λ (state : Option ListState). IsListNow (objects c.args.number) state list) c.in-None.is now))

pub returns-in_ok-end-in-None-clause-value : goal.returns-in_ok-end-in-None-clause-value
returns-in_ok-end-in-None-clause-value g c = λ stored objects own blocks held are tell over list now.
    let object = objects c.args.number in
    added_none object list c.new-blocks.result c.in_ok-end-in-None.end (c.in_ok-end-in-None.ensures.value stored objects own blocks held are tell) c.new-blocks.ensures
    (subst (λ (state : Option ListState). IsListNow object state list) c.in-None.is now)

pub returns-in_err-end-in-None-clause-caused : goal.returns-in_err-end-in-None-clause-caused
returns-in_err-end-in-None-clause-caused g c = passed_on _ _ _ c.from_residual.ensures.1 c.in_err-end-in-None.ensures.caused
