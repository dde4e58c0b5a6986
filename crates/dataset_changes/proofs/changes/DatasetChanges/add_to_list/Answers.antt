use Rattle.std.proofs.Common.{◌++◌, Option, Some, None, sym, subst, ◌∙◌}
use Rattle.dnode_tree.proofs.Refusing.{passed_on}
use Rattle.dataset_changes.specs.Over.{IsListNow, IsListOver}
use Rattle.dataset_changes.specs.declared.states.ListState.{ListState}
use Rattle.dataset_changes.proofs.Overs.{over_list}
use Rattle.dataset_changes.proofs.Steps.{end_unread, put_twice, same_objects}
use Rattle.object_table.proofs.Causes.{judged_is_caused}
use Rattle.dataset_changes.proofs.changes.DatasetChanges.add_to_list.Goals as goal

pub returns-in_err-known-clause-refused : goal.returns-in_err-known-clause-refused
returns-in_err-known-clause-refused g c =
    passed_on _ _ _ c.from_residual.ensures.1
    (end_unread c.args.self.now c.remove_list-state.new.self c.remove_list-state.ensures.one_set _ _ c.args.number _ c.in_err-known.ensures.refused)

pub returns-in_err-known-clause-known : goal.returns-in_err-known-clause-known
returns-in_err-known-clause-known g c =
    passed_on _ _ _ c.from_residual.ensures.1
    (λ stored objects own blocks held are tell number list now.
    c.in_err-known.ensures.known stored objects own blocks held
    (same_objects c.args.self.now c.remove_list-state.new.self c.remove_list-state.ensures.one_set stored objects own blocks are) tell list
    (subst (λ (state : Option ListState). IsListNow (objects c.args.number) state list) (sym c.remove_list-state.ensures.value) now))

pub returns-clause-value : goal.returns-clause-value
returns-clause-value g c = λ stored objects own blocks held are tell over list now.
    let old = c.args.self.now in
    let object = objects c.args.number in
    let found = c.remove_list-state.ensures.value in
    let known = c.in_ok-known.ensures.value stored objects own blocks held
    (same_objects old c.remove_list-state.new.self c.remove_list-state.ensures.one_set stored objects own blocks are) tell
    (subst (λ (s : Option ListState). IsListOver object s) (sym found) (over.lists c.args.number)) list (subst (λ (s : Option ListState). IsListNow object s list) (sym found) now) in
    let longer = c.in_ok-with_blocks.ensures.value object list known.0 known.1 in
    let put = put_twice old c.remove_list-state.new.self c.insert_list.new.self c.args.number None _ c.remove_list-state.ensures.put c.in_ok-insert_list.ensures.put in (
      over_list objects old c.insert_list.new.self over c.args.number (Some c.in_ok-with_blocks.field-0) put (λ q. c.in_ok-insert_list.ensures.records q ∙ c.remove_list-state.ensures.records q) longer.0,
      subst (λ (s : Option ListState). IsListNow object s (list ++ c.args.added.now)) (sym put.0) longer.1,
    )

pub returns-in_err-known-clause-caused : goal.returns-in_err-known-clause-caused
returns-in_err-known-clause-caused g c = passed_on _ _ _ c.from_residual.ensures.1 c.in_err-known.ensures.caused

pub returns-in_err-with_blocks-clause-caused : goal.returns-in_err-with_blocks-clause-caused
returns-in_err-with_blocks-clause-caused g c = passed_on _ _ _ c.from_residual-in_err-with_blocks.ensures.1 (judged_is_caused _ _ _ _ _ c.in_err-with_blocks.ensures.refused)
