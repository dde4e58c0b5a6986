use Rattle.std.proofs.Common.{Bool, List, Option, Some, None, All, cond, sym, subst, ◌∙◌, ap}
use Rattle.std.proofs.lemmas.List.Elements.{All-nil}
use Rattle.dnode_tree.proofs.Refusing.{passed_on}
use Rattle.block_pointer.specs.Block.{FitsBlock}
use Rattle.block_pointer.specs.declared.block.Block.{Block}
use Rattle.dataset_changes.specs.Over.{IsListNow, IsListOver}
use Rattle.dataset_changes.specs.States.{list_at}
use Rattle.dataset_changes.specs.declared.states.ListState.{ListState}
use Rattle.dataset_changes.specs.declared.states.ListState.TheVariants.{Made, Whole}
use Rattle.dataset_changes.proofs.Overs.{over_list}
use Rattle.dataset_changes.proofs.Steps.{list_unread, put_twice, same_objects, whole_fits, whole_over}
use Rattle.dataset_changes.proofs.changes.DatasetChanges.take_list.Goals as goal

pub returns-in_err-list-clause-refused : goal.returns-in_err-list-clause-refused
returns-in_err-list-clause-refused g c =
    passed_on _ _ _ c.from_residual.ensures.1
    (list_unread c.args.self.now c.remove_list-state.new.self c.remove_list-state.ensures.one_set _ _ c.args.number _ c.remove_list-state.result c.remove_list-state.ensures.value
    c.in_err-list.ensures.refused)

pub returns-in_err-list-clause-known : goal.returns-in_err-list-clause-known
returns-in_err-list-clause-known g c =
    passed_on _ _ _ c.from_residual.ensures.1
    (λ stored objects own blocks held are tell number list now.
    c.in_err-list.ensures.known stored objects own blocks held
    (same_objects c.args.self.now c.remove_list-state.new.self c.remove_list-state.ensures.one_set stored objects own blocks are) tell list
    (subst (λ (state : Option ListState). IsListNow (objects c.args.number) state list) (sym c.remove_list-state.ensures.value) now))

pub insert_list-requires-clause-fits : goal.insert_list-requires-clause-fits
insert_list-requires-clause-fits g c =
    whole_fits c.is_list_made-made.result c.new.result c.whole_state.result c.whole_state.ensures (subst (λ (list : List Block). All FitsBlock list) (sym c.new.ensures) (All-nil FitsBlock))

pub returns-clause-value : goal.returns-clause-value
returns-clause-value g c = λ stored objects own blocks held are tell over.
    let old = c.args.self.now in
    let object = objects c.args.number in
    let state = list_at old c.args.number in
    let found = c.remove_list-state.ensures.value in
    let whole = c.in_ok-list.ensures.value stored objects own blocks held
    (same_objects old c.remove_list-state.new.self c.remove_list-state.ensures.one_set stored objects own blocks are) tell
    (subst (λ (s : Option ListState). IsListOver object s) (sym found) (over.lists c.args.number)) in
    let now = subst (λ (s : Option ListState). IsListNow object s c.in_ok-list.list) found whole.0 in
    let put = put_twice old c.remove_list-state.new.self c.insert_list.new.self c.args.number None _ c.remove_list-state.ensures.put c.in_ok-insert_list.ensures.put in
    let is = c.whole_state.ensures ∙ ap (λ (made : Bool). cond made (Made c.new.result) (Whole c.new.result)) c.is_list_made-made.ensures in (
      over_list objects old c.insert_list.new.self over c.args.number (Some c.whole_state.result) put (λ q. c.in_ok-insert_list.ensures.records q ∙ c.remove_list-state.ensures.records q)
          (subst (λ (s : ListState). IsListOver object (Some s)) (sym is) (whole_over object state c.in_ok-list.list c.new.result (over.lists c.args.number) now)),
      now,
      λ list there. whole.1 list (subst (λ (s : Option ListState). IsListNow object s list) (sym found) there),
    )

pub returns-in_err-list-clause-caused : goal.returns-in_err-list-clause-caused
returns-in_err-list-clause-caused g c = passed_on _ _ _ c.from_residual.ensures.1 c.in_err-list.ensures.caused
