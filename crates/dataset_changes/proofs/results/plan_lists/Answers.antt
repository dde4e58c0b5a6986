use Rattle.std.proofs.Common.{sym, ◌∙◌}
use Rattle.dataset_changes.proofs.Emptying.{lists_go_on, none_there}
use Rattle.dataset_changes.proofs.results.plan_lists.Goals as goal

pub list_plan-requires : goal.list_plan-requires
list_plan-requires c =
    c.requires.fit c.in-Some.number c.in-Some.state (c.loop-number.invariant.left c.in-Some.number c.in-Some.state c.in-Some.ensures.value)

pub loop-number-preserved : goal.loop-number-preserved
loop-number-preserved c =
    lists_go_on c.args.lists c.loop-number.rest c.pop_first.new.self c.args.plans.now c.loop-number.plans c.put_plan.new.plans c.in-Some.number c.in-Some.state c.in_ok-list_plan.field-0
    c.loop-number.invariant c.in-Some.ensures.value (none_there _ (sym c.contains_key.ensures ∙ c.if-contains_key.false)) c.in-Some.ensures.updates c.in_ok-list_plan.ensures.serves c.in_ok-put_plan.ensures
