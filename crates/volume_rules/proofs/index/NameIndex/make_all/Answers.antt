use Rattle.std.proofs.Common.{◌≡◌, List, fold, take, arith, subst}
use Rattle.std.proofs.lemmas.List.{take_all}
use Rattle.pool_model.specs.declared.item.Action.{Action}
use Rattle.pool_model.specs.Pools.{changed}
use Rattle.volume_rules.specs.Index.{Knows}
use Rattle.volume_rules.proofs.index.NameIndex.make_all.Goals as goal

pub returns : goal.returns
returns c = λ pool k.
    let whole : take c.loop-action.action-index c.args.actions.now ≡ c.args.actions.now = take_all c.loop-action.action-index c.args.actions.now (omega arith) in
    subst (λ (actions : List Action). Knows c.loop-action.self (fold (λ p a. changed c.args.group p a.change) pool actions)) whole (c.loop-action.invariant pool k)
