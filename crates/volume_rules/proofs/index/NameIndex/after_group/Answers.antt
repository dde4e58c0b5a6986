use Rattle.std.proofs.Common.{List, fold, subst}
use Rattle.pool_model.specs.declared.item.Action.{Action}
use Rattle.pool_model.specs.Pools.{PlainPool, written, changed}
use Rattle.volume_rules.specs.Index.{Knows}
use Rattle.volume_rules.proofs.NowMoves.{knows_along}
use Rattle.volume_rules.proofs.Volumes.{shapes_of_writes}
use Rattle.volume_rules.proofs.index.NameIndex.after_group.Goals as goal

pub returns : goal.returns
returns c = λ pool k.
    let before : PlainPool = fold written pool c.args.items.now.writes in
    let kept = knows_along _ pool before (shapes_of_writes pool c.args.items.now.writes) ((c.in_ok-after.ensures pool).0 k) in
    subst (λ (actions : List Action). Knows c.make_all.new.self (fold (λ p a. changed c.args.group p a.change) before actions)) c.actions.ensures (c.in_ok-make_all.ensures before kept)
