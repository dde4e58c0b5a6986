use Rattle.std.proofs.Common.{sym, ◌∙◌, subst}
use Rattle.pool_model.specs.Pools.{PlainPool, changed}
use Rattle.pool_model.specs.View.{now_of}
use Rattle.pool_model.specs.Flow.{flow_of}
use Rattle.volume_rules.specs.Index.{Knows}
use Rattle.pool_intake.proofs.Stepping.{as_named, stays, knows_on, acted, act_refused}
use Rattle.pool_intake.proofs.intake.Intake.act.Goals as goal

pub returns-in-Ok-accept : goal.returns-in-Ok-accept
returns-in-Ok-accept c = λ v r u.
    acted _ _ _ _ v c.args.action _ r u (sym (c.in-Ok.ensures v r u) ∙ c.in_default-refusal.is) c.in-Ok-accept.ensures.accepted
    (λ (pool : PlainPool) knows. subst (λ n. Knows c.make.new.self (changed n pool c.args.action.change)) (c.open_group-group.ensures (flow_of v) r.flow)
    (c.make.ensures c.open_group-group.result pool c.args.action.change ((c.in-Ok-reserve.ensures.same pool).0 knows) (c.in-Ok-change_by.ensures pool knows)))

pub returns-in-Err : goal.returns-in-Err
returns-in-Err c = λ v r u.
    let knows = knows_on _ _ _ v r (c.in-Ok-reserve.ensures.same (now_of v)).0 in
    as_named _ v _ c.in-Err.cause _ c.from.ensures (act_refused _ v c.args.action c.in-Err.cause (stays _ _ _ v knows c.in-Err.ensures.err) u (c.in-Err.ensures.refused (flow_of v) r.flow))
