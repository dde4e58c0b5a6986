use Rattle.std.proofs.Common.{sym, ap, ◌∙◌}
use Rattle.std.specs.Prelude.{Some}
use Rattle.pool_model.specs.View.{now_of}
use Rattle.pool_model.specs.Flow.{flow_of}
use Rattle.std.proofs.lemmas.Result.{IfOk-weaker}
use Rattle.pool_intake.proofs.Judging.{act_barred, act_late, act_placed}
use Rattle.pool_intake.proofs.intake.Intake.action_refusal.Goals as goal

pub returns-in-Ok : goal.returns-in-Ok
returns-in-Ok c = λ v r u. sym (act_late v c.args.action.now c.in-Ok.group u (c.in-Ok.ensures.ok (flow_of v) r.flow) (λ e. c.if-group-open_group.true (e ∙ sym (c.open_group.ensures (flow_of v) r.flow))))

pub returns-in-Ok-2 : goal.returns-in-Ok-2
returns-in-Ok-2 c = IfOk-weaker c.against.result _ _
    (λ cause is. λ v r u. is (now_of v) r.names
    ∙ sym (act_placed v c.args.action.now c.in-Ok.group u (c.in-Ok.ensures.ok (flow_of v) r.flow) (c.if-group-open_group.false ∙ c.open_group.ensures (flow_of v) r.flow)))
    c.against.ensures

pub returns-in-Err : goal.returns-in-Err
returns-in-Err c = λ v r u. ap Some c.from.ensures ∙ sym (act_barred v c.args.action.now c.in-Err.cause u (c.in-Err.ensures.refused (flow_of v) r.flow))
