use Rattle.std.proofs.Common.{sym, ap, ◌∙◌}
use Rattle.std.specs.Prelude.{Some}
use Rattle.pool_model.specs.Pools.{volume_at}
use Rattle.pool_model.specs.View.{now_of}
use Rattle.pool_model.specs.Flow.{flow_of}
use Rattle.pool_intake.proofs.Judging.{write_barred, write_placed}
use Rattle.pool_intake.proofs.intake.Intake.write_refusal.Goals as goal

pub returns-in-Ok : goal.returns-in-Ok
returns-in-Ok c = λ v r u.
    c.against_write.ensures (volume_at c.args.write.now.volume (now_of v)) (c.find.ensures (now_of v) r.names)
    ∙ sym (write_placed v c.args.write.now c.in-Ok.group u (c.in-Ok.ensures.ok (flow_of v) r.flow))

pub returns-in-Err : goal.returns-in-Err
returns-in-Err c = λ v r u. ap Some c.from.ensures ∙ sym (write_barred v c.args.write.now c.in-Err.cause u (c.in-Err.ensures.refused (flow_of v) r.flow))
