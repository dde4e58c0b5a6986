use Rattle.std.proofs.Common.{sym, ◌∙◌}
use Rattle.pool_model.specs.Flow.{flow_of}
use Rattle.pool_intake.proofs.Stepping.{stays, takes_again, takes_group, takes_none}
use Rattle.pool_intake.proofs.intake.Intake.begin_sync.Goals as goal

pub returns-then-is_syncing-clause-begun : goal.returns-then-is_syncing-clause-begun
returns-then-is_syncing-clause-begun c = λ v timestamp r u p. takes_again _ v timestamp r u p (sym (c.is_syncing.ensures (flow_of v) r.flow) ∙ c.if-is_syncing.true)

pub returns-in-Ok-clause-begun : goal.returns-in-Ok-clause-begun
returns-in-Ok-clause-begun c = λ v timestamp r u p. takes_group _ _ _ v timestamp _ r u p (sym (c.is_syncing.ensures (flow_of v) r.flow) ∙ c.if-is_syncing.false) (c.in-Ok.ensures.taken 0)

pub returns-in-Err-clause-refused : goal.returns-in-Err-clause-refused
returns-in-Err-clause-refused c = λ v timestamp r u p.
    let h = c.in-Err.ensures.refused in
    (takes_none v timestamp c.in-Err.cause _ u p (sym (c.is_syncing.ensures (flow_of v) r.flow) ∙ c.if-is_syncing.false) c.from.ensures h.0 (h.1 (flow_of v) r.flow), stays _ _ _ v r c.in-Err.ensures.err)
