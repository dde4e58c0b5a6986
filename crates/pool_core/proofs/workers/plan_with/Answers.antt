use Rattle.std.proofs.Common.{◌≡◌, ◌∙◌, refl, sym, subst}
use Rattle.pool_commit.specs.State.{State}
use Rattle.pool_commit.specs.StateOf.{state_of as commit_of}
use Rattle.pool_model.specs.declared.refusal.Refusal.TheVariants as causes
use Rattle.pool_model.specs.declared.step.Step.TheVariants as steps
use Rattle.pool_model.specs.View.{is_suspended}
use Rattle.pool_core.specs.StateOf.{state_of}
use Rattle.pool_core.specs.Steps.{TakesStep, is_barred}
use Rattle.pool_core.proofs.Fronting.{refused, barred, not_barred, is_barred_then}
use Rattle.pool_core.proofs.workers.plan_with.Goals as goal

pub returns-then-is_refused-clause-goes : goal.returns-then-is_refused-clause-goes
returns-then-is_refused-clause-goes g c v trusted r tell plans =
    let step = steps.Plan c.args.timestamp in
    let both = is_barred_then (is_barred step) (is_suspended v) (sym (c.is_refused.ensures v r.backs) ∙ c.if-is_refused.true) in
    refused (state_of c.args.core.now) v trusted step causes.Suspended r (barred v step both.0 both.1)

pub returns-then-is_err-clause-goes : goal.returns-then-is_err-clause-goes
returns-then-is_err-clause-goes g c =
    let step = steps.Plan c.args.timestamp in
    let planned = state_of c.plan_blocks-reply.new.self in
    let goes : TakesStep (state_of c.args.core.now) step c.plan_blocks-reply.result planned = λ v trusted r tell plans.
    c.plan_blocks-reply.ensures.goes c.args.timestamp v trusted r
    (not_barred (is_barred step) (is_suspended v) refl (sym (c.is_refused.ensures v r.backs) ∙ c.if-is_refused.false)) tell plans in
    let made : commit_of c.make_due_here.new.self ≡ planned.commit = c.make_due_here.ensures ∙ c.make_due.ensures in
    subst (λ (m : State). TakesStep (state_of c.args.core.now) step c.plan_blocks-reply.result (record planned { commit = m })) (sym made) goes

pub returns-else-is_err-clause-goes : goal.returns-else-is_err-clause-goes
returns-else-is_err-clause-goes g c =
    let step = steps.Plan c.args.timestamp in
    let planned = state_of c.plan_blocks-reply.new.self in
    let goes : TakesStep (state_of c.args.core.now) step c.plan_blocks-reply.result planned = λ v trusted r tell plans.
    c.plan_blocks-reply.ensures.goes c.args.timestamp v trusted r
    (not_barred (is_barred step) (is_suspended v) refl (sym (c.is_refused.ensures v r.backs) ∙ c.if-is_refused.false)) tell plans in
    subst (λ (m : State). TakesStep (state_of c.args.core.now) step c.plan_blocks-reply.result (record planned { commit = m })) (sym c.make_due.ensures) goes
