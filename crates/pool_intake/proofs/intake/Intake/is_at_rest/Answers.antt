use Rattle.std.proofs.Common.{◌∙◌, ap, sym, true≢false}
use Rattle.std.specs.Prelude.{is_some}
use Rattle.pool_model.specs.Flow.{flow_of}
use Rattle.pool_intake.proofs.Resting.{not_none, open_is_empty, rests}
use Rattle.pool_intake.proofs.intake.Intake.is_at_rest.Goals as goal

pub returns-then-is_syncing : goal.returns-then-is_syncing
returns-then-is_syncing c = λ v r. (
  λ yes. absurd (true≢false (sym yes)),
  λ rest. absurd (true≢false (sym c.if-is_syncing.true ∙ (c.is_syncing.ensures (flow_of v) r.flow ∙ rest.unsynced))),
)

pub returns-then-is_some : goal.returns-then-is_some
returns-then-is_some c = λ v r. (
  λ yes. absurd (true≢false (sym yes)),
  λ rest. absurd (true≢false (sym c.if-is_some.true ∙ (c.is_some.ensures ∙ ap is_some (c.waiting.ensures (flow_of v) r.flow ∙ rest.unwaited)))),
)

pub returns : goal.returns
returns c = λ v r.
    let items = c.open_items.ensures (flow_of v) r.flow in (
      λ yes. rests v r.sound (sym (c.is_syncing.ensures (flow_of v) r.flow) ∙ c.if-is_syncing.false)
          (not_none v.waiting (ap is_some (sym (c.waiting.ensures (flow_of v) r.flow)) ∙ (sym c.is_some.ensures ∙ c.if-is_some.false)))
          (sym items ∙ c.is_empty.ensures.0 yes),
      λ rest. c.is_empty.ensures.1 (items ∙ open_is_empty v rest),
    )
