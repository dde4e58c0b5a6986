use Rattle.std.proofs.Common.{ap, sym, subst, length, ◌∙◌, ◌≤◌, ◌+◌}
use Rattle.std.specs.Option.{option_copied}
use Rattle.pool_model.specs.Flow.{Flow, flow_of}
use Rattle.txg_pipeline.specs.Carries.{Carries}
use Rattle.volume_rules.specs.declared.shape.VolumeShape.{VolumeShape}
use Rattle.volume_rules.specs.Covering.{IsCovered}
use Rattle.volume_rules.specs.NowMoves.{AreGood}
use Rattle.volume_rules.proofs.Covering.{covered_laid}
use Rattle.volume_rules.proofs.Laying.{laid_now}
use Rattle.volume_rules.proofs.overlay.read_pending.Goals as goal

pub returns-clause-laid : goal.returns-clause-laid
returns-clause-laid c = λ v volume k below good effects found shaped range.
    laid_now v c.args.name.now volume c.args.shape.size c.args.offset (option_copied c.source_before-behind_closed.result) (option_copied c.before_waiting-behind_syncing.result) c.open_items-open.result.now
    c.args.buffer.now c.lay_syncing.new.buffer c.lay_waiting.new.buffer c.lay_group.new.buffer below good effects found (ap (λ (s : VolumeShape). s.size) shaped)
    (c.open_items-open.ensures (flow_of v) k) c.source_before-behind_closed.ensures (c.before_waiting-behind_syncing.ensures v k)
    (c.lay_syncing.ensures v k below good effects) (c.lay_waiting.ensures v k below good effects) c.lay_group.ensures range

pub returns-clause-covered : goal.returns-clause-covered
returns-clause-covered c = λ v volume k below good effects found shaped covered zeros.
    covered_laid v c.args.name.now volume c.args.offset c.args.buffer.now c.lay_group.new.buffer below effects found
    (subst (λ n. c.args.offset + length c.args.buffer.now ≤ n) (sym (ap (λ (s : VolumeShape). s.size) shaped)) c.requires)
    (c.lay_group.auto.buffer ∙ (c.lay_waiting.auto.buffer ∙ c.lay_syncing.auto.buffer))
    (subst (λ (s : VolumeShape). IsCovered v c.args.name.now s c.args.offset (length c.args.buffer.now)) (sym shaped) covered) zeros
    (λ w u same below' effects' found' shaped' range.
    let k : Carries c.args.pipeline.now (flow_of w) = subst (λ (f : Flow). Carries c.args.pipeline.now f) (sym same) k in
    let good : AreGood w.ledger = subst (λ (f : Flow). AreGood f.ledger) (sym same) good in
    laid_now w c.args.name.now u c.args.shape.size c.args.offset (option_copied c.source_before-behind_closed.result) (option_copied c.before_waiting-behind_syncing.result) c.open_items-open.result.now
    c.args.buffer.now c.lay_syncing.new.buffer c.lay_waiting.new.buffer c.lay_group.new.buffer below' good effects' found' (ap (λ (s : VolumeShape). s.size) (shaped' ∙ shaped))
    (c.open_items-open.ensures (flow_of w) k) c.source_before-behind_closed.ensures (c.before_waiting-behind_syncing.ensures w k)
    (c.lay_syncing.ensures w k below' good effects') (c.lay_waiting.ensures w k below' good effects') c.lay_group.ensures range)
