use Rattle.std.proofs.Common.{refl, arith}
use Rattle.pool_labels.specs.Choices.{IsValidReading}
use Rattle.pool_labels.proofs.LabelLemmas.{has_valid_at, none_valid}
use Rattle.pool_labels.proofs.Lists.{here, none_more}
use Rattle.pool_labels.proofs.consistency.has_valid.Goals as goal

pub returns-then-is_valid : goal.returns-then-is_valid
returns-then-is_valid c =
    let labels = c.args.labels.now in
    (λ _. has_valid_at labels c.loop-label.label-index c.label-item.result (here labels c.loop-label.label-index c.label-item.result (omega (arith, c.loop-label-test.true)) c.label-item.is) (c.is_valid.ensures.0 c.if-is_valid.true), λ _. refl)

pub loop-label-preserved : goal.loop-label-preserved
loop-label-preserved c =
    none_more (λ s. IsValidReading s.reading) c.args.labels.now c.loop-label.label-index c.label-item.result c.loop-label.invariant (omega (arith, c.loop-label-test.true)) c.label-item.is
    (λ valid. let yes = c.is_valid.ensures.1 valid in let fails = c.if-is_valid.false in cc)

pub returns : goal.returns
returns c = (λ it. absurd cc, λ it. absurd (none_valid c.args.labels.now c.loop-label.label-index (omega (arith, c.loop-label-test.false)) c.loop-label.invariant it))
