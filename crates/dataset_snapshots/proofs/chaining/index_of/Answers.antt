use Rattle.std.proofs.Common.{◌∙◌, sym, refl}
use Rattle.dataset_snapshots.proofs.ChainIndexes.{index_next, none_is, there_twice}
use Rattle.dataset_snapshots.proofs.chaining.index_of.Goals as goal

pub returns-then-is_some : goal.returns-then-is_some
returns-then-is_some c =
    there_twice c.args.records.now c.loop-one.one-index _ _ c.loop-one.index c.in_ok-insert.field-0 c.loop-one-test.true refl c.in_ok-insert.ensures.old (sym c.is_some.ensures ∙ c.if-is_some.true) c.loop-one.invariant

pub loop-one-preserved : goal.loop-one-preserved
loop-one-preserved c =
    index_next c.args.records.now c.loop-one.one-index _ _ c.loop-one.index c.insert.new.self c.loop-one-test.true refl
    (sym c.in_ok-insert.ensures.old ∙ none_is c.in_ok-insert.field-0 (sym c.is_some.ensures ∙ c.if-is_some.false)) c.in_ok-insert.ensures.updates.0 c.loop-one.invariant
