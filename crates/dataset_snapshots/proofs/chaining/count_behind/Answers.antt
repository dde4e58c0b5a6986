use Rattle.std.proofs.Common.{arith, refl}
use Rattle.dataset_snapshots.proofs.ChainCounts.{counts_next, few_counted}
use Rattle.dataset_snapshots.proofs.chaining.count_behind.Goals as goal

pub overflow_add-count : goal.overflow_add-count
overflow_add-count c =
    omega (
      arith,
      few_counted c.args.records.now c.loop-one.one-index c.loop-one.counts c.count_of-count.result _ c.count_of-count.ensures c.loop-one.invariant c.loop-one-test.true,
    )

pub loop-one-preserved : goal.loop-one-preserved
loop-one-preserved c =
    counts_next c.args.records.now c.loop-one.one-index _ _ c.loop-one.counts c.insert.new.self c.count_of-count.result c.loop-one-test.true refl c.count_of-count.ensures c.in_ok-insert.ensures.updates.0
    c.loop-one.invariant
