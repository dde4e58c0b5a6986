use Rattle.std.proofs.Common.{arith, ap}
use Rattle.shared_pool.proofs.Records.{record_new}
use Rattle.shared_pool.proofs.recorded.Recorded.new.Goals as goal

pub invariant_of-result : goal.invariant_of-result
invariant_of-result g c = (
  record_new g.C.PoolSteps c.args.core c.of-origin.result.value c.of-start.result.value c.in_ok-entries.entries.items c.args.books.steps.total c.of-begun.result.value.total c.args.books.calls.total
      c.of-origin.ensures c.of-start.ensures c.in_ok-entries.ensures.items c.requires.none.0 (ap (λ b. b.total) c.of-begun.ensures) (g.met.C.PoolSteps.came_from_itself c.args.core) c.requires.sound,
  grind (arith, c.in_ok-entries.ensures.capacity),
)
