use Rattle.std.proofs.Common.{ap, arith}
use Rattle.block_store.specs.Store.{Store, Spans}
use Rattle.block_store.proofs.Entering.{entered_plans}
use Rattle.block_store.proofs.store.BlockStore.reach.Goals as goal

pub returns-then-birth-group-clause-plans : goal.returns-then-birth-group-clause-plans
returns-then-birth-group-clause-plans g c =
    entered_plans c.args.self.now c.enter.new.self c.args.birth c.enter.ensures.disks c.enter.ensures.out c.enter.ensures.spaces c.enter.ensures.due c.enter.ensures.stray c.enter.ensures.spans
    (omega (arith, c.if-birth-group.true, c.group.ensures, ap (λ (s : Spans). s.group) c.enter.ensures.spans, ap (λ (s : Store). s.spans.group) c.self.view_is))
