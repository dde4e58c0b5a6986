use Rattle.std.proofs.Common.{rules, ◌<◌, AllPairs}
use Rattle.objset.specs.declared.changes.ObjectChange.{ObjectChange}
use Rattle.objset.specs.Changes.{IsGoodChange}
use Rattle.pool_maps.specs.Plans.{IsPutIn, numbers_end}
use Rattle.pool_maps.proofs.Among.{all_put}
use Rattle.pool_maps.proofs.Planned.{at_true}
use Rattle.pool_maps.proofs.steps.MapPlan.put.Goals as goal

pub returns-then-branch-clause-ordered : goal.returns-then-branch-clause-ordered
returns-then-branch-clause-ordered c =
    let old = c.args.self.now.changes.items in
    let new = c.put_in.new.changes.items in
    let change : ObjectChange = record { number = c.args.number; change = c.args.change } in
    let put : IsPutIn old change new = at_true c.in_ok-put_in.field-0 (IsPutIn old change new) c.if-branch.true c.in_ok-put_in.ensures.put in
    record {
      order = at_true c.in_ok-put_in.field-0 (AllPairs (λ (a b : ObjectChange). a.number < b.number) new) c.if-branch.true c.in_ok-put_in.ensures.order;
      numbers = all_put old new change put (λ (c : ObjectChange). (0 < c.number) × (c.number < numbers_end)) c.requires.ordered.numbers (search rules, search rules);
      good = all_put old new change put (λ (c : ObjectChange). IsGoodChange c.change) c.requires.ordered.good c.requires.good;
    }
