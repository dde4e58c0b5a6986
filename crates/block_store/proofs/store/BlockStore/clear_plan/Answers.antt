use Rattle.std.proofs.Common.{false, sym, ap, ◌∙◌, subst}
use Rattle.disk_set.specs.Set.{PoolDisks}
use Rattle.block_store.specs.Places.{shapes_of}
use Rattle.block_store.specs.Store.{Store, Stores}
use Rattle.block_store.proofs.Lost.{lose_same}
use Rattle.block_store.proofs.Planning.{same_but, begun, holds_by}
use Rattle.block_store.proofs.Taking.{laid_out_too}
use Rattle.block_store.proofs.store.BlockStore.clear_plan.Goals as goal

pub invariant_of-self : goal.invariant_of-self
invariant_of-self g c = record {
  laid_out = rw (ap (λ (s : PoolDisks). s.disks.starts) c.drop_due.ensures)
      (laid_out_too c.self.inside.set.disks.starts c.self.inside.spaces.items _ c.drop_plans.ensures.shapes c.self.invariant.laid_out);
}

pub returns-clause-plans : goal.returns-clause-plans
returns-clause-plans g c stored stores =
    begun _ _ (same_but _ _ _ _ (ap (λ (s : PoolDisks). s.disks) c.drop_due.ensures) (ap (λ (s : PoolDisks). s.out) c.drop_due.ensures)
    (ap (λ (s : PoolDisks). s.spans) c.drop_due.ensures) c.drop_plans.ensures.shapes c.drop_plans.ensures.filled)
    c.drop_plans.ensures.planned (ap (λ (s : PoolDisks). s.due) c.drop_due.ensures) stored
    (subst (λ (s : Store). Stores s stored) (sym c.self.view_is) stores)

pub returns-clause-keeps : goal.returns-clause-keeps
returns-clause-keeps g c =
    let new : Store = record {
      disks = c.drop_due.new.self.disks;
      spaces = c.drop_plans.new.spaces.items;
      out = c.drop_due.new.self.out;
      spans = c.drop_due.new.self.spans;
      due = c.drop_due.new.self.due;
      stray = false;
    } in
    holds_by c.args.self.now new (ap (λ (s : PoolDisks). s.disks) c.drop_due.ensures ∙ ap (λ (s : Store). s.disks) c.self.view_is)
    (lose_same c.args.self.now new (ap (λ (s : PoolDisks). s.out) c.drop_due.ensures ∙ ap (λ (s : Store). s.out) c.self.view_is)
    (ap (λ (s : PoolDisks). s.spans) c.drop_due.ensures ∙ ap (λ (s : Store). s.spans) c.self.view_is))
    (c.drop_plans.ensures.shapes ∙ ap (λ (s : Store). shapes_of s.spaces) c.self.view_is)
