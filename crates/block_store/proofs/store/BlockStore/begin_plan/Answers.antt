use Rattle.std.proofs.Common.{◌≡◌, false, ap, subst, ◌∙◌}
use Rattle.std.specs.Prelude.{OnOk}
use Rattle.disk_set.specs.Set.{PoolDisks}
use Rattle.block_store.specs.Places.{shapes_of}
use Rattle.block_store.specs.Releases.{AreSettledIn, AreSettledInSome}
use Rattle.block_store.specs.Store.{Store}
use Rattle.block_store.specs.Uses.{Passes}
use Rattle.block_store.proofs.Lost.{lose_in}
use Rattle.block_store.proofs.Planning.{holds_by}
use Rattle.block_store.proofs.Settled.{lies_settled, begun_settled}
use Rattle.block_store.proofs.Taking.{laid_out_too}
use Rattle.block_store.proofs.store.BlockStore.begin_plan.Goals as goal

pub invariant_of-self : goal.invariant_of-self
invariant_of-self g c = record {
  laid_out = rw (ap (λ (s : PoolDisks). s.disks.starts) c.drop_due.ensures)
      (laid_out_too c.self.inside.set.disks.starts c.self.inside.spaces.items _ c.settle_each.ensures.shapes c.self.invariant.laid_out);
}

pub returns-clause-settled : goal.returns-clause-settled
returns-clause-settled g c =
    let spaces : c.self.inside.spaces.items ≡ c.args.self.now.spaces = ap (λ (s : Store). s.spaces) c.self.view_is ∙ c.enter.ensures.spaces in
    subst (λ xs. OnOk c.settle_each.result (AreSettledIn c.args.group xs c.settle_each.new.spaces.items)) spaces c.settle_each.ensures.settled

pub returns-clause-some : goal.returns-clause-some
returns-clause-some g c =
    let spaces : c.self.inside.spaces.items ≡ c.args.self.now.spaces = ap (λ (s : Store). s.spaces) c.self.view_is ∙ c.enter.ensures.spaces in
    subst (λ xs. AreSettledInSome c.args.group xs c.settle_each.new.spaces.items) spaces c.settle_each.ensures.some

pub returns-clause-stays : goal.returns-clause-stays
returns-clause-stays g c = λ test later block to lies i place at.
    let spaces : c.self.inside.spaces.items ≡ c.args.self.now.spaces = ap (λ (s : Store). s.spaces) c.self.view_is ∙ c.enter.ensures.spaces in
    let shapes : shapes_of c.settle_each.new.spaces.items ≡ shapes_of c.args.self.now.spaces = c.settle_each.ensures.shapes ∙ ap shapes_of spaces in
    lies_settled c.args.group (Passes test) (Passes later) c.args.self.now.spaces c.settle_each.new.spaces.items block.property.sectors place to shapes
    (returns-clause-some g c) (lies i place at)

pub returns-clause-plans : goal.returns-clause-plans
returns-clause-plans g c = λ stored stores spared.
    let spaces : c.self.inside.spaces.items ≡ c.args.self.now.spaces = ap (λ (s : Store). s.spaces) c.self.view_is ∙ c.enter.ensures.spaces in
    let shapes : shapes_of c.settle_each.new.spaces.items ≡ shapes_of c.args.self.now.spaces = c.settle_each.ensures.shapes ∙ ap shapes_of spaces in
    let new : Store = record {
      disks = c.drop_due.new.self.disks;
      spaces = c.settle_each.new.spaces.items;
      out = c.drop_due.new.self.out;
      spans = c.drop_due.new.self.spans;
      due = c.drop_due.new.self.due;
      stray = false;
    } in
    begun_settled c.args.group c.args.self.now new (ap (λ (s : PoolDisks). s.disks) c.drop_due.ensures ∙ ap (λ (s : Store). s.disks) c.self.view_is ∙ c.enter.ensures.disks)
    (lose_in c.args.self.now new c.args.group (ap (λ (s : PoolDisks). s.out) c.drop_due.ensures ∙ ap (λ (s : Store). s.out) c.self.view_is ∙ c.enter.ensures.out) (ap (λ (s : PoolDisks). s.spans) c.drop_due.ensures ∙ ap (λ (s : Store). s.spans) c.self.view_is ∙ c.enter.ensures.spans))
    shapes (returns-clause-some g c) c.settle_each.ensures.free (ap (λ (s : PoolDisks). s.due) c.drop_due.ensures) stored stores spared

pub returns-clause-keeps : goal.returns-clause-keeps
returns-clause-keeps g c =
    let spaces : c.self.inside.spaces.items ≡ c.args.self.now.spaces = ap (λ (s : Store). s.spaces) c.self.view_is ∙ c.enter.ensures.spaces in
    let new : Store = record {
      disks = c.drop_due.new.self.disks;
      spaces = c.settle_each.new.spaces.items;
      out = c.drop_due.new.self.out;
      spans = c.drop_due.new.self.spans;
      due = c.drop_due.new.self.due;
      stray = false;
    } in
    holds_by c.args.self.now new (ap (λ (s : PoolDisks). s.disks) c.drop_due.ensures ∙ ap (λ (s : Store). s.disks) c.self.view_is ∙ c.enter.ensures.disks)
    (lose_in c.args.self.now new c.args.group (ap (λ (s : PoolDisks). s.out) c.drop_due.ensures ∙ ap (λ (s : Store). s.out) c.self.view_is ∙ c.enter.ensures.out) (ap (λ (s : PoolDisks). s.spans) c.drop_due.ensures ∙ ap (λ (s : Store). s.spans) c.self.view_is ∙ c.enter.ensures.spans))
    (c.settle_each.ensures.shapes ∙ ap shapes_of spaces)
