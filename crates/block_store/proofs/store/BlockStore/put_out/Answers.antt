use Rattle.std.proofs.Common.{◌≡◌, sym, ap, ◌∙◌, subst}
use Rattle.model_disk.specs.Joint.{Disks, content}
use Rattle.block_store.specs.Places.{IsLaidOut}
use Rattle.block_store.specs.Store.{Store, IsOutToo, spans_without}
use Rattle.block_store.proofs.Calling.{put_out}
use Rattle.block_store.proofs.Kept.{IsKept, keeps, keeps_plans}
use Rattle.block_store.proofs.Planning.{stores_same}
use Rattle.block_store.proofs.store.BlockStore.put_out.Given.{Over}
use Rattle.block_store.proofs.store.BlockStore.put_out.Goals as goal

pub invariant_of-self : goal.invariant_of-self
invariant_of-self g c = record {
  laid_out = subst (λ (d : Disks). IsLaidOut d.starts c.self.inside.spaces.items) (sym c.put_out.ensures.disks) c.self.invariant.laid_out;
}

-- the store behind the call
abbrev after : (g : Over) (c : goal.After-put_out g) → Store
after g c = record {
  disks = c.put_out.new.self.disks;
  spaces = c.self.inside.spaces.items;
  out = c.put_out.new.self.out;
  spans = c.put_out.new.self.spans;
  due = c.put_out.new.self.due;
  stray = c.self.inside.stray;
}

kept : (g : Over) (c : goal.After-put_out g) → IsKept c.args.self.now (after g c)
kept g c =
    put_out c.args.self.now (after g c) c.args.disk (c.put_out.ensures.disks ∙ ap (λ (s : Store). s.disks) c.self.view_is)
    (ap (λ (s : Store). s.spaces) c.self.view_is) (c.put_out.ensures.due ∙ ap (λ (s : Store). s.due) c.self.view_is)
    (subst (λ (s : Store). IsOutToo s.out c.args.disk c.put_out.new.self.out) c.self.view_is c.put_out.ensures.out)
    (subst (λ (s : Store). c.put_out.new.self.spans ≡ spans_without s.out s.spans c.args.disk) c.self.view_is c.put_out.ensures.spans)
    (ap (λ (s : Store). s.stray) c.self.view_is)

pub returns-clause-keeps : goal.returns-clause-keeps
returns-clause-keeps g c = keeps c.blocks_beside_others.ensures.kept c.blocks_beside_others.ensures.more_absent c.args.self.now (after g c) (kept g c)

pub returns-clause-stores : goal.returns-clause-stores
returns-clause-stores g c = stores_same c.args.self.now (after g c) (kept g c).spaces (returns-clause-keeps g c)

pub returns-clause-plans : goal.returns-clause-plans
returns-clause-plans g c = keeps_plans c.blocks_beside_others.ensures.kept c.blocks_beside_others.ensures.more_absent c.args.self.now (after g c) (kept g c)
