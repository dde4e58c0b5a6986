use Rattle.std.proofs.Common.{◌∷◌, sym, ap, subst, ◌∙◌}
use Rattle.disk_set.specs.Set.{PoolDisks}
use Rattle.model_disk.specs.Call.{read_call}
use Rattle.model_disk.specs.Joint.{on}
use Rattle.block_store.specs.Places.{IsLaidOut}
use Rattle.block_store.specs.Store.{Store}
use Rattle.block_store.proofs.ComingBack.{looked}
use Rattle.block_store.proofs.Kept.{IsKept, keeps, keeps_plans}
use Rattle.block_store.proofs.Planning.{stores_same}
use Rattle.block_store.proofs.store.BlockStore.read_aside.Given.{Over}
use Rattle.block_store.proofs.store.BlockStore.read_aside.Goals as goal

pub invariant_of-self : goal.invariant_of-self
invariant_of-self g c = record {
  laid_out = subst (λ starts. IsLaidOut starts c.self.inside.spaces.items) (sym c.read_at.ensures.starts) c.self.invariant.laid_out;
}

-- the store behind the call
abbrev after : (g : Over) (c : goal.After-slice_known-2-1 g) → Store
after g c = record {
  disks = c.read_at.new.self.disks;
  spaces = c.self.inside.spaces.items;
  out = c.read_at.new.self.out;
  spans = c.read_at.new.self.spans;
  due = c.read_at.new.self.due;
  stray = c.self.inside.stray;
}

kept : (g : Over) (c : goal.After-slice_known-2-1 g) → IsKept c.args.self.now (after g c)
kept g c =
    looked c.args.self.now (after g c) c.args.disk c.args.offset c.read_at.new.buffer c.read_at.result
    (c.read_at.ensures.starts ∙ ap (λ (s : Store). s.disks.starts) c.self.view_is) (ap (λ (s : Store). s.spaces) c.self.view_is)
    (ap (λ (s : PoolDisks). s.due) c.read_at.ensures.rest ∙ ap (λ (s : Store). s.due) c.self.view_is)
    (c.read_at.ensures.call ∙ ap (λ (s : Store). on c.args.disk (read_call c.read_at.result c.args.offset c.read_at.new.buffer) ∷ s.disks.calls) c.self.view_is)
    (ap (λ (s : PoolDisks). s.out) c.read_at.ensures.rest ∙ ap (λ (s : Store). s.out) c.self.view_is)
    (ap (λ (s : PoolDisks). s.spans) c.read_at.ensures.rest ∙ ap (λ (s : Store). s.spans) c.self.view_is)
    (ap (λ (s : Store). s.stray) c.self.view_is)

pub returns-clause-keeps : goal.returns-clause-keeps
returns-clause-keeps g c = keeps c.blocks_beside_others.ensures.kept c.blocks_beside_others.ensures.more_absent c.args.self.now (after g c) (kept g c)

pub returns-clause-stores : goal.returns-clause-stores
returns-clause-stores g c = stores_same c.args.self.now (after g c) (kept g c).spaces (returns-clause-keeps g c)

pub returns-clause-plans : goal.returns-clause-plans
returns-clause-plans g c = keeps_plans c.blocks_beside_others.ensures.kept c.blocks_beside_others.ensures.more_absent c.args.self.now (after g c) (kept g c)
