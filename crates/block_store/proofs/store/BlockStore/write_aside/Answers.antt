use Rattle.std.proofs.Common.{◌≡◌, ◌∷◌, IfErr, OnOk, sym, ap, ◌∙◌, subst}
use Rattle.model_disk.specs.Call.{write_call}
use Rattle.model_disk.specs.Joint.{on}
use Rattle.block_store.specs.Places.{IsLaidOut}
use Rattle.block_store.specs.Store.{Store, IsOutToo, spans_without}
use Rattle.block_store.proofs.Calling.{wrote_aside}
use Rattle.block_store.proofs.Kept.{IsKept, keeps, keeps_plans}
use Rattle.block_store.proofs.Planning.{stores_same}
use Rattle.block_store.proofs.store.BlockStore.write_aside.Given.{Over}
use Rattle.block_store.proofs.store.BlockStore.write_aside.Goals as goal

pub invariant_of-self : goal.invariant_of-self
invariant_of-self g c = record {
  laid_out = subst (λ starts. IsLaidOut starts c.self.inside.spaces.items) (sym c.write_at.ensures.starts) c.self.invariant.laid_out;
}

-- the store behind the call
abbrev after : (g : Over) (c : goal.After-write_at g) → Store
after g c = record {
  disks = c.write_at.new.self.disks;
  spaces = c.self.inside.spaces.items;
  out = c.write_at.new.self.out;
  spans = c.write_at.new.self.spans;
  due = c.write_at.new.self.due;
  stray = c.self.inside.stray;
}

kept : (g : Over) (c : goal.After-write_at g) → IsKept c.args.self.now (after g c)
kept g c =
    wrote_aside c.args.self.now (after g c) c.args.disk c.args.offset c.args.bytes.now c.write_at.result (c.write_at.ensures.starts ∙ ap (λ (s : Store). s.disks.starts) c.self.view_is)
    (ap (λ (s : Store). s.spaces) c.self.view_is) (c.write_at.ensures.due ∙ ap (λ (s : Store). s.due) c.self.view_is)
    (c.write_at.ensures.call ∙ ap (λ (s : Store). on c.args.disk (write_call c.write_at.result c.args.offset c.args.bytes.now) ∷ s.disks.calls) c.self.view_is) c.requires.aside
    (subst (λ (s : Store). OnOk c.write_at.result (c.write_at.new.self.out ≡ s.out)) c.self.view_is c.write_at.ensures.out)
    (subst (λ (s : Store). IfErr c.write_at.result (λ failed. IsOutToo s.out c.args.disk c.write_at.new.self.out)) c.self.view_is c.write_at.ensures.out_too)
    (subst (λ (s : Store). OnOk c.write_at.result (c.write_at.new.self.spans ≡ s.spans)) c.self.view_is c.write_at.ensures.spans)
    (subst (λ (s : Store). IfErr c.write_at.result (λ failed. c.write_at.new.self.spans ≡ spans_without s.out s.spans c.args.disk)) c.self.view_is c.write_at.ensures.gone)
    (ap (λ (s : Store). s.stray) c.self.view_is)

pub returns-clause-keeps : goal.returns-clause-keeps
returns-clause-keeps g c = keeps c.blocks_beside_others.ensures.kept c.blocks_beside_others.ensures.more_absent c.args.self.now (after g c) (kept g c)

pub returns-clause-stores : goal.returns-clause-stores
returns-clause-stores g c = stores_same c.args.self.now (after g c) (kept g c).spaces (returns-clause-keeps g c)

pub returns-clause-plans : goal.returns-clause-plans
returns-clause-plans g c = keeps_plans c.blocks_beside_others.ensures.kept c.blocks_beside_others.ensures.more_absent c.args.self.now (after g c) (kept g c)
