use Rattle.std.proofs.Common.{◌≡◌, OnOk, sym, ap, subst, ◌∙◌}
use Rattle.model_disk.specs.Joint.{Disks}
use Rattle.block_store.specs.Places.{IsLaidOut}
use Rattle.block_store.specs.Store.{Store, IsInUseToo, MissedThese}
use Rattle.block_store.proofs.ComingBack.{holds_back, on_both, plans_back, stores_back}
use Rattle.block_store.proofs.store.BlockStore.bring_back.Given.{Over}
use Rattle.block_store.proofs.store.BlockStore.bring_back.Goals as goal

pub invariant_of-self : goal.invariant_of-self
invariant_of-self g c = record {
  laid_out = subst (λ (d : Disks). IsLaidOut d.starts c.self.inside.spaces.items) (sym c.bring_back.ensures.disks) c.self.invariant.laid_out;
}

-- the store behind the call
abbrev after : (g : Over) (c : goal.After-bring_back g) → Store
after g c = record {
  disks = c.bring_back.new.self.disks;
  spaces = c.self.inside.spaces.items;
  out = c.bring_back.new.self.out;
  spans = c.bring_back.new.self.spans;
  due = c.bring_back.new.self.due;
  stray = c.self.inside.stray;
}

disks : (g : Over) (c : goal.After-bring_back g) → (after g c).disks ≡ c.args.self.now.disks
disks g c = c.bring_back.ensures.disks ∙ ap (λ (s : Store). s.disks) c.self.view_is

spaces : (g : Over) (c : goal.After-bring_back g) → (after g c).spaces ≡ c.args.self.now.spaces
spaces g c = ap (λ (s : Store). s.spaces) c.self.view_is

back : (g : Over) (c : goal.After-bring_back g) → OnOk c.bring_back.result (IsInUseToo c.args.self.now.out c.args.disk (after g c).out)
back g c = subst (λ (s : Store). OnOk c.bring_back.result (IsInUseToo s.out c.args.disk c.bring_back.new.self.out)) c.self.view_is c.bring_back.ensures.out

missed : (g : Over) (c : goal.After-bring_back g) → OnOk c.bring_back.result (MissedThese c.args.self.now.spans c.args.disk c.args.missed (after g c).spans)
missed g c =
    subst (λ (s : Store). OnOk c.bring_back.result (MissedThese s.spans c.args.disk c.args.missed c.bring_back.new.self.spans)) c.self.view_is c.bring_back.ensures.spans

pub returns-clause-holds : goal.returns-clause-holds
returns-clause-holds g c =
    on_both c.bring_back.result (back g c) (missed g c) (λ here spans.
    holds_back c.blocks_beside_others.ensures.more_absent c.args.self.now (after g c) c.args.disk c.args.missed (disks g c) (spaces g c) here spans)

pub returns-clause-stores : goal.returns-clause-stores
returns-clause-stores g c =
    on_both c.bring_back.result (back g c) (missed g c) (λ here spans.
    stores_back c.blocks_beside_others.ensures.more_absent c.args.self.now (after g c) c.args.disk c.args.missed (disks g c) (spaces g c) here spans)

pub returns-clause-plans : goal.returns-clause-plans
returns-clause-plans g c =
    on_both c.bring_back.result (back g c) (missed g c) (λ here spans.
    plans_back c.blocks_beside_others.ensures.more_absent c.args.self.now (after g c) c.args.disk c.args.missed (disks g c) (spaces g c)
    (c.bring_back.ensures.due ∙ ap (λ (s : Store). s.due) c.self.view_is) (ap (λ (s : Store). s.stray) c.self.view_is) here spans)
