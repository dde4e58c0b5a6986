use Rattle.std.proofs.Common.{refl, sym, ap, ◌∙◌, subst}
use Rattle.block_store.specs.Plans.{Plans}
use Rattle.block_store.specs.Store.{Store}
use Rattle.block_store.specs.Places.{shapes_of}
use Rattle.block_store.proofs.Lost.{lose_same}
use Rattle.block_store.proofs.Planning.{same_but, holds_by, finished}
use Rattle.block_store.proofs.Taking.{laid_out_too}
use Rattle.block_store.proofs.store.BlockStore.finish_plan.Goals as goal

pub invariant_of-self : goal.invariant_of-self
invariant_of-self g c = record {
  laid_out = laid_out_too c.self.inside.set.disks.starts c.self.inside.spaces.items _ c.keep_plans.ensures.shapes c.self.invariant.laid_out;
}

pub returns-clause-keeps : goal.returns-clause-keeps
returns-clause-keeps g c =
    let new : Store = record {
      disks = c.self.inside.set.disks;
      spaces = c.keep_plans.new.spaces.items;
      out = c.self.inside.set.out;
      spans = c.self.inside.set.spans;
      due = c.self.inside.set.due;
      stray = c.self.inside.stray;
    } in
    holds_by c.args.self.now new (ap (λ (s : Store). s.disks) c.self.view_is)
    (lose_same c.args.self.now new (ap (λ (s : Store). s.out) c.self.view_is) (ap (λ (s : Store). s.spans) c.self.view_is))
    (c.keep_plans.ensures.shapes ∙ ap (λ (s : Store). shapes_of s.spaces) c.self.view_is)

pub returns-clause-stored : goal.returns-clause-stored
returns-clause-stored g c stored planned plans none =
    finished _ _ (same_but _ _ _ _ refl refl refl c.keep_plans.ensures.shapes c.keep_plans.ensures.filled)
    c.is_sound.ensures.reached (ap (λ (s : Store). s.due) c.self.view_is ∙ none) stored planned
    (subst (λ (s : Store). Plans s stored planned) (sym c.self.view_is) plans)
