use Rattle.std.proofs.Common.{◌≡◌, ◌≤◌, [], List, inr, refl, sym, subst, ◌∙◌, true≢false, ⊎_elim, inl, arith}
use Rattle.std.specs.Prelude.{fold, take}
use Rattle.std.proofs.lemmas.List.{take_all}
use Rattle.block_store.proofs.Steps.{steps_none, steps_on}
use Rattle.block_store.proofs.Telling.{tell_after, tell_before}
use Rattle.dataset_destroys.proofs.ChainChained.{objects_on, one_set_on}
use Rattle.dnode_tree.proofs.Refusing.{passed_on}
use Rattle.pool_model.specs.declared.item.Action.{Action}
use Rattle.pool_model.specs.Pools.{PlainPool, changed}
use Rattle.dataset_groups.specs.Actions.{AreActed}
use Rattle.dataset_groups.specs.Demands.{MakesAll}
use Rattle.dataset_groups.specs.NewVolumes.{numbers_end}
use Rattle.dataset_groups.specs.declared.datasets.GroupDatasets.{GroupDatasets}
use Rattle.dataset_groups.specs.declared.datasets.NumberBounds.{NumberBounds}
use Rattle.dataset_groups.proofs.AddedDatasets.{acts_none, acts_on}
use Rattle.dataset_groups.proofs.MakingDemands.{action_refused, makes_more, makes_none, taken_more}
use Rattle.dataset_groups.proofs.MakingSteps.{one_good, pool_more}
use Rattle.block_store.proofs.Causes.{caused_behind}
use Rattle.dataset_groups.proofs.Causes.{idle_on, lacks_of}
use Rattle.dataset_groups.proofs.datasets.GroupDatasets.act_all.Goals as goal

pub loop-action-init : goal.loop-action-init
loop-action-init g c = record {
  steps = steps_none c.args.store.now [];
  behind = c.requires.behind;
  end = c.requires.end;
  within = λ within. within;
  bounds = refl;
  next = (omega arith, omega arith);
  within_list = omega arith;
  idle = λ same. refl;
  one_set = (refl, refl);
  value = λ stored planned plans tell. (
    planned,
    plans,
    λ block bytes known. known,
    λ objects own blocks pool readings plain are spells. acts_none c.args.self.now c.args.group planned objects pool readings plain spells,
  );
  made = makes_none c.args.store.now c.args.group c.args.self.now;
}

pub returns-in_err-act_one-clause-steps : goal.returns-in_err-act_one-clause-steps
returns-in_err-act_one-clause-steps g c = steps_on c.args.store.now c.loop-action.store c.act_one.new.store [] c.loop-action.invariant.steps c.act_one.ensures.steps

pub returns-in_err-act_one-clause-one_set : goal.returns-in_err-act_one-clause-one_set
returns-in_err-act_one-clause-one_set g c = one_set_on c.args.self.now.changes c.loop-action.self.changes c.act_one.new.self.changes c.loop-action.invariant.one_set c.act_one.ensures.one_set

pub returns-in_err-act_one-clause-bad : goal.returns-in_err-act_one-clause-bad
returns-in_err-act_one-clause-bad g c =
    passed_on _ _ _ c.from_residual.ensures.1
    (λ is good. absurd (true≢false (sym (one_good c.args.actions.now c.loop-action.action-index c.action-item.result c.loop-action-test.true c.action-item.is good) ∙ c.in_err-act_one.ensures.bad is)))

pub returns-in_err-act_one-clause-known : goal.returns-in_err-act_one-clause-known
returns-in_err-act_one-clause-known g c =
    passed_on _ _ _ c.from_residual.ensures.1
    (λ stored planned objects own blocks pool readings plain good plans are tell spells.
    let so_far = c.loop-action.invariant in
    let one = so_far.value stored planned plans (tell_before c.args.store.now c.loop-action.store c.act_one.new.store [] so_far.steps c.act_one.ensures.steps tell) in
    let acted = one.3 objects own blocks pool readings plain are spells in
    c.in_err-act_one.ensures.known stored one.0 objects own blocks acted.after acted.readings _
    (one_good c.args.actions.now c.loop-action.action-index c.action-item.result c.loop-action-test.true c.action-item.is good) one.1
    (objects_on stored objects own blocks c.args.self.now.changes c.loop-action.self.changes so_far.one_set are)
    (tell_after c.args.store.now c.loop-action.store c.act_one.new.store [] so_far.steps c.act_one.ensures.steps tell) acted.spells)

within_on : (old mid new : GroupDatasets) → mid.bounds ≡ old.bounds → (mid.next ≤ mid.bounds.end → new.next ≤ mid.bounds.end) → mid.next ≤ old.bounds.end → new.next ≤ old.bounds.end
within_on old mid new same step so_far =
    subst (λ (b : NumberBounds). new.next ≤ b.end) same (step (subst (λ (b : NumberBounds). mid.next ≤ b.end) (sym same) so_far))

pub returns-in_err-act_one-clause-within : goal.returns-in_err-act_one-clause-within
returns-in_err-act_one-clause-within g c = λ within.
    within_on c.args.self.now c.loop-action.self c.act_one.new.self c.loop-action.invariant.bounds c.act_one.ensures.within (c.loop-action.invariant.within within)

pub returns-in_err-act_one-clause-bounds : goal.returns-in_err-act_one-clause-bounds
returns-in_err-act_one-clause-bounds g c = c.act_one.ensures.bounds ∙ c.loop-action.invariant.bounds

pub loop-action-preserved : goal.loop-action-preserved
loop-action-preserved g c =
    let so_far = c.loop-action.invariant in
    let steps = c.act_one.ensures.steps in record {
      steps = steps_on c.args.store.now c.loop-action.store c.act_one.new.store [] so_far.steps steps;
      behind = c.act_one.ensures.behind;
      end = subst (λ (b : NumberBounds). b.end ≤ numbers_end) (sym c.act_one.ensures.bounds) so_far.end;
      within = λ within. within_on c.args.self.now c.loop-action.self c.act_one.new.self so_far.bounds c.act_one.ensures.within (so_far.within within);
      bounds = c.act_one.ensures.bounds ∙ so_far.bounds;
      next = (omega (arith, so_far.next.0, c.act_one.ensures.next.0), omega (arith, so_far.next.1, c.act_one.ensures.next.1));
      within_list = omega (arith, c.loop-action-test.true);
      idle = idle_on c.args.self.now c.loop-action.self c.act_one.new.self so_far.next.0 c.act_one.ensures.next.0 so_far.idle c.in_ok-act_one.ensures.idle;
      one_set = one_set_on c.args.self.now.changes c.loop-action.self.changes c.act_one.new.self.changes so_far.one_set c.act_one.ensures.one_set;
      value = λ stored planned plans tell.
          let one = so_far.value stored planned plans (tell_before c.args.store.now c.loop-action.store c.act_one.new.store [] so_far.steps steps tell) in
          let two = c.in_ok-act_one.ensures.value stored one.0 one.1 (tell_after c.args.store.now c.loop-action.store c.act_one.new.store [] so_far.steps c.act_one.ensures.steps tell) in (
            two.0,
            two.1,
            λ block bytes known. two.2 block bytes (one.2 block bytes known),
            λ objects own blocks pool readings plain are spells.
                let before : PlainPool = fold (λ p a. changed c.args.group p a.change) plain (take c.loop-action.action-index c.args.actions.now) in
                let first = one.3 objects own blocks pool readings plain are spells in
                let last = two.3 objects own blocks first.after first.readings before
                (objects_on stored objects own blocks c.args.self.now.changes c.loop-action.self.changes so_far.one_set are) first.spells in
                subst (λ (p : PlainPool). AreActed c.args.group objects planned two.0 c.args.self.now c.act_one.new.self pool p)
                (pool_more c.args.group plain c.args.actions.now c.loop-action.action-index c.action-item.result c.loop-action-test.true c.action-item.is)
                (acts_on c.args.self.now c.loop-action.self c.act_one.new.self c.args.group planned one.0 two.0 objects pool before _ one.2 two.2 first last),
          );
      made = subst (λ (actions : List Action). MakesAll c.args.store.now c.act_one.new.store c.args.group c.args.self.now c.act_one.new.self actions)
          (sym (taken_more c.args.actions.now c.loop-action.action-index c.action-item.result c.loop-action-test.true c.action-item.is))
          (makes_more c.args.store.now c.loop-action.store c.act_one.new.store c.args.group c.args.self.now c.loop-action.self c.act_one.new.self (take c.loop-action.action-index c.args.actions.now)
          c.action-item.result so_far.steps.shapes so_far.one_set so_far.made c.in_ok-act_one.ensures.places c.in_ok-act_one.ensures.touched);
    }

pub returns-in_err-act_one-clause-refused : goal.returns-in_err-act_one-clause-refused
returns-in_err-act_one-clause-refused g c =
    let so_far = c.loop-action.invariant in
    passed_on _ _ _ c.from_residual.ensures.1
    (inr (action_refused c.args.store.now c.loop-action.store c.act_one.new.store c.args.group c.args.self.now c.loop-action.self c.args.actions.now c.loop-action.action-index c.action-item.result _
    c.loop-action-test.true c.action-item.is so_far.one_set so_far.steps so_far.made c.in_err-act_one.ensures.refused))

pub returns-clause-places : goal.returns-clause-places
returns-clause-places g c =
    subst (λ (actions : List Action). MakesAll c.args.store.now c.loop-action.store c.args.group c.args.self.now c.loop-action.self actions)
    (take_all c.loop-action.action-index c.args.actions.now c.loop-action-test.false) c.loop-action.invariant.made

pub returns-clause-value : goal.returns-clause-value
returns-clause-value g c = λ stored planned objects own blocks pool readings plain plans are tell spells.
    let done = c.loop-action.invariant.value stored planned plans tell in (
      done.0,
      done.1,
      done.2,
      subst (λ (actions : List Action). AreActed c.args.group objects planned done.0 c.args.self.now c.loop-action.self pool (fold (λ p a. changed c.args.group p a.change) plain actions))
          (take_all c.loop-action.action-index c.args.actions.now c.loop-action-test.false) (done.3 objects own blocks pool readings plain are spells),
    )

pub returns-in_err-act_one-clause-next : goal.returns-in_err-act_one-clause-next
returns-in_err-act_one-clause-next g c =
    let so_far = c.loop-action.invariant.next in
    let one = c.act_one.ensures.next in
    (omega (arith, so_far.0, one.0), omega (arith, so_far.1, one.1, c.loop-action-test.true))

pub returns-in_err-act_one-clause-caused : goal.returns-in_err-act_one-clause-caused
returns-in_err-act_one-clause-caused g c =
    let so_far = c.loop-action.invariant in
    passed_on _ _ _ c.from_residual.ensures.1
    (⊎_elim (λ cause. inl (caused_behind c.args.store.now c.loop-action.store c.act_one.new.store [] _ so_far.steps cause))
    (λ lacks. inr (lacks.0, lacks_of c.args.self.now c.loop-action.self c.args.actions.now c.loop-action.action-index c.action-item.result so_far.bounds so_far.next.1 c.loop-action-test.true c.action-item.is lacks.1))
    c.in_err-act_one.ensures.caused)

pub returns-clause-next : goal.returns-clause-next
returns-clause-next g c =
    let so_far = c.loop-action.invariant.next in
    (so_far.0, omega (arith, so_far.1, c.loop-action.invariant.within_list))

pub returns-clause-idle : goal.returns-clause-idle
returns-clause-idle g c = c.loop-action.invariant.idle
