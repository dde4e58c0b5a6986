-- A run of a pool on its own disks: it runs on, with the uberblocks of the groups that were committed.
use Rattle.std.proofs.Common.{◌≡◌, ⊎_elim, ℕ, suc, List, [], ◌∷◌, Option, Some, refl, sym, ap, subst, ◌∙◌}
use Rattle.uberblock_ring.specs.declared.uberblock.Uberblock.{Uberblock}
use Rattle.vdev_label.specs.Plain.{PlainVdev}
use Rattle.pool_create.specs.Backs.{HasPlan, IsPlanOf}
use Rattle.pool_create.specs.CommitPlanned.{Planned}
use Rattle.pool_create.specs.CommitState.{NoneIsOut}
use Rattle.pool_create.specs.CoreRuns.{Chain}
use Rattle.pool_create.specs.CoreState.{CoreState}
use Rattle.pool_format.specs.declared.labeling.PoolIdentity.{PoolIdentity}
use Rattle.pool_model.specs.View.{Given, View}
use Rattle.pool_model.specs.declared.step.Reply.{Reply}
use Rattle.pool_model.specs.declared.step.Step.{Step}
use Rattle.pool_slots.specs.Commits.{IsNextGroup}
use Rattle.pool_stops.specs.OneConfig.{IsRunningAs}
use Rattle.pool_stops.specs.OwnRunning.{IsOnItsDisks, StepsOnItsDisks, StepsStayOnTheirDisks}
use Rattle.pool_stops.specs.Running.{IsNextOf, IsRunning, NoneWasOut}
use Rattle.pool_lives.specs.Tales.{AreCommitted}

-- ---- one step

-- a plan's uberblock is that of the next group
pub next_group : (core : CoreState) (v : View) (last : Uberblock) (before : List Uberblock) → IsRunning core v last before → (plan : Planned)
    → core.commit.planned ≡ Some plan → IsNextGroup last plan.uberblock
next_group core v last before runs plan is =
    let blocks = runs.represents.backs.blocks in
    let has : HasPlan core.commit blocks.planned plan v = subst (λ (o : Option Planned). IsPlanOf core.commit blocks.planned o v) is blocks.plan in (
      ap (λ (u : Uberblock). u.claim) has.uberblock.is ∙ sym runs.claim,
      ap (λ (u : Uberblock). u.group) has.uberblock.is ∙ ap suc (sym runs.group),
    )

module _ {pool : PoolIdentity} {vdevs : List PlainVdev} {digest : List ℕ} {old : CoreState} {v : View} {new : CoreState} {w : View} {last : Uberblock}
    {before : List Uberblock} where
  -- which uberblock is the last one behind the step
  pub next_of : (it : StepsOnItsDisks pool vdevs digest old v new w last before) → IsNextOf old.commit last before it.stops.at.steps.later it.stops.at.steps.earlier
  next_of it =
      subst (λ (x : Uberblock × List Uberblock). IsNextOf old.commit x.0 x.1 it.stops.at.steps.later it.stops.at.steps.earlier)
      (λ j. (it.last_is j, it.before_is j)) it.stops.at.steps.next

-- ---- runs

-- the core runs on its own disks, and these were committed since
pub record RunsOn (pool : PoolIdentity) (vdevs : List PlainVdev) (digest : List ℕ) (last : Uberblock) (before : List Uberblock) (core : CoreState) (v : View)
    : Type 0 where
  pub later : Uberblock
  pub earlier : List Uberblock
  pub commits : List Uberblock
  pub committed : AreCommitted last before commits later earlier
  pub so : IsRunningAs digest core v later earlier
  pub on : IsOnItsDisks pool vdevs core later earlier

with_step : (pool : PoolIdentity) (vdevs : List PlainVdev) (digest : List ℕ) (old : CoreState) (v : View) (last : Uberblock) (before : List Uberblock)
    (mid : Uberblock) (early : List Uberblock) (core : CoreState) (w : View) → IsRunning old v last before → IsNextOf old.commit last before mid early
    → RunsOn pool vdevs digest mid early core w → RunsOn pool vdevs digest last before core w
with_step pool vdevs digest old v last before mid early core w runs next rest =
    let Rest : Uberblock × List Uberblock → Type 0 = λ x. RunsOn pool vdevs digest x.0 x.1 core w in
    ⊎_elim
    (λ same. subst Rest (λ j. (same.0 j, same.1 j)) rest)
    (λ (plan, is, later, earlier).
    let behind : RunsOn pool vdevs digest plan.uberblock (last ∷ before) core w = subst Rest (λ j. (later j, earlier j)) rest in
    record {
      later = behind.later;
      earlier = behind.earlier;
      commits = plan.uberblock ∷ behind.commits;
      committed = (next_group old v last before runs plan is, behind.committed);
      so = behind.so;
      on = behind.on;
    })
    next

pub chain_on : NoneWasOut → StepsStayOnTheirDisks → (pool : PoolIdentity) (vdevs : List PlainVdev) (digest : List ℕ) (old : CoreState) (v : View)
    (steps : List Step) (givens : List Given) (replies : List Reply) (new : CoreState) (w : View) (last : Uberblock) (before : List Uberblock)
    → IsRunningAs digest old v last before → IsOnItsDisks pool vdevs old last before → Chain old v steps givens replies new w → NoneIsOut new.commit
    → RunsOn pool vdevs digest last before new w
chain_on none_was law pool vdevs digest old v [] [] [] new w last before so on chain none = record {
  later = last;
  earlier = before;
  commits = [];
  committed = (refl, refl);
  so = subst (λ (p : CoreState × View). IsRunningAs digest p.0 p.1 last before) (λ i. (chain.0 i, chain.1 i)) so;
  on = subst (λ (core : CoreState). IsOnItsDisks pool vdevs core last before) chain.0 on;
}
chain_on none_was law pool vdevs digest old v (step ∷ steps) (given ∷ givens) (reply ∷ replies) new w last before so on chain none =
    let it = law pool vdevs digest old chain.0 v chain.1 step given reply last before so on chain.3 chain.4
    (none_was chain.0 new chain.1 w steps givens replies chain.5 none) in
    let mid = it.stops.at.steps in
    with_step pool vdevs digest old v last before mid.later mid.earlier new w so.runs (next_of it)
    (chain_on none_was law pool vdevs digest chain.0 chain.1 steps givens replies new w mid.later mid.earlier it.stops.on it.on.on chain.5 none)
chain_on none_was law pool vdevs digest old v steps givens replies new w last before so on chain none = absurd chain
