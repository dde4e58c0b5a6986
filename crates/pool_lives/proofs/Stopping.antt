-- A run that is stopped: what is left leads to the pool of the last committed group, or to that of the next one too.
use Rattle.std.proofs.Common.{◌≡◌, ◌⊎◌, inl, inr, ⊎_elim, ◌<◌, ◌≤◌, ℕ, suc, Bool, true, false, List, [], ◌∷◌, ◌++◌, length, refl, sym, ap, subst, ◌∙◌, arith}
use Rattle.model_disk.specs.Joint.{Disks, JointCall, MayLeaveAll}
use Rattle.model_disk.specs.Runs.{IsMoment}
use Rattle.block_store.specs.Places.{shapes_of}
use Rattle.block_store.specs.Store.{is_out}
use Rattle.block_store.specs.declared.shape.VdevShape.{VdevShape}
use Rattle.uberblock_ring.specs.declared.uberblock.Uberblock.{Uberblock}
use Rattle.vdev_label.specs.Plain.{PlainVdev}
use Rattle.pool_create.specs.CommitState.{NoneIsOut, State}
use Rattle.pool_create.specs.CoreRuns.{Chain}
use Rattle.pool_create.specs.CoreState.{CoreState, disks_of}
use Rattle.pool_create.specs.CoreSteps.{Link}
use Rattle.pool_create.specs.Moves.{Moves}
use Rattle.pool_format.specs.declared.labeling.PoolIdentity.{PoolIdentity}
use Rattle.pool_model.specs.Machine.{Run, StepOf}
use Rattle.pool_model.specs.View.{Given, View, nothing_given}
use Rattle.pool_model.specs.declared.refusal.Refusal.TheVariants.{NoMemory}
use Rattle.pool_model.specs.declared.step.Reply.{Reply}
use Rattle.pool_model.specs.declared.step.Reply.TheVariants.{Refused}
use Rattle.pool_model.specs.declared.step.Step.{Step}
use Rattle.pool_model.specs.declared.step.Step.TheVariants.{Hold}
use Rattle.pool_slots.specs.Commits.{last_or, only_last, IsNextGroup}
use Rattle.pool_slots.specs.Possible.{Possible}
use Rattle.pool_slots.specs.Slots.{AreUntorn}
use Rattle.pool_stops.specs.Begun.{IsBegun, IsPossibleNow, StoppedStepsLeadToOwnPools, at_stop}
use Rattle.pool_stops.specs.OneConfig.{IsRunningAs}
use Rattle.pool_stops.specs.OwnReopening.{LeadToOwnPools}
use Rattle.pool_stops.specs.OwnRunning.{IsOnItsDisks, StepsStayOnTheirDisks}
use Rattle.pool_stops.specs.Reopening.{LeavesImages}
use Rattle.pool_stops.specs.Running.{IsNextOf, IsRunning, IsWhole, NoneWasOut, pool_of}
use Rattle.pool_lives.specs.Tales.{AreAllTrusted, AreCommitted}
use Rattle.pool_lives.proofs.Chains.{next_group, next_of}
use Rattle.pool_lives.proofs.Moments.{chain_grew, within_first, within_second}
use Rattle.pool_lives.proofs.Resting.{rests}

-- the laws that this rests on
pub record StopLaws : Type 0 where
  pub none_was : NoneWasOut
  pub stay : StepsStayOnTheirDisks
  pub lead : StoppedStepsLeadToOwnPools

-- the last one is possible, or also one of the next group, of which a slot was begun
abbrev pub IsLastOrNext : Uberblock → List Uberblock → Disks → Possible → Type 0
IsLastOrNext last before at p =
    (p ≡ only_last last before) ⊎ ((next : Uberblock) × IsNextGroup last next × IsBegun next at × (p ≡ last_or last before next))

-- Some of the steps were taken, and the disks lead to the pools of that moment.
pub record Stopped (pool : PoolIdentity) (vdevs : List PlainVdev) (digest : List ℕ) (v : View) (last : Uberblock) (before : List Uberblock) (steps : List Step)
    (at : Disks) (images : List (List ℕ)) : Type 0 where
  pub taken : List Step
  pub rest : List Step
  pub whole : taken ++ rest ≡ steps
  pub givens : List Given
  pub trusted : AreAllTrusted givens
  pub replies : List Reply
  pub w : View
  pub run : Run v taken givens replies w
  pub later : Uberblock
  pub earlier : List Uberblock
  pub commits : List Uberblock
  pub committed : AreCommitted last before commits later earlier
  pub group : w.committed ≡ later.group
  pub p : Possible
  pub which : IsLastOrNext later earlier at p
  pub shapes : List VdevShape
  pub out : List Bool
  pub led : LeadToOwnPools pool vdevs digest images shapes out p (pool_of w)

-- ---- in the first step

last_or_next : (core : CoreState) (v : View) (last : Uberblock) (before : List Uberblock) (at : Disks) (p : Possible) → IsRunning core v last before
    → IsPossibleNow core.commit last before at p → IsLastOrNext last before at p
last_or_next core v last before at p runs which = ⊎_elim
    (λ only. inl only)
    (λ (plan, is, begun, both). inr (plan.uberblock, next_group core v last before runs plan is, begun, both))
    which

stops_here : StopLaws → (pool : PoolIdentity) (vdevs : List PlainVdev) (digest : List ℕ) (old new : CoreState) (v w : View) (step : Step) (given : Given)
    (reply : Reply) (last : Uberblock) (before : List Uberblock) (steps : List Step) (images : List (List ℕ)) → IsRunningAs digest old v last before
    → IsOnItsDisks pool vdevs old last before → Link old v step given reply new w → Moves step old.commit new.commit → NoneIsOut new.commit
    → (leaves : LeavesImages old.commit.store.out (disks_of old) (disks_of new) images)
    → Stopped pool vdevs digest v last before steps (at_stop leaves) images
stops_here laws pool vdevs digest old new v w step given reply last before steps images so on link moves none leaves =
    let it = laws.lead pool vdevs digest old new v w step given reply last before images so on link moves none leaves in
    record {
      taken = [];
      rest = steps;
      whole = refl;
      givens = [];
      trusted = tt;
      replies = [];
      w = v;
      run = refl;
      later = last;
      earlier = before;
      commits = [];
      committed = (refl, refl);
      group = sym so.runs.group;
      p = it.0;
      which = last_or_next old v last before (at_stop leaves) it.0 so.runs it.1;
      shapes = shapes_of old.commit.store.spaces;
      out = old.commit.store.out;
      led = it.2;
    }

-- ---- in a later one

with_step : (pool : PoolIdentity) (vdevs : List PlainVdev) (digest : List ℕ) (old : CoreState) (v between : View) (last : Uberblock) (before : List Uberblock)
    (mid : Uberblock) (early : List Uberblock) (step : Step) (given : Given) (reply : Reply) (steps : List Step) (at : Disks) (images : List (List ℕ))
    → IsRunning old v last before → IsNextOf old.commit last before mid early → StepOf v given step reply between → given.trusted ≡ true
    → Stopped pool vdevs digest between mid early steps at images → Stopped pool vdevs digest v last before (step ∷ steps) at images
with_step pool vdevs digest old v between last before mid early step given reply steps at images runs next is trusted it =
    let more = ⊎_elim
    (λ same. (it.commits, subst (λ (x : Uberblock × List Uberblock). AreCommitted x.0 x.1 it.commits it.later it.earlier) (λ j. (same.0 j, same.1 j)) it.committed))
    (λ (plan, planned, later, earlier). (
      plan.uberblock ∷ it.commits,
      (
        next_group old v last before runs plan planned,
        subst (λ (x : Uberblock × List Uberblock). AreCommitted x.0 x.1 it.commits it.later it.earlier) (λ j. (later j, earlier j)) it.committed,
      ),
    ))
    next in
    let all : (commits : List Uberblock) × AreCommitted last before commits it.later it.earlier = more in
    record {
      taken = step ∷ it.taken;
      rest = it.rest;
      whole = ap (λ xs. step ∷ xs) it.whole;
      givens = given ∷ it.givens;
      trusted = (trusted, it.trusted);
      replies = reply ∷ it.replies;
      w = it.w;
      run = (between, is, it.run);
      later = it.later;
      earlier = it.earlier;
      commits = all.0;
      committed = all.1;
      group = it.group;
      p = it.p;
      which = it.which;
      shapes = it.shapes;
      out = it.out;
      led = it.led;
    }

-- two lists of as many flags, none of which is set
same_flags : (out other : List Bool) → length other ≡ length out → ((disk : ℕ) → is_out out disk ≡ false) → ((disk : ℕ) → is_out other disk ≡ false)
    → other ≡ out
same_flags [] [] count none none' = refl
same_flags [] (b ∷ other) count none none' = absurd (cc)
same_flags (a ∷ out) [] count none none' = absurd (cc)
same_flags (a ∷ out) (b ∷ other) count none none' =
    let rest : length other ≡ length out = omega (arith, count) in
    (λ i. (none' 0 ∙ sym (none 0)) i ∷ same_flags out other rest (λ disk. none (suc disk)) (λ disk. none' (suc disk)) i)

same_out : (old new : State) → IsWhole old → IsWhole new → new.store.disks.starts ≡ old.store.disks.starts → new.store.out ≡ old.store.out
same_out old new was is starts = same_flags old.store.out new.store.out (is.count ∙ ap length starts ∙ sym was.count) was.none is.none

below_or : (k n : ℕ) → (k < n) ⊎ (n ≤ k)
below_or k n = grind arith

pub chain_stops : StopLaws → (pool : PoolIdentity) (vdevs : List PlainVdev) (digest : List ℕ) (images : List (List ℕ)) (calls : List JointCall)
    (old : CoreState) (v : View) (steps : List Step) (givens : List Given) (replies : List Reply) (new : CoreState) (w : View) (last : Uberblock)
    (before : List Uberblock) → IsRunningAs digest old v last before → IsOnItsDisks pool vdevs old last before
    → Chain old v steps givens replies new w → AreAllTrusted givens → NoneIsOut new.commit → IsMoment (length (disks_of old).calls) (disks_of new).calls calls
    → MayLeaveAll (disks_of old).starts calls images → AreUntorn old.commit.store.out (disks_of old).starts calls images
    → Stopped pool vdevs digest v last before steps (record { starts = (disks_of old).starts; calls = calls }) images
chain_stops laws pool vdevs digest images calls old v [] [] [] new w last before so on chain trusted none moment left untorn =
    stops_here laws pool vdevs digest old old v v (Hold 0) nothing_given (Refused NoMemory) last before [] images so on (rests old v so.runs.represents) refl
    so.runs.whole.none (record {
      calls = calls;
      moment = subst (λ (s : CoreState). IsMoment (length (disks_of old).calls) (disks_of s).calls calls) (sym chain.0) moment;
      left = left;
      untorn = untorn;
    })
chain_stops laws pool vdevs digest images calls old v (step ∷ steps) (given ∷ givens) (reply ∷ replies) new w last before so on chain trusted none moment left untorn =
    let mid : CoreState = chain.0 in
    let between : View = chain.1 in
    let was : NoneIsOut mid.commit = laws.none_was mid new between w steps givens replies chain.5 none in
    let it = laws.stay pool vdevs digest old mid v between step given reply last before so on chain.3 chain.4 was in
    let at = it.stops.at.steps in
    ⊎_elim
    (λ (more : length (disks_of mid).calls < length calls).
    let starts : (disks_of mid).starts ≡ (disks_of old).starts = chain.2.starts in
    let out : mid.commit.store.out ≡ old.commit.store.out = same_out old.commit mid.commit so.runs.whole it.stops.on.runs.whole starts in
    let moment_of : List (List ℕ) → Disks = λ s. record { starts = s; calls = calls } in
    with_step pool vdevs digest old v between last before at.later at.earlier step given reply steps (moment_of (disks_of old).starts) images so.runs
    (next_of it) chain.3.is_step trusted.0
    (subst (λ s. Stopped pool vdevs digest between at.later at.earlier steps (moment_of s) images) starts
    (chain_stops laws pool vdevs digest images calls mid between steps givens replies new w at.later at.earlier it.stops.on it.on.on chain.5 trusted.1 none
    (within_second (disks_of old) (disks_of mid) (disks_of new) calls moment more)
    (subst (λ s. MayLeaveAll s calls images) (sym starts) left)
    (subst (λ (x : List Bool × List (List ℕ)). AreUntorn x.0 x.1 calls images) (λ j. (sym out j, sym starts j)) untorn))))
    (λ (few : length calls ≤ length (disks_of mid).calls).
    stops_here laws pool vdevs digest old mid v between step given reply last before (step ∷ steps) images so on chain.3 chain.4 was (record {
      calls = calls;
      moment = within_first (disks_of old) (disks_of mid) (disks_of new) calls chain.2 (chain_grew mid between steps givens replies new w chain.5) moment few;
      left = left;
      untorn = untorn;
    }))
    (below_or (length (disks_of mid).calls) (length calls))
chain_stops laws pool vdevs digest images calls old v steps givens replies new w last before so on chain trusted none moment left untorn = absurd chain
