-- The step of a pool that runs with which a group is committed.
use Rattle.std.proofs.Common.{ℕ, suc, ◌≡◌, inl, inr, ⊎_elim, ◌<◌, ◌≤◌, Bool, true, false, List, ◌∷◌, length, Option, Some, None, refl, sym, ap, subst, ◌∙◌, arith}
use Rattle.std.specs.Prelude.{◌==◌, if◌then◌else◌}
use Rattle.std.proofs.lemmas.Bool.Decides.{nat_tests}
use Rattle.uberblock_ring.specs.declared.uberblock.Uberblock.{Uberblock}
use Rattle.pool_create.specs.Kept.{Kept}
use Rattle.pool_create.specs.CommitPlanned.{Planned}
use Rattle.pool_create.specs.Backs.{Backs, HasPlan, IsPlanOf}
use Rattle.pool_create.specs.Progress.{IsShifted}
use Rattle.pool_create.specs.CommitState.{NoneIsOut, group_at}
use Rattle.pool_create.specs.CommitWriting.{WritesPlan}
use Rattle.pool_create.specs.CoreState.{CoreState}
use Rattle.pool_create.specs.CoreSteps.{Link}
use Rattle.pool_create.proofs.CorePhases.{group_low}
use Rattle.pool_model.specs.Pools.{PlainPool}
use Rattle.pool_model.specs.View.{Given, View}
use Rattle.pool_model.specs.declared.step.Reply.{Reply}
use Rattle.pool_model.specs.declared.step.Step.TheVariants as steps
use Rattle.pool_slots.specs.Commits.{only_last}
use Rattle.pool_slots.specs.Possible.{IsInReach}
use Rattle.pool_create.specs.Words.{stamp_of}
use Rattle.pool_slots.specs.Slots.{AreSettled}
use Rattle.volume_rules.specs.NowMoves.{IsMadeBy}
use Rattle.pool_stops.specs.Phases.{IsInPhase, IsInSlots, StepEnds}
use Rattle.pool_stops.specs.Running.{IsOfKept, IsRunning, IsWhole, StandAt, StepsOn}
use Rattle.pool_stops.proofs.Steps.{HasShown, MissesNone, PhaseLaws, committed_so, first_or, good, has_shown, is_last_or_before, its_group, pools_stay, same_flags, slots_stand, stops_in_slots, was_in_slots, whole_still}

-- ---- kept groups by their numbers

same_number : (n m : ℕ) → n ≡ m → (n == m) ≡ true
same_number n m same = grind (arith, nat_tests, same)

other_number : (n m : ℕ) → n < m → (n == m) ≡ false
other_number n m less = grind (arith, nat_tests, less)

pub group_at_last : (k : Kept) (n : ℕ) → n ≡ k.committed → group_at k n ≡ Some k.last
group_at_last k n same =
    ap (λ b. if b then Some k.last else (if suc n == k.committed then k.before else (if suc (suc n) == k.committed then k.earliest else None))) (same_number n k.committed same)

group_at_before : (k : Kept) (n : ℕ) → suc n ≡ k.committed → group_at k n ≡ k.before
group_at_before k n same =
    ap (λ b. if b then Some k.last else (if suc n == k.committed then k.before else (if suc (suc n) == k.committed then k.earliest else None)))
    (other_number n k.committed (omega (arith, same)))
    ∙ ap (λ b. if b then k.before else (if suc (suc n) == k.committed then k.earliest else None)) (same_number (suc n) k.committed same)

group_at_earliest : (k : Kept) (n : ℕ) → suc (suc n) ≡ k.committed → group_at k n ≡ k.earliest
group_at_earliest k n same =
    ap (λ b. if b then Some k.last else (if suc n == k.committed then k.before else (if suc (suc n) == k.committed then k.earliest else None)))
    (other_number n k.committed (omega (arith, same)))
    ∙ ap (λ b. if b then k.before else (if suc (suc n) == k.committed then k.earliest else None)) (other_number (suc n) k.committed (omega (arith, same)))
    ∙ ap (λ b. if b then k.earliest else None) (same_number (suc (suc n)) k.committed same)

-- ---- what is kept then

-- what a step that commits leaves of the groups
pub record IsCommitted (old new : CoreState) (v w : View) (plan : Planned) (last : Uberblock) (before : List Uberblock) : Type 0 where
  pub was : old.commit.kept.committed ≡ v.committed
  pub committed : new.commit.kept.committed ≡ suc v.committed
  pub now : w.committed ≡ suc v.committed
  pub shifted : IsShifted old.commit.kept plan.after new.commit.kept
  pub root : plan.after.root ≡ Some plan.uberblock.root
  pub group : plan.uberblock.group ≡ suc v.committed
  pub claim : plan.uberblock.claim ≡ last.claim
  pub stamped : stamp_of plan.uberblock ≡ new.commit.stamp
  pub stamp : new.commit.stamp ≡ old.commit.stamp
  pub made : IsMadeBy (suc v.committed) (w.pools (suc v.committed))
  pub stay : (n : ℕ) → n ≤ v.committed → w.pools n ≡ v.pools n

planned_kept : (old new : CoreState) (v w : View) (plan : Planned) (last : Uberblock) (before : List Uberblock) → IsCommitted old new v w plan last before
    → IsOfKept new.commit w plan.uberblock
planned_kept old new v w plan last before is = record {
  kept = plan.after;
  is = group_at_last new.commit.kept plan.uberblock.group (is.group ∙ sym is.committed) ∙ ap Some is.shifted.last;
  root = is.root;
  stamped = is.stamped;
  made = subst (λ n. IsMadeBy n (w.pools n)) (sym is.group) is.made;
}

-- the one that was the last
last_kept : (old new : CoreState) (v w : View) (plan : Planned) (last : Uberblock) (before : List Uberblock) → IsRunning old v last before
    → IsCommitted old new v w plan last before → IsOfKept old.commit v last → IsOfKept new.commit w last
last_kept old new v w plan last before runs is of = record {
  kept = of.kept;
  is = group_at_before new.commit.kept last.group (ap suc runs.group ∙ sym is.committed) ∙ is.shifted.before
      ∙ sym (group_at_last old.commit.kept last.group (runs.group ∙ sym is.was)) ∙ of.is;
  root = of.root;
  stamped = of.stamped ∙ sym is.stamp;
  made = subst (λ (p : PlainPool). IsMadeBy last.group p) (sym (is.stay last.group (omega (arith, runs.group)))) of.made;
}

-- and the one before it
earlier_kept : (old new : CoreState) (v w : View) (plan : Planned) (last : Uberblock) (before : List Uberblock) (u : Uberblock) → IsRunning old v last before
    → IsCommitted old new v w plan last before → suc u.group ≡ v.committed → IsOfKept old.commit v u → IsOfKept new.commit w u
earlier_kept old new v w plan last before u runs is number of = record {
  kept = of.kept;
  is = group_at_earliest new.commit.kept u.group (ap suc number ∙ sym is.committed) ∙ is.shifted.earliest
      ∙ sym (group_at_before old.commit.kept u.group (number ∙ sym is.was)) ∙ of.is;
  root = of.root;
  stamped = of.stamped ∙ sym is.stamp;
  made = subst (λ (p : PlainPool). IsMadeBy u.group p) (sym (is.stay u.group (omega (arith, number)))) of.made;
}

now_kept : (old new : CoreState) (v w : View) (plan : Planned) (last : Uberblock) (before : List Uberblock) (u : Uberblock) → IsRunning old v last before
    → IsCommitted old new v w plan last before → IsInReach (only_last plan.uberblock (last ∷ before)) u → IsOfKept new.commit w u
now_kept old new v w plan last before u runs is reach = ⊎_elim
    (λ same. subst (λ (x : Uberblock). IsOfKept new.commit w x) (sym same) (planned_kept old new v w plan last before is))
    (λ earlier. ⊎_elim
    (λ same. subst (λ (x : Uberblock). IsOfKept new.commit w x) (sym same)
    (last_kept old new v w plan last before runs is (runs.kept last (inl (0, omega arith, refl)))))
    (λ among.
    let claim : u.claim ≡ last.claim = earlier.claim ∙ is.claim in
    let low : u.group < last.group = runs.lower u among claim in
    let number : suc u.group ≡ v.committed = omega (arith, low, runs.group, earlier.near, is.group) in
    earlier_kept old new v w plan last before u runs is number
    (runs.kept u (inr (record { among = among; claim = claim; lower = low; near = omega (arith, number, runs.group) }))))
    (first_or last before u earlier.among))
    (is_last_or_before plan.uberblock (last ∷ before) u reach)

-- ---- the step

is_committed : (old new : CoreState) (v w : View) (given : Given) (reply : Reply) (plan : Planned) (last : Uberblock) (before : List Uberblock) → IsRunning old v last before
    → Link old v steps.Device given reply new w → old.commit.planned ≡ Some plan → IsShifted old.commit.kept plan.after new.commit.kept → new.commit.stamp ≡ old.commit.stamp
    → IsCommitted old new v w plan last before
is_committed old new v w given reply plan last before runs link is shifted stamp =
    let backs : Backs old.commit v = runs.represents.backs in
    let has : HasPlan old.commit backs.blocks.planned plan v = subst (λ (o : Option Planned). IsPlanOf old.commit backs.blocks.planned o v) is backs.blocks.plan in
    let low = group_low old.intake v runs.represents.follows in
    let committed : new.commit.kept.committed ≡ suc v.committed =
    shifted.committed (omega (arith, low, backs.committed)) ∙ ap suc backs.committed in
    let now : w.committed ≡ suc v.committed = sym link.represents.backs.committed ∙ committed in
    record {
      was = backs.committed;
      committed = committed;
      now = now;
      shifted = shifted;
      root = has.uberblock.is_root ∙ ap (λ (u : Uberblock). Some u.root) (sym has.uberblock.is);
      group = its_group old v plan last before runs is;
      claim = (good old v plan last before runs is).next.0;
      stamped = ap stamp_of has.uberblock.is ∙ sym stamp;
      stamp = stamp;
      made = subst (λ n. IsMadeBy n (w.pools n)) now link.represents.follows.made;
      stay = λ n below. pools_stay v given steps.Device reply w runs.represents.follows.sound link.is_step n (omega (arith, below, now)) below;
    }

pub commits : (old new : CoreState) (v w : View) (given : Given) (reply : Reply) (plan : Planned) (last : Uberblock) (before : List Uberblock) → PhaseLaws
    → IsRunning old v last before → Link old v steps.Device given reply new w → MissesNone new.commit → WritesPlan old.commit new.commit → NoneIsOut new.commit → old.commit.planned ≡ Some plan
    → new.commit.planned ≡ None → IsShifted old.commit.kept plan.after new.commit.kept → StepsOn old v new w last before
commits old new v w given reply plan last before laws runs link misses writes none is gone shifted =
    let so : IsCommitted old new v w plan last before = is_committed old new v w given reply plan last before runs link is shifted writes.stamp in
    let starts = (writes.makes plan is).starts in
    let out : new.commit.store.out ≡ old.commit.store.out = same_flags old.commit.store.out new.commit.store.out writes.out.count runs.whole.none none in
    let whole : IsWhole new.commit = whole_still old.commit new.commit runs.whole none misses writes.out.count starts writes.shapes in
    let answer = committed_so v given reply w link.is_step (λ same. absurd (omega (arith, same, so.now))) in
    let has : HasShown old.commit new.commit plan =
    has_shown old new v w given reply plan answer.0 link whole (omega (arith, runs.whole.count, ap length starts)) is answer.1 in
    let phase : IsInPhase old.commit plan last before = subst (λ (o : Option Planned). StandAt old.commit o last before) is runs.stand in
    let slots : IsInSlots old.commit plan last before = was_in_slots old v new.commit plan last before laws runs is writes has starts phase in
    let ends : StepEnds old.commit plan new.commit =
    record { writes = writes; planned = is; out = out; stand = slots_stand old.commit new.commit plan has; settled = has.settled } in
    let went = laws.ends old.commit new.commit plan last before (good old v plan last before runs is) ends slots in
    let settled : AreSettled new.commit.store.out new.commit.store.disks.calls =
    subst (λ (flags : List Bool). AreSettled flags new.commit.store.disks.calls) (sym out) has.settled in
    record {
      later = plan.uberblock;
      earlier = last ∷ before;
      next = inr (plan, is, refl, refl);
      runs = record {
        represents = link.represents;
        whole = whole;
        claim = so.claim ∙ runs.claim ∙ ap (λ st. st.claim) (sym writes.stamp);
        group = so.group ∙ sym so.now;
        lower = λ u among claim. ⊎_elim
            (λ same. let e = ap (λ (x : Uberblock). x.group) same in omega (arith, e, runs.group, so.group))
            (λ rest. let low = runs.lower u rest (claim ∙ so.claim) in omega (arith, low, runs.group, so.group)) (first_or last before u among);
        kept = λ u reach. now_kept old new v w plan last before u runs so reach;
        stand = subst (λ (o : Option Planned). StandAt new.commit o plan.uberblock (last ∷ before)) (sym gone) (record { blocks = went.0; settled = settled });
      };
      stops = stops_in_slots old v new.commit.store.disks plan last before runs is so.group slots.written went.1;
    }
