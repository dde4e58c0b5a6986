-- Stops in a step: until a slot of the plan's uberblock is begun, what is left leads to the last committed one alone.
use Rattle.std.proofs.Common.{ℕ, zero, suc, ◌≡◌, ◌⊎◌, inl, inr, ⊎_elim, ◌≤◌, Bool, true, false, List, [], ◌∷◌, ◌++◌, length, Option, Some, None, Contains, All, refl, sym, ap, subst, ◌∙◌, arith}
use Rattle.std.proofs.lemmas.List.{append_cancel_right, length-append}
use Rattle.std.proofs.lemmas.List.Elements.{All-cons, All-head, All-nil, All-tail, Contains-append_left, Contains-append_right}
use Rattle.std.proofs.Common.{append_assoc}
use Rattle.model_disk.specs.Call.{Call, FailedFlush, FailedRead, FailedWrite, Flushed, Read, Wrote}
use Rattle.model_disk.specs.Joint.{Disks, JointCall, bytes_of, on}
use Rattle.model_disk.specs.Runs.{IsMoment, Makes, WritesOnly, no_write}
use Rattle.model_disk.proofs.RunLemmas.{Makes-wider}
use Rattle.block_store.specs.Places.{shapes_of}
use Rattle.block_store.specs.declared.shape.VdevShape.{VdevShape}
use Rattle.uberblock_ring.specs.Slot.{slot_number}
use Rattle.uberblock_ring.specs.declared.uberblock.Uberblock.{Uberblock}
use Rattle.vdev_label.specs.Plain.{PlainVdev}
use Rattle.pool_create.specs.CommitPlanned.{Planned}
use Rattle.pool_create.specs.CommitState.{State}
use Rattle.pool_create.specs.CommitWriting.{IsDueSlot, may_write}
use Rattle.pool_create.specs.CoreState.{CoreState}
use Rattle.pool_create.specs.Moves.{Moves}
use Rattle.pool_format.specs.declared.labeling.PoolIdentity.{PoolIdentity}
use Rattle.pool_model.specs.Pools.{PlainPool}
use Rattle.pool_model.specs.View.{View}
use Rattle.pool_model.specs.declared.step.Step.{Step}
use Rattle.pool_model.specs.declared.step.Step.TheVariants.{Hold, Write, Act, Release, Close, Quiesce, Plan, Device, DiskOut, Read as ReadStep, ReadUnder}
use Rattle.pool_slots.specs.Commits.{LeadAlways, last_or, only_last, IsNextGroup}
use Rattle.pool_slots.specs.PhaseLaws.{BlocksBegin, BlocksGoOn}
use Rattle.pool_slots.specs.Phases.{AreInBlocks, AreInSlots, free_writes, if_used}
use Rattle.pool_slots.specs.Possible.{IsAllowed, IsInReach, Leads, Possible, Trees, held_by}
use Rattle.pool_slots.specs.Slots.{InUse, IsOutOfReach, Shows, slot_at, spelled}
use Rattle.pool_slots.specs.Writes.{IsSlotWrite, in_use}
use Rattle.pool_slots.proofs.SlotPhases.{same_shown}
use Rattle.pool_stops.specs.Begun.{IsBegun, StoppedStepsLeadToOwnPools, at_stop}
use Rattle.pool_stops.specs.OwnReopening.{LeadToOwnPools}
use Rattle.pool_stops.specs.OwnRunning.{StepsStayOnTheirDisks}
use Rattle.pool_stops.specs.Phases.{IsGoodPlan, IsInPhase}
use Rattle.pool_stops.specs.Running.{IsPossibleOf, IsRunning, StandAt, pool_of}
use Rattle.pool_stops.specs.Standing.{BlocksKeepWhatIsFilled, block_trees, filled_trees, unfilled_write}
use Rattle.pool_stops.specs.Stopping.{StoppedRunsLeaveDisks}
use Rattle.pool_stops.specs.WholePools.{StoppedRunsLeadWhole}
use Rattle.pool_stops.proofs.Phases.{is_empty, no_writes}
use Rattle.pool_stops.proofs.Steps.{first_or, good}

pub record BegunLaws : Type 0 where
  pub begin : BlocksBegin
  pub go_on : BlocksGoOn
  pub filled : BlocksKeepWhatIsFilled
  pub stay : StepsStayOnTheirDisks
  pub lead : StoppedRunsLeadWhole
  pub leave : StoppedRunsLeaveDisks

-- ---- writes among calls

none_among : {A : Type 0} (x : A) → ¬ Contains [] x
none_among x (k, within, is) = absurd (omega (arith, within))

-- one was made that may be made
record HasMade (may : ℕ → ℕ → List ℕ → Type 0) (calls : List JointCall) : Type 0 where
  pub which : ℕ
  pub at : ℕ
  pub bytes : List ℕ
  pub is : may which at bytes
  pub made : Contains calls (on which (Wrote at bytes)) ⊎ Contains calls (on which (FailedWrite at bytes))

abbrev are_made : (ℕ → ℕ → List ℕ → Type 0) → List JointCall → Type 0
are_made may calls = All (λ made. WritesOnly (may made.which) made.call) calls

first_made : {may : ℕ → ℕ → List ℕ → Type 0} (made : JointCall) (calls : List JointCall) → (at : ℕ) (bytes : List ℕ) → may made.which at bytes
    → (made.call ≡ Wrote at bytes) ⊎ (made.call ≡ FailedWrite at bytes) → HasMade may (made ∷ calls)
first_made made calls at bytes is how = record {
  which = made.which;
  at = at;
  bytes = bytes;
  is = is;
  made = ⊎_elim
      (λ same. inl (0, omega arith, ap (λ call. on made.which call) same))
      (λ same. inr (0, omega arith, ap (λ call. on made.which call) same))
      how;
}

later_made : {may : ℕ → ℕ → List ℕ → Type 0} (made : JointCall) (calls : List JointCall) → HasMade may calls → HasMade may (made ∷ calls)
later_made made calls it = record {
  which = it.which;
  at = it.at;
  bytes = it.bytes;
  is = it.is;
  made = ⊎_elim (λ has. inl (suc has.0, omega (arith, has.1), has.2)) (λ has. inr (suc has.0, omega (arith, has.1), has.2)) it.made;
}

-- whether a disk is in use
is_used : (out : List Bool) (which : ℕ) → InUse out which ⊎ ¬ InUse out which
is_used [] which = inr (λ used. absurd (cc used))
is_used (true ∷ out) zero = inr (λ used. absurd (cc used))
is_used (false ∷ out) zero = inl refl
is_used (flag ∷ out) (suc which) = is_used out which

-- of writes to disks in use one was made, or none
one_call : (may : ℕ → ℕ → List ℕ → Type 0) (out : List Bool) (made : JointCall) (calls : List JointCall) (call : Call) → made.call ≡ call
    → WritesOnly (if_used out may made.which) call → HasMade may (made ∷ calls) ⊎ WritesOnly (if_used out no_write made.which) call
one_call may out made calls (Read at bytes) is writes = inr tt
one_call may out made calls (FailedRead at n) is writes = inr tt
one_call may out made calls (Wrote at bytes) is writes = ⊎_elim
    (λ used. inl (first_made made calls at bytes (writes used) (inl is)))
    (λ unused. inr (λ used. unused used))
    (is_used out made.which)
one_call may out made calls (FailedWrite at bytes) is writes = ⊎_elim
    (λ used. inl (first_made made calls at bytes (writes used) (inr is)))
    (λ unused. inr (λ used. unused used))
    (is_used out made.which)
one_call may out made calls Flushed is writes = inr tt
one_call may out made calls FailedFlush is writes = inr tt

some_made : (may : ℕ → ℕ → List ℕ → Type 0) (out : List Bool) (calls : List JointCall) → are_made (if_used out may) calls
    → HasMade may calls ⊎ are_made (if_used out no_write) calls
some_made may out [] writes = inr (All-nil (λ made. WritesOnly (if_used out no_write made.which) made.call))
some_made may out (made ∷ calls) writes =
    let P : JointCall → Type 0 = λ it. WritesOnly (if_used out may it.which) it.call in
    ⊎_elim
    (λ has. inl has)
    (λ none. ⊎_elim
    (λ has. inl (later_made made calls has))
    (λ others. inr (All-cons (λ it. WritesOnly (if_used out no_write it.which) it.call) made calls none others))
    (some_made may out calls (All-tail P made calls writes)))
    (one_call may out made calls made.call refl (All-head P made calls writes))

-- ---- up to a moment

shorter_end : {X : Type 0} (more newer mid calls : List X) → more ++ mid ≡ newer ++ calls → length calls ≤ length mid → (front : List X) × (mid ≡ front ++ calls)
shorter_end [] newer mid calls same few = (newer, same)
shorter_end (x ∷ more) [] mid calls same few = absurd (omega (arith, few, ap length same, length-append more mid))
shorter_end (x ∷ more) (y ∷ newer) mid calls same few =
    let rest : more ++ mid ≡ newer ++ calls = cc in
    shorter_end more newer mid calls rest few

end_made : (P : JointCall → Type 0) (front back : List JointCall) → All P (front ++ back) → All P back
end_made P [] back all = all
end_made P (made ∷ front) back all = end_made P front back (All-tail P made (front ++ back) all)

abbrev until : Disks → List JointCall → Disks
until old calls = record { starts = old.starts; calls = calls }

made_until : (may : ℕ → ℕ → List ℕ → Type 0) (old new : Disks) (calls : List JointCall) → Makes may old new → IsMoment (length old.calls) new.calls calls
    → Makes may old (until old calls)
made_until may old new calls makes moment =
    let long : length old.calls ≤ length calls =
    ⊎_elim (λ whole. omega (arith, ap length whole, ap length makes.calls, length-append makes.newer old.calls)) (λ many. many) moment.since in
    let front = shorter_end moment.newer makes.newer calls old.calls (sym moment.is ∙ makes.calls) long in
    let parts : makes.newer ≡ moment.newer ++ front.0 =
    append_cancel_right makes.newer (moment.newer ++ front.0) old.calls
    (sym makes.calls ∙ moment.is ∙ ap (λ cs. moment.newer ++ cs) front.1 ∙ sym (append_assoc moment.newer front.0 old.calls)) in
    record {
      starts = refl;
      newer = front.0;
      calls = front.1;
      writes = end_made (λ made. WritesOnly (may made.which) made.call) moment.newer front.0
          (subst (λ cs. are_made may cs) parts makes.writes);
    }

-- ---- what a step makes

makes_none : (may : ℕ → ℕ → List ℕ → Type 0) (s new : State) → new.store.disks ≡ s.store.disks → Makes may s.store.disks new.store.disks
makes_none may s new same =
    subst (λ (d : Disks). Makes may s.store.disks d) (sym same) (record {
      starts = refl;
      newer = [];
      calls = refl;
      writes = All-nil (λ made. WritesOnly (may made.which) made.call);
    })

same_makes : (s new : State) (plan : Planned) → new ≡ s → Makes (may_write s plan) s.store.disks new.store.disks
same_makes s new plan same =
    subst (λ (it : State). Makes (may_write s plan) s.store.disks it.store.disks) (sym same) (record {
      starts = refl;
      newer = [];
      calls = refl;
      writes = All-nil (λ made. WritesOnly (may_write s plan made.which) made.call);
    })

makes_of : (step : Step) (s new : State) (plan : Planned) → Moves step s new → s.planned ≡ Some plan → Makes (may_write s plan) s.store.disks new.store.disks
makes_of (Hold x) s new plan moves is = same_makes s new plan moves
makes_of (Write x) s new plan moves is = same_makes s new plan moves
makes_of (Act x) s new plan moves is = same_makes s new plan moves
makes_of (Release x) s new plan moves is = same_makes s new plan moves
makes_of Close s new plan moves is = same_makes s new plan moves
makes_of Quiesce s new plan moves is = same_makes s new plan moves
makes_of (Plan t) s new plan moves is = ⊎_elim
    (λ same. same_makes s new plan same)
    (λ plans. let none : None ≡ Some plan = sym plans.unplanned ∙ is in absurd (cc))
    moves
makes_of Device s new plan moves is = ⊎_elim (λ same. same_makes s new plan same) (λ writes. writes.makes plan is) moves
makes_of (DiskOut d) s new plan moves is = ⊎_elim (λ same. same_makes s new plan same) (λ takes. makes_none (may_write s plan) s new takes.disks) moves
makes_of (ReadStep a b c) s new plan moves is = no_writes (may_write s plan) s.store.disks new.store.disks moves.reads
makes_of (ReadUnder n a b c) s new plan moves is = no_writes (may_write s plan) s.store.disks new.store.disks moves.reads

-- ---- the plan's slots

begun_by : (s : State) (u : Uberblock) (slots : _) (disks : Disks) (calls older : List JointCall) → disks.starts ≡ s.store.disks.starts
    → disks.calls ≡ calls ++ older → HasMade (IsDueSlot s.store.disks.starts u slots) calls → IsBegun u disks
unfolding slot_at spelled
begun_by s u slots disks calls older starts is it =
    let slot = it.is in
    let place : it.at ≡ slot_at (length (bytes_of disks.starts it.which)) slot.write.label (slot_number u.group) =
    slot.place ∙ (λ j. slot_at (length (bytes_of (sym starts j) (sym slot.disk j))) slot.write.label (slot_number u.group)) in
    record {
      which = it.which;
      label = slot.write.label;
      is_label = slot.is_label;
      made = ⊎_elim
          (λ has. inl (subst (λ (x : List JointCall × (ℕ × List ℕ)). Contains x.0 (on it.which (Wrote x.1.0 x.1.1))) (λ j. (sym is j, (place j, slot.same j)))
          (Contains-append_left calls older (on it.which (Wrote it.at it.bytes)) has)))
          (λ has. inr (subst (λ (x : List JointCall × (ℕ × List ℕ)). Contains x.0 (on it.which (FailedWrite x.1.0 x.1.1))) (λ j. (sym is j, (place j, slot.same j)))
          (Contains-append_left calls older (on it.which (FailedWrite it.at it.bytes)) has)))
          it.made;
    }

begun_before : (starts : List (List ℕ)) (u : Uberblock) (picks : ℕ → ℕ → Type 0) (disks : Disks) (front calls older : List JointCall) → disks.starts ≡ starts
    → disks.calls ≡ front ++ (calls ++ older) → HasMade (IsSlotWrite starts u picks) calls → IsBegun u disks
begun_before starts u picks disks front calls older same is it =
    let slot = it.is in
    let place : it.at ≡ slot_at (length (bytes_of disks.starts it.which)) slot.label (slot_number u.group) =
    slot.place ∙ (λ j. slot_at (length (bytes_of (sym same j) it.which)) slot.label (slot_number u.group)) in
    record {
      which = it.which;
      label = slot.label;
      is_label = slot.is_label;
      made = ⊎_elim
          (λ has. inl (subst (λ (x : List JointCall × (ℕ × List ℕ)). Contains x.0 (on it.which (Wrote x.1.0 x.1.1))) (λ j. (sym is j, (place j, slot.spells j)))
          (Contains-append_right front (calls ++ older) _ (Contains-append_left calls older (on it.which (Wrote it.at it.bytes)) has))))
          (λ has. inr (subst (λ (x : List JointCall × (ℕ × List ℕ)). Contains x.0 (on it.which (FailedWrite x.1.0 x.1.1))) (λ j. (sym is j, (place j, slot.spells j)))
          (Contains-append_right front (calls ++ older) _ (Contains-append_left calls older (on it.which (FailedWrite it.at it.bytes)) has))))
          it.made;
    }

-- the disks are in the blocks phase still, with some trees
record StillInBlocks (out : List Bool) (disks : Disks) (last : Uberblock) (before : List Uberblock) : Type 0 where
  pub trees : Trees
  pub phase : AreInBlocks trees out disks last before

-- with no write to a disk in use
still : BlocksGoOn → (trees : Trees) (out : List Bool) (old new : Disks) (last : Uberblock) (before : List Uberblock) → AreInBlocks trees out old last before
    → Makes (if_used out no_write) old new → AreInBlocks trees out new last before
still law trees out old new last before phase makes =
    (law trees out old new last before phase
    (Makes-wider (if_used out no_write) (free_writes trees out old.starts last before) old new (λ which at bytes none used. absurd (none used)) makes)).0

-- behind the blocks and their flushes the step writes slots, or nothing
slots_or_none : BegunLaws → (s : State) (plan : Planned) (trees : Trees) (last : Uberblock) (before : List Uberblock) (m : Disks)
    → s.store.due ≡ [] → (upto : Makes (may_write s plan) s.store.disks m)
    → IsBegun plan.uberblock m ⊎ Makes (if_used s.store.out no_write) s.store.disks m
slots_or_none laws s plan trees last before m due upto =
    let starts : List (List ℕ) = s.store.disks.starts in
    let may : ℕ → ℕ → List ℕ → Type 0 = IsDueSlot starts plan.uberblock plan.behind.slots.items in
    let slots : Makes (if_used s.store.out may) s.store.disks m =
    Makes-wider (may_write s plan) (if_used s.store.out may) s.store.disks m
    (λ which at bytes write used. ⊎_elim
    (λ block. absurd (none_among block.write (subst (λ xs. Contains xs block.write) due block.is_due)))
    (λ slot. slot.2) write) upto in
    ⊎_elim
    (λ has. inl (begun_by s plan.uberblock plan.behind.slots.items m slots.newer s.store.disks.calls slots.starts slots.calls has))
    (λ none. inr (record { starts = slots.starts; newer = slots.newer; calls = slots.calls; writes = none }))
    (some_made may s.store.out slots.newer slots.writes)

begun_or : BegunLaws → (old : CoreState) (v : View) (plan : Planned) (last : Uberblock) (before : List Uberblock) (m : Disks) → IsRunning old v last before
    → old.commit.planned ≡ Some plan → Makes (may_write old.commit plan) old.commit.store.disks m
    → IsBegun plan.uberblock m ⊎ StillInBlocks old.commit.store.out m last before
begun_or laws old v plan last before m runs is upto =
    let s : State = old.commit in
    let out : List Bool = s.store.out in
    let may : IsGoodPlan s plan last = good old v plan last before runs is in
    let phase : IsInPhase s plan last before = subst (λ (o : Option Planned). StandAt s o last before) is runs.stand in
    ⊎_elim
    (λ early.
    let blocks : ¬ ((s.store.due ≡ []) × (plan.behind.flushes.items ≡ [])) → IsBegun plan.uberblock m ⊎ StillInBlocks out m last before =
    λ some. inr (record {
      trees = filled_trees s.store.spaces m;
      phase = (laws.filled s.store.spaces s.store.spaces out s.store.disks m last before runs.whole.lie (λ disk i filled. filled) early.blocks
          (Makes-wider (may_write s plan) (unfilled_write s.store.spaces) s.store.disks m
          (λ which at bytes write. ⊎_elim (λ block. may.unfilled which at bytes block) (λ slot. absurd (some (slot.0, slot.1))) write) upto)).0;
    }) in
    ⊎_elim
    (λ due. ⊎_elim
    (λ flushes. ⊎_elim
    (λ begun. inl begun)
    (λ none. inr (record {
      trees = filled_trees s.store.spaces s.store.disks;
      phase = still laws.go_on (filled_trees s.store.spaces s.store.disks) out s.store.disks m last before early.blocks none;
    }))
    (slots_or_none laws s plan (filled_trees s.store.spaces s.store.disks) last before m due upto))
    (λ some. blocks (λ none. some none.1))
    (is_empty plan.behind.flushes.items))
    (λ some. blocks (λ none. some none.0))
    (is_empty s.store.due))
    (λ late.
    let trees : Trees = block_trees s.store.spaces s.store.disks in
    let slots : AreInSlots trees out s.store.disks last before plan.uberblock = late.slots in
    let settled : Disks = slots.settled in
    let first : Makes (if_used out (IsSlotWrite settled.starts plan.uberblock (in_use out))) settled s.store.disks = slots.makes in
    ⊎_elim
    (λ has. inl (begun_before settled.starts plan.uberblock (in_use out) m upto.newer first.newer settled.calls (upto.starts ∙ first.starts)
    (upto.calls ∙ ap (λ cs. upto.newer ++ cs) first.calls) has))
    (λ none. ⊎_elim
    (λ begun. inl begun)
    (λ rest. inr (record {
      trees = trees;
      phase = still laws.go_on trees out s.store.disks m last before
          (still laws.go_on trees out settled s.store.disks last before (laws.begin trees out settled last before slots.could.at)
          (record { starts = first.starts; newer = first.newer; calls = first.calls; writes = none }))
          rest;
    }))
    (slots_or_none laws s plan trees last before m late.written upto))
    (some_made (IsSlotWrite settled.starts plan.uberblock (in_use out)) out first.newer first.writes))
    phase

-- ---- what the images lead to

wider_reach : (last next : Uberblock) (before : List Uberblock) (u : Uberblock) → IsInReach (only_last last before) u → IsInReach (last_or last before next) u
wider_reach last next before u reach = ⊎_elim (λ has. inl (Contains-append_left (last ∷ []) (next ∷ []) u has)) (λ is. inr is) reach

-- what has the rank of the next group's is not in reach of the last one
not_in_reach : (last next : Uberblock) (before : List Uberblock) (u : Uberblock) → IsNextGroup last next → u.group ≡ next.group → ¬ IsInReach (only_last last before) u
not_in_reach last next before u is group reach = ⊎_elim
    (λ has. ⊎_elim
    (λ same. absurd (omega (arith, is.1, group, ap (λ (x : Uberblock). x.group) same)))
    (λ (k, below, other). absurd (omega (arith, below)))
    (first_or last [] u has))
    (λ before'. absurd (omega (arith, is.1, group, before'.lower)))
    reach

not_far : (last next : Uberblock) (u : Uberblock) → IsNextGroup last next → u.group ≡ next.group → u.claim ≡ next.claim → ¬ IsOutOfReach u last
not_far last next u is group claim far = ⊎_elim
    (λ lower. absurd (omega (arith, is.0, claim, lower)))
    (λ below. absurd (omega (arith, is.1, group, below.1)))
    far

module _ (held : ℕ → ℕ → Option ℕ) (which : ℕ) (place slot : ℕ) (last next : Uberblock) (before : List Uberblock) (is : IsNextGroup last next) where
  narrow_reach : {IsGood : Uberblock → Type 0} → ((u : Uberblock) → IsGood u → IsInReach (only_last last before) u) → (u : Uberblock)
      → Shows (held which) place slot u → IsAllowed (held which) place slot last IsGood → IsInReach (last_or last before next) u
      → IsInReach (only_last last before) u
  narrow_reach good_reach u shows allowed reach =
      let same = same_shown (held which) place slot u allowed.u shows allowed.shows in
      ⊎_elim
      (λ has. ⊎_elim
      (λ first. inl (0, omega arith, sym first))
      (λ rest. ⊎_elim
      (λ it.
      let group : allowed.u.group ≡ next.group = sym same.group ∙ ap (λ (x : Uberblock). x.group) it in
      let claim : allowed.u.claim ≡ next.claim = sym same.claim ∙ ap (λ (x : Uberblock). x.claim) it in
      absurd (⊎_elim
      (λ far. not_far last next allowed.u is group claim far)
      (λ fine. not_in_reach last next before allowed.u is group (good_reach allowed.u fine))
      allowed.rank))
      (λ (k, below, other). absurd (omega (arith, below)))
      (first_or next [] u rest))
      (first_or last (next ∷ []) u has))
      (λ early. inr early)
      reach

narrow : (pool : PoolIdentity) (vdevs : List PlainVdev) (digest : List ℕ) (images : List (List ℕ)) (shapes : List VdevShape) (out : List Bool)
    (last next : Uberblock) (before : List Uberblock) (pools : Uberblock → PlainPool) (trees : Trees) → IsNextGroup last next
    → Leads trees out images (held_by images) (only_last last before) → LeadToOwnPools pool vdevs digest images shapes out (last_or last before next) pools
    → LeadToOwnPools pool vdevs digest images shapes out (only_last last before) pools
narrow pool vdevs digest images shapes out last next before pools trees is leads it =
    let can = it.led.led.can in
    record {
      are = it.are;
      led = record {
        led = record {
          trees = it.led.led.trees;
          can = record {
            some = can.some;
            off_labels = can.off_labels;
            known = can.known;
            settled = can.settled;
            leads = λ which used.
                let mine = can.leads which used in
                let size : ℕ = length (bytes_of images which) in
                record {
                  only = λ label slot is_slot u shows.
                      let a = mine.only label slot is_slot u shows in
                      record {
                        u = a.u;
                        shows = a.shows;
                        rank = ⊎_elim
                            (λ far. inl far)
                            (λ possible. inr (
                              narrow_reach (held_by images) which (slot_at size label slot) slot last next before is (λ w fine. fine.0) a.u a.shows
                                  ((leads which used).only label slot is_slot a.u a.shows) possible.0,
                              possible.1,
                            ))
                            a.rank;
                      };
                  top = mine.top;
                };
          };
          tree = λ u reach. it.led.led.tree u (wider_reach last next before u reach);
        };
        whole = λ u reach. it.led.whole u (wider_reach last next before u reach);
        configured = λ u reach. it.led.configured u (wider_reach last next before u reach);
      };
      one = λ u reach. it.one u (wider_reach last next before u reach);
      sums = λ u reach. it.sums u (wider_reach last next before u reach);
    }

-- ---- a step

nothing_made : (trees : Trees) (out : List Bool) (m : Disks) (last : Uberblock) (before : List Uberblock) → Makes (free_writes trees out m.starts last before) m m
nothing_made trees out m last before = record {
  starts = refl;
  newer = [];
  calls = refl;
  writes = All-nil (λ made. WritesOnly (free_writes trees out m.starts last before made.which) made.call);
}

pub stopped_steps_lead_to_own_pools : BegunLaws → StoppedStepsLeadToOwnPools
stopped_steps_lead_to_own_pools laws pool vdevs digest old new v w step given reply last before images so on link moves none leaves =
    let s : State = old.commit in
    let it = laws.stay pool vdevs digest old new v w step given reply last before so on link moves none in
    let p : Possible = it.stops.at.steps.stops.p in
    let shapes : List VdevShape = shapes_of s.store.spaces in
    let Led : Possible → Type 0 = λ q. LeadToOwnPools pool vdevs digest images shapes s.store.out q (pool_of v) in
    let led : Led p = record {
      are = laws.leave pool vdevs digest old v new w images it.stops it.on leaves;
      led = laws.lead digest old v new w images it.stops leaves;
      one = it.stops.one;
      sums = it.on.sums;
    } in
    let which : IsPossibleOf s last before p =
    subst (λ (x : Uberblock × List Uberblock). IsPossibleOf s x.0 x.1 p) (λ j. (it.last_is j, it.before_is j)) it.stops.at.steps.stops.which in
    let m : Disks = at_stop leaves in
    ⊎_elim
    (λ only. (p, inl only, led))
    (λ (plan, is, either).
    let both : Led (last_or last before plan.uberblock) = subst Led either led in
    let upto = made_until (may_write s plan) s.store.disks new.commit.store.disks leaves.calls (makes_of step s new.commit plan moves is) leaves.moment in
    ⊎_elim
    (λ begun. (last_or last before plan.uberblock, inr (plan, is, begun, refl), both))
    (λ still_so.
    let always : LeadAlways still_so.trees s.store.out m m (only_last last before) =
    (laws.go_on still_so.trees s.store.out m m last before still_so.phase (nothing_made still_so.trees s.store.out m last before)).1 in (
      only_last last before,
      inl refl,
      narrow pool vdevs digest images shapes s.store.out last plan.uberblock before (pool_of v) still_so.trees (good old v plan last before so.runs is).next
          (always leaves.calls (record { newer = []; is = refl; since = inl refl }) images leaves.left leaves.untorn) both,
    ))
    (begun_or laws old v plan last before m so.runs is upto))
    which
