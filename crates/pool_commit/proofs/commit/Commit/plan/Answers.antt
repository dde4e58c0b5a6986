use Rattle.std.proofs.Common.{ℕ, suc, ◌≡◌, ◌≤◌, ⊎_elim, inl, inr, ◌-◌, ◌++◌, Bool, List, [], length, Option, Some, None, refl, sym, ap, ◌∙◌, subst, arith}
use Rattle.block_pointer.specs.declared.block.Block.{Block}
use Rattle.model_disk.specs.Joint.{Disks}
use Rattle.raidz_io.specs.Reads.{AreUntouched}
use Rattle.block_store.specs.declared.refusal.Refusal.{Refusal as StoreRefusal}
use Rattle.block_store.specs.Store.{outs}
use Rattle.pool_model.specs.View.{Unplanned}
use Rattle.volume_rules.specs.Effects.{GroupTakesEffect}
use Rattle.uberblock_ring.specs.declared.uberblock.Uberblock.{Uberblock}
use Rattle.pool_commit.specs.declared.kept.KeptGroup.{KeptGroup}
use Rattle.pool_commit.specs.declared.kept.Planned.{Planned}
use Rattle.pool_commit.specs.Backs.{BeginsWithMaps, SpellsGroup}
use Rattle.pool_commit.proofs.PlanMaps.{begins_with_maps}
use Rattle.pool_commit.specs.Reading.{IsFaultIn}
use Rattle.pool_commit.specs.Room.{IsGroupRefusedBehind, IsPlanRefused}
use Rattle.vdev_label.specs.Plain.{config_view}
use Rattle.pool_commit.specs.Space.{GivesBack}
use Rattle.pool_commit.specs.Spans.{HasSpansAfter}
use Rattle.pool_commit.specs.State.{State}
use Rattle.pool_commit.specs.StateOf.{state_of}
use Rattle.pool_commit.proofs.Backing.{last_spelled}
use Rattle.pool_commit.proofs.Planning.{AreGivenBack, was_ok, Begins, is_begun, untouched_since, at_error, backs_begun, backs_dropped, backs_still, begun_plans, unplanned_still, plan_is_backed}
use Rattle.pool_commit.proofs.Refusing.{no_config, only_room, plan_faults}
use Rattle.pool_commit.proofs.Spellings.{fits_spelled}
use Rattle.pool_commit.specs.HasDisks.{AreDueOn, HasDisks, HasSpelling, IsPlannedOn}
use Rattle.pool_commit.proofs.Labels.{labels_still}
use Rattle.pool_commit.proofs.Suspending.{still}
use Rattle.pool_commit.proofs.Unread.{lost_for_plan}
use Rattle.block_store.proofs.Planning.{marks_by_map}
use Rattle.block_store.specs.Places.{filled as filled_marks}
use Rattle.block_store.specs.Store.{Spans, Store}
use Rattle.block_store.specs.Steps.{OnlyReadsAndPlans, AnswersTell}
use Rattle.block_store.proofs.Telling.{lost_same, tell_between}
use Rattle.block_store.specs.Places.{shapes_of}
use Rattle.block_store.specs.Store.{is_out}
use Rattle.std.specs.Prelude.{filter, not}
use Rattle.pool_model.specs.View.{disks_of}
use Rattle.pool_commit.proofs.Planning.{same_vdevs}
use Rattle.pool_commit.specs.Writing.{PlansFrom, in_use_of}
use Rattle.pool_commit.proofs.Writing.{from_begun, from_made, from_none, from_then}
use Rattle.pool_commit.proofs.commit.Commit.plan.Given as given
use Rattle.pool_commit.proofs.commit.Commit.plan.Goals as goal

pub returns-in_err-begin_plan-clause-unplanned : goal.returns-in_err-begin_plan-clause-unplanned
returns-in_err-begin_plan-clause-unplanned g c = at_error c.from_residual.result _ (λ v backs none.
    unplanned_still (record { store = c.begin_plan.new.self; kept = c.args.self.now.kept; planned = None; stamp = c.args.self.now.stamp }) c.args.self.now.planned v c.requires.unplanned
    (backs_begun (state_of c.args.self.now) c.begin_plan.new.self c.saturating_add-group.result v c.begin_plan.ensures.out c.begin_plan.ensures.shapes
    (record { free = c.begin_plan.ensures.free; stays = c.begin_plan.ensures.stays; plans = c.begin_plan.ensures.plans; some = c.begin_plan.ensures.some; stale = ap (λ (s : Spans). s.stale) c.begin_plan.ensures.spans })
    (let same = c.committed.ensures in omega arith) v.sync none backs))

pub returns-in_err-begin_plan-clause-dropped : goal.returns-in_err-begin_plan-clause-dropped
returns-in_err-begin_plan-clause-dropped g c = at_error c.from_residual.result _ (λ v backs.
    unplanned_still (record { store = c.begin_plan.new.self; kept = c.args.self.now.kept; planned = None; stamp = c.args.self.now.stamp }) c.args.self.now.planned (record v { sync = Unplanned }) c.requires.unplanned
    (backs_begun (state_of c.args.self.now) c.begin_plan.new.self c.saturating_add-group.result v c.begin_plan.ensures.out c.begin_plan.ensures.shapes
    (record { free = c.begin_plan.ensures.free; stays = c.begin_plan.ensures.stays; plans = c.begin_plan.ensures.plans; some = c.begin_plan.ensures.some; stale = ap (λ (s : Spans). s.stale) c.begin_plan.ensures.spans })
    (let same = c.committed.ensures in omega arith) Unplanned refl backs))

pub returns-in_err-behind-clause-unplanned : goal.returns-in_err-behind-clause-unplanned
returns-in_err-behind-clause-unplanned g c = at_error c.from_residual-in_err-behind.result _ (λ v backs none.
    unplanned_still (record { store = c.begin_plan.new.self; kept = c.args.self.now.kept; planned = None; stamp = c.args.self.now.stamp }) c.args.self.now.planned v c.requires.unplanned
    (backs_begun (state_of c.args.self.now) c.begin_plan.new.self c.saturating_add-group.result v c.begin_plan.ensures.out c.begin_plan.ensures.shapes
    (record { free = c.begin_plan.ensures.free; stays = c.begin_plan.ensures.stays; plans = c.begin_plan.ensures.plans; some = c.begin_plan.ensures.some; stale = ap (λ (s : Spans). s.stale) c.begin_plan.ensures.spans })
    (let same = c.committed.ensures in omega arith) v.sync none backs))

pub returns-in_err-behind-clause-dropped : goal.returns-in_err-behind-clause-dropped
returns-in_err-behind-clause-dropped g c = at_error c.from_residual-in_err-behind.result _ (λ v backs.
    unplanned_still (record { store = c.begin_plan.new.self; kept = c.args.self.now.kept; planned = None; stamp = c.args.self.now.stamp }) c.args.self.now.planned (record v { sync = Unplanned }) c.requires.unplanned
    (backs_begun (state_of c.args.self.now) c.begin_plan.new.self c.saturating_add-group.result v c.begin_plan.ensures.out c.begin_plan.ensures.shapes
    (record { free = c.begin_plan.ensures.free; stays = c.begin_plan.ensures.stays; plans = c.begin_plan.ensures.plans; some = c.begin_plan.ensures.some; stale = ap (λ (s : Spans). s.stale) c.begin_plan.ensures.spans })
    (let same = c.committed.ensures in omega arith) Unplanned refl backs))

pub returns-then-not-makes_good_volumes-clause-unplanned : goal.returns-then-not-makes_good_volumes-clause-unplanned
returns-then-not-makes_good_volumes-clause-unplanned g c = λ v backs none.
    unplanned_still (record { store = c.begin_plan.new.self; kept = c.args.self.now.kept; planned = None; stamp = c.args.self.now.stamp }) c.args.self.now.planned v c.requires.unplanned
    (backs_begun (state_of c.args.self.now) c.begin_plan.new.self c.saturating_add-group.result v c.begin_plan.ensures.out c.begin_plan.ensures.shapes
    (record { free = c.begin_plan.ensures.free; stays = c.begin_plan.ensures.stays; plans = c.begin_plan.ensures.plans; some = c.begin_plan.ensures.some; stale = ap (λ (s : Spans). s.stale) c.begin_plan.ensures.spans })
    (let same = c.committed.ensures in omega arith) v.sync none backs)

pub returns-then-not-makes_good_volumes-clause-dropped : goal.returns-then-not-makes_good_volumes-clause-dropped
returns-then-not-makes_good_volumes-clause-dropped g c = λ v backs.
    unplanned_still (record { store = c.begin_plan.new.self; kept = c.args.self.now.kept; planned = None; stamp = c.args.self.now.stamp }) c.args.self.now.planned (record v { sync = Unplanned }) c.requires.unplanned
    (backs_begun (state_of c.args.self.now) c.begin_plan.new.self c.saturating_add-group.result v c.begin_plan.ensures.out c.begin_plan.ensures.shapes
    (record { free = c.begin_plan.ensures.free; stays = c.begin_plan.ensures.stays; plans = c.begin_plan.ensures.plans; some = c.begin_plan.ensures.some; stale = ap (λ (s : Spans). s.stale) c.begin_plan.ensures.spans })
    (let same = c.committed.ensures in omega arith) Unplanned refl backs)

pub returns-then-is_err-clause-untouched : goal.returns-then-is_err-clause-untouched
returns-then-is_err-clause-untouched g c =
    untouched_since c.args.self.now.store c.begin_plan.new.self c.drop_plan.new.self c.begin_plan.ensures.disks c.begin_plan.ensures.out
    (subst (AreUntouched (outs c.begin_plan.new.self ++ []) c.begin_plan.new.self.disks) (sym (c.drop_plan.ensures.disks ∙ c.give_back.ensures.gives.disks)) c.in-Ok.ensures.steps.untouched)

pub returns-then-is_err-clause-unplanned : goal.returns-then-is_err-clause-unplanned
returns-then-is_err-clause-unplanned g c = λ v backs none.
    let begun = backs_begun (state_of c.args.self.now) c.begin_plan.new.self c.saturating_add-group.result v c.begin_plan.ensures.out c.begin_plan.ensures.shapes
    (record { free = c.begin_plan.ensures.free; stays = c.begin_plan.ensures.stays; plans = c.begin_plan.ensures.plans; some = c.begin_plan.ensures.some; stale = ap (λ (s : Spans). s.stale) c.begin_plan.ensures.spans })
    (let same = c.committed.ensures in omega arith) v.sync none backs in
    unplanned_still (record { store = c.drop_plan.new.self; kept = c.args.self.now.kept; planned = None; stamp = c.args.self.now.stamp }) c.args.self.now.planned v c.requires.unplanned
    (backs_dropped (record { store = c.begin_plan.new.self; kept = c.args.self.now.kept; planned = None; stamp = c.args.self.now.stamp }) c.group_after.new.store c.give_back.new.store c.drop_plan.new.self c.deref.result.now c.saturating_add-group.result v refl c.in-Ok.ensures.steps
    c.give_back.ensures.gives c.drop_plan.ensures.out (ap (λ (s : Spans). s.stale) c.drop_plan.ensures.spans) c.drop_plan.ensures.shapes c.drop_plan.ensures.filled c.drop_plan.ensures.plans begun)

pub returns-then-is_err-clause-dropped : goal.returns-then-is_err-clause-dropped
returns-then-is_err-clause-dropped g c = λ v backs.
    let begun = backs_begun (state_of c.args.self.now) c.begin_plan.new.self c.saturating_add-group.result v c.begin_plan.ensures.out c.begin_plan.ensures.shapes
    (record { free = c.begin_plan.ensures.free; stays = c.begin_plan.ensures.stays; plans = c.begin_plan.ensures.plans; some = c.begin_plan.ensures.some; stale = ap (λ (s : Spans). s.stale) c.begin_plan.ensures.spans })
    (let same = c.committed.ensures in omega arith) Unplanned refl backs in
    unplanned_still (record { store = c.drop_plan.new.self; kept = c.args.self.now.kept; planned = None; stamp = c.args.self.now.stamp }) c.args.self.now.planned (record v { sync = Unplanned }) c.requires.unplanned
    (backs_dropped (record { store = c.begin_plan.new.self; kept = c.args.self.now.kept; planned = None; stamp = c.args.self.now.stamp }) c.group_after.new.store c.give_back.new.store c.drop_plan.new.self c.deref.result.now c.saturating_add-group.result (record v { sync = Unplanned }) refl
    c.in-Ok.ensures.steps c.give_back.ensures.gives c.drop_plan.ensures.out (ap (λ (s : Spans). s.stale) c.drop_plan.ensures.spans) c.drop_plan.ensures.shapes c.drop_plan.ensures.filled c.drop_plan.ensures.plans begun)

-- the disks of the plan are there
planned_there : (count now : ℕ) (plan : Planned) → now ≡ count → AreDueOn count plan.behind → HasSpelling plan.uberblock → HasDisks now (Some plan)
planned_there count now plan same there fits other is =
    let one : plan ≡ other = cc in
    subst (λ (n : ℕ). IsPlannedOn n other) (sym same) (subst (λ (p : Planned). IsPlannedOn count p) one (record { behind = there; fits = fits }))

pub invariant_of-self-in-Ok : goal.invariant_of-self-in-Ok
invariant_of-self-in-Ok g c =
    let planned : Planned = record { after = c.in-Ok.next.after; uberblock = c.uberblock-uberblock.result; behind = c.in_ok-behind.behind } in
    let starts = ap (λ (d : Disks). d.starts) c.give_back.ensures.gives.disks ∙ c.in-Ok.ensures.steps.reads.starts ∙ ap (λ (d : Disks). d.starts) c.begin_plan.ensures.disks in
    let shapes = c.give_back.ensures.gives.shapes ∙ c.in-Ok.ensures.steps.shapes ∙ c.begin_plan.ensures.shapes in record {
      disks = planned_there (length c.begin_plan.new.self.disks.starts) (length c.give_back.new.store.disks.starts) planned
          (ap (λ (d : Disks). length d.starts) c.give_back.ensures.gives.disks ∙ ap (λ (them : List (List ℕ)). length them) c.in-Ok.ensures.steps.reads.starts)
          c.in_ok-behind.ensures.there (fits_spelled c.uberblock-uberblock.result c.uberblock-uberblock.ensures.fits);
      suspension =
          c.args.self.now.suspension
          ∙ still c.args.self.now.store c.begin_plan.new.self c.begin_plan.ensures.out c.begin_plan.ensures.shapes
          ∙ still c.begin_plan.new.self c.group_after.new.store c.in-Ok.ensures.steps.out c.in-Ok.ensures.steps.shapes
          ∙ still c.group_after.new.store c.give_back.new.store c.give_back.ensures.gives.out c.give_back.ensures.gives.shapes;
      labels = labels_still c.args.self.now.store c.give_back.new.store starts shapes c.args.self.now.labels;
      claim = c.args.self.now.claim;
    }

pub returns-else-is_err-clause-untouched : goal.returns-else-is_err-clause-untouched
returns-else-is_err-clause-untouched g c =
    untouched_since c.args.self.now.store c.begin_plan.new.self c.give_back.new.store c.begin_plan.ensures.disks c.begin_plan.ensures.out
    (subst (AreUntouched (outs c.begin_plan.new.self ++ []) c.begin_plan.new.self.disks) (sym c.give_back.ensures.gives.disks) c.in-Ok.ensures.steps.untouched)

pub returns-else-is_err-clause-planned : goal.returns-else-is_err-clause-planned
returns-else-is_err-clause-planned g c = λ v backs none few items effects tell.
    let begins : Begins c.args.self.now.store c.begin_plan.new.self c.saturating_add-group.result =
    record { free = c.begin_plan.ensures.free; stays = c.begin_plan.ensures.stays; plans = c.begin_plan.ensures.plans; some = c.begin_plan.ensures.some; stale = ap (λ (s : Spans). s.stale) c.begin_plan.ensures.spans } in
    let below : c.saturating_add-group.result ≤ suc c.args.self.now.kept.committed = let same = c.committed.ensures in omega arith in
    let begun = backs_begun (state_of c.args.self.now) c.begin_plan.new.self c.saturating_add-group.result v c.begin_plan.ensures.out c.begin_plan.ensures.shapes begins below v.sync none backs in
    let s : State = record { store = c.begin_plan.new.self; kept = c.args.self.now.kept; planned = None; stamp = c.args.self.now.stamp } in
    let next : c.saturating_add-group.result ≡ suc v.committed = let same = c.committed.ensures ∙ backs.committed in omega arith in
    let told : AnswersTell c.begin_plan.new.self c.group_after.new.store [] =
    tell_between c.args.self.now.store c.give_back.new.store c.begin_plan.new.self c.group_after.new.store [] c.begin_plan.ensures.disks (sym c.give_back.ensures.gives.disks)
    (lost_same c.begin_plan.new.self c.args.self.now.store (sym c.begin_plan.ensures.shapes) (sym c.begin_plan.ensures.out) (sym (ap (λ (s : Spans). s.stale) c.begin_plan.ensures.spans))) tell in
    plan_is_backed s c.group_after.new.store c.give_back.new.store c.saturating_add-group.result c.last-last.result.now
    (record { after = c.in-Ok.next.after; uberblock = c.uberblock-uberblock.result; behind = c.in_ok-behind.behind }) c.in-Ok.next.replaced.items
    c.args.items.now v begun c.begin_plan.ensures.due next c.last-last.ensures items effects c.in_ok-behind.ensures.are
    (record { root = c.in-Ok.next.root; is_root = c.in-Ok.ensures.is_root; timestamp = c.args.timestamp; is = c.uberblock-uberblock.ensures.is }) c.in-Ok.ensures.steps
    (subst (λ gone. GivesBack c.group_after.new.store c.give_back.new.store gone c.saturating_add-group.result) c.deref.ensures.value c.give_back.ensures.gives)
    c.begin_plan.ensures.free told
    (begun_plans (state_of c.args.self.now) c.begin_plan.new.self c.saturating_add-group.result v c.begin_plan.ensures.out c.begin_plan.ensures.shapes begins below v.sync none backs) c.in-Ok.ensures.value
    (was_ok c.give_back.result _ (sym c.is_err.ensures.value ∙ c.if-is_err.false) c.give_back.ensures.whole)
    (subst (λ gone. AreGivenBack c.group_after.new.store c.give_back.new.store gone c.saturating_add-group.result) c.deref.ensures.value
    (was_ok c.give_back.result _ (sym c.is_err.ensures.value ∙ c.if-is_err.false) c.give_back.ensures.released))
    c.in-Ok.ensures.config

pub returns-in-Err-clause-unplanned : goal.returns-in-Err-clause-unplanned
returns-in-Err-clause-unplanned g c = λ v backs none.
    let begun = backs_begun (state_of c.args.self.now) c.begin_plan.new.self c.saturating_add-group.result v c.begin_plan.ensures.out c.begin_plan.ensures.shapes
    (record { free = c.begin_plan.ensures.free; stays = c.begin_plan.ensures.stays; plans = c.begin_plan.ensures.plans; some = c.begin_plan.ensures.some; stale = ap (λ (s : Spans). s.stale) c.begin_plan.ensures.spans })
    (let same = c.committed.ensures in omega arith) v.sync none backs in
    let s : State = record { store = c.begin_plan.new.self; kept = c.args.self.now.kept; planned = None; stamp = c.args.self.now.stamp } in
    unplanned_still (record s { store = c.group_after.new.store }) c.args.self.now.planned v c.requires.unplanned (backs_still s c.group_after.new.store v refl c.in-Err.ensures.steps begun)

pub returns-in-Err-clause-dropped : goal.returns-in-Err-clause-dropped
returns-in-Err-clause-dropped g c = λ v backs.
    let begun = backs_begun (state_of c.args.self.now) c.begin_plan.new.self c.saturating_add-group.result v c.begin_plan.ensures.out c.begin_plan.ensures.shapes
    (record { free = c.begin_plan.ensures.free; stays = c.begin_plan.ensures.stays; plans = c.begin_plan.ensures.plans; some = c.begin_plan.ensures.some; stale = ap (λ (s : Spans). s.stale) c.begin_plan.ensures.spans })
    (let same = c.committed.ensures in omega arith) Unplanned refl backs in
    let s : State = record { store = c.begin_plan.new.self; kept = c.args.self.now.kept; planned = None; stamp = c.args.self.now.stamp } in
    unplanned_still (record s { store = c.group_after.new.store }) c.args.self.now.planned (record v { sync = Unplanned }) c.requires.unplanned
    (backs_still s c.group_after.new.store (record v { sync = Unplanned }) refl c.in-Err.ensures.steps begun)

pub returns-in-Err-clause-untouched : goal.returns-in-Err-clause-untouched
returns-in-Err-clause-untouched g c =
    untouched_since c.args.self.now.store c.begin_plan.new.self c.group_after.new.store c.begin_plan.ensures.disks c.begin_plan.ensures.out c.in-Err.ensures.steps.untouched

-- what the plan was refused for
refused : (g : given.Over) (c : goal.After-drop-behind-in-Err-3 g) → IsPlanRefused (state_of c.args.self.now) c.group_after.new.store c.args.items.now c.in-Err.refusal
refused g c = record {
  begun = c.begin_plan.new.self;
  is_begun = is_begun c.args.self.now.store c.begin_plan.new.self c.saturating_add-group.result c.begin_plan.ensures.disks c.begin_plan.ensures.out
      (ap (λ (s : Spans). s.stale) c.begin_plan.ensures.spans) c.begin_plan.ensures.shapes c.in_ok-begin_plan.ensures.settled c.begin_plan.ensures.free;
  group = c.saturating_add-group.result;
  is_next = λ few. let same = c.committed.ensures in omega arith;
  why = subst (λ (kept : KeptGroup). IsGroupRefusedBehind c.begin_plan.new.self c.group_after.new.store kept c.saturating_add-group.result c.args.items.now c.in-Err.refusal)
      c.last-last.ensures c.in-Err.ensures.refused;
}

pub returns-in-Err-clause-full : goal.returns-in-Err-clause-full
returns-in-Err-clause-full g c = λ no_space. (
  c.group_after.new.store,
  subst (λ (cause : StoreRefusal). IsPlanRefused (state_of c.args.self.now) c.group_after.new.store c.args.items.now cause) (only_room c.in-Err.refusal (sym c.from.ensures ∙ no_space)) (refused g c),
)

pub returns-in-Err-clause-unread : goal.returns-in-Err-clause-unread
returns-in-Err-clause-unread g c = λ fault. record { cause = c.in-Err.refusal; refused = refused g c; answered = c.from.ensures }

pub returns-in-Err-clause-refused : goal.returns-in-Err-clause-refused
unfolding refused
returns-in-Err-clause-refused g c = λ v backs none few items good effects.
    let begun = backs_begun (state_of c.args.self.now) c.begin_plan.new.self c.saturating_add-group.result v c.begin_plan.ensures.out c.begin_plan.ensures.shapes
    (record { free = c.begin_plan.ensures.free; stays = c.begin_plan.ensures.stays; plans = c.begin_plan.ensures.plans; some = c.begin_plan.ensures.some; stale = ap (λ (s : Spans). s.stale) c.begin_plan.ensures.spans })
    (let same = c.committed.ensures in omega arith) v.sync none backs in
    let s : State = record { store = c.begin_plan.new.self; kept = c.args.self.now.kept; planned = None; stamp = c.args.self.now.stamp } in
    let new : State = record { store = c.group_after.new.store; kept = c.args.self.now.kept; planned = c.args.self.now.planned; stamp = c.args.self.now.stamp } in
    let before : c.saturating_add-group.result - 1 ≡ v.committed = let same = c.committed.ensures ∙ backs.committed in omega arith in
    let spelled : SpellsGroup begun.blocks.stored (c.saturating_add-group.result - 1) c.last-last.result.now (v.pools v.committed) =
    subst (λ (n : ℕ). SpellsGroup begun.blocks.stored n c.last-last.result.now (v.pools v.committed)) (sym before)
    (subst (λ (kept : KeptGroup). SpellsGroup begun.blocks.stored v.committed kept (v.pools v.committed)) (sym c.last-last.ensures) (last_spelled s v begun)) in
    let begins : BeginsWithMaps c.begin_plan.new.self.spaces begun.blocks.stored (c.saturating_add-group.result - 1) c.last-last.result.now.root (v.pools v.committed) =
    subst (λ (n : ℕ). BeginsWithMaps c.begin_plan.new.self.spaces begun.blocks.stored n c.last-last.result.now.root (v.pools v.committed)) (sym before)
    (subst (λ (kept : KeptGroup). BeginsWithMaps c.begin_plan.new.self.spaces begun.blocks.stored v.committed kept.root (v.pools v.committed)) (sym c.last-last.ensures)
    (begins_with_maps s v begun c.begin_plan.ensures.free)) in
    ⊎_elim (λ memory. inl (c.from.ensures ∙ memory))
    (λ other. inr (⊎_elim
    (λ space. inr (c.from.ensures ∙ space))
    (λ fault. inl (lost_for_plan v (state_of c.args.self.now) new c.args.items.now c.from.result
    (record { cause = c.in-Err.refusal; refused = refused g c; answered = c.from.ensures }) begun c.in-Err.ensures.steps.reads
    (subst (IsFaultIn c.begin_plan.new.self c.group_after.new.store []) (sym c.from.ensures) fault))) other))
    (plan_faults c.begin_plan.new.self c.group_after.new.store c.in-Err.refusal
    (λ tell. c.in-Err.ensures.known begun.blocks.stored begun.blocks.planned (v.pools v.committed) begun.blocks.plans spelled begins tell good (subst (λ (n : ℕ). GroupTakesEffect n (v.pools v.committed) c.args.items.now) (let same = c.committed.ensures ∙ backs.committed in omega arith) effects)))

pub returns-in-Err-clause-bad : goal.returns-in-Err-clause-bad
returns-in-Err-clause-bad g c = λ is. absurd (no_config c.in-Err.refusal (sym c.from.ensures ∙ is))

pub invariant_of-self-2 : goal.invariant_of-self-2
invariant_of-self-2 g c = record {
  disks = subst (λ (starts : List (List ℕ)). HasDisks (length starts) c.args.self.now.planned) (sym (ap (λ (d : Disks). d.starts) c.begin_plan.ensures.disks)) c.args.self.now.disks;
  suspension =
      c.args.self.now.suspension
      ∙ still c.args.self.now.store c.begin_plan.new.self c.begin_plan.ensures.out c.begin_plan.ensures.shapes;
  labels = labels_still c.args.self.now.store c.begin_plan.new.self (ap (λ (d : Disks). d.starts) c.begin_plan.ensures.disks) (c.begin_plan.ensures.shapes) c.args.self.now.labels;
  claim = c.args.self.now.claim;
}

pub invariant_of-self-then-is_err : goal.invariant_of-self-then-is_err
invariant_of-self-then-is_err g c = record {
  disks = subst (λ (starts : List (List ℕ)). HasDisks (length starts) c.args.self.now.planned) (sym (ap (λ (d : Disks). d.starts) (c.drop_plan.ensures.disks ∙ c.give_back.ensures.gives.disks) ∙ c.in-Ok.ensures.steps.reads.starts ∙ ap (λ (d : Disks). d.starts) c.begin_plan.ensures.disks)) c.args.self.now.disks;
  suspension =
      c.args.self.now.suspension
      ∙ still c.args.self.now.store c.begin_plan.new.self c.begin_plan.ensures.out c.begin_plan.ensures.shapes
      ∙ still c.begin_plan.new.self c.group_after.new.store c.in-Ok.ensures.steps.out c.in-Ok.ensures.steps.shapes
      ∙ still c.group_after.new.store c.give_back.new.store c.give_back.ensures.gives.out c.give_back.ensures.gives.shapes
      ∙ still c.give_back.new.store c.drop_plan.new.self c.drop_plan.ensures.out c.drop_plan.ensures.shapes;
  labels = labels_still c.args.self.now.store c.drop_plan.new.self (ap (λ (d : Disks). d.starts) (c.drop_plan.ensures.disks ∙ c.give_back.ensures.gives.disks) ∙ c.in-Ok.ensures.steps.reads.starts ∙ ap (λ (d : Disks). d.starts) c.begin_plan.ensures.disks) (c.drop_plan.ensures.shapes ∙ c.give_back.ensures.gives.shapes ∙ c.in-Ok.ensures.steps.shapes ∙ c.begin_plan.ensures.shapes) c.args.self.now.labels;
  claim = c.args.self.now.claim;
}

pub invariant_of-self-in-Err-1 : goal.invariant_of-self-in-Err-1
invariant_of-self-in-Err-1 g c = record {
  disks = subst (λ (starts : List (List ℕ)). HasDisks (length starts) c.args.self.now.planned) (sym (c.in-Err.ensures.steps.reads.starts ∙ ap (λ (d : Disks). d.starts) c.begin_plan.ensures.disks)) c.args.self.now.disks;
  suspension =
      c.args.self.now.suspension
      ∙ still c.args.self.now.store c.begin_plan.new.self c.begin_plan.ensures.out c.begin_plan.ensures.shapes
      ∙ still c.begin_plan.new.self c.group_after.new.store c.in-Err.ensures.steps.out c.in-Err.ensures.steps.shapes;
  labels = labels_still c.args.self.now.store c.group_after.new.store (c.in-Err.ensures.steps.reads.starts ∙ ap (λ (d : Disks). d.starts) c.begin_plan.ensures.disks) (c.in-Err.ensures.steps.shapes ∙ c.begin_plan.ensures.shapes) c.args.self.now.labels;
  claim = c.args.self.now.claim;
}

-- ---- what a plan leaves of what is committed

-- a plan that was begun, and what was planned of it
stepped : (s : State) (begun made : Store) (group : ℕ) → s.planned ≡ None → PlansFrom s (record s { store = begun }) → OnlyReadsAndPlans begun made []
    → PlansFrom s (record s { store = made })
stepped s begun made group none from steps = from_then s begun made none from steps.out steps.stale steps.shapes (marks_by_map filled_marks begun.spaces made.spaces steps.filled)

given_back : (s : State) (made mid : Store) (gone : List Block) (group : ℕ) → s.planned ≡ None → PlansFrom s (record s { store = made }) → GivesBack made mid gone group
    → PlansFrom s (record s { store = mid })
given_back s made mid gone group none from gives = from_then s made mid none from gives.out gives.stale gives.shapes gives.filled_stays

-- the disks in use are the same
in_use_still : (s : State) (begun : Store) → begun.out ≡ s.store.out → shapes_of begun.spaces ≡ shapes_of s.store.spaces → in_use_of (record s { store = begun }) ≡ in_use_of s
in_use_still s begun out shapes = λ i. filter (λ disk. not (is_out (out i) disk)) (disks_of (same_vdevs s.store.spaces begun.spaces shapes i))

pub returns-then-group-gt-LAST_COUNT-clause-from : goal.returns-then-group-gt-LAST_COUNT-clause-from
returns-then-group-gt-LAST_COUNT-clause-from g c = from_none (state_of c.args.self.now) c.requires.unplanned

pub returns-in_err-begin_plan-clause-from : goal.returns-in_err-begin_plan-clause-from
returns-in_err-begin_plan-clause-from g c =
    from_begun (state_of c.args.self.now) c.begin_plan.new.self c.saturating_add-group.result c.requires.unplanned c.begin_plan.ensures.out (ap (λ (spans : Spans). spans.stale) c.begin_plan.ensures.spans) c.begin_plan.ensures.shapes c.begin_plan.ensures.some

pub returns-in_err-behind-clause-from : goal.returns-in_err-behind-clause-from
returns-in_err-behind-clause-from g c =
    from_begun (state_of c.args.self.now) c.begin_plan.new.self c.saturating_add-group.result c.requires.unplanned c.begin_plan.ensures.out (ap (λ (spans : Spans). spans.stale) c.begin_plan.ensures.spans) c.begin_plan.ensures.shapes c.begin_plan.ensures.some

pub returns-then-not-makes_good_volumes-clause-from : goal.returns-then-not-makes_good_volumes-clause-from
returns-then-not-makes_good_volumes-clause-from g c =
    from_begun (state_of c.args.self.now) c.begin_plan.new.self c.saturating_add-group.result c.requires.unplanned c.begin_plan.ensures.out (ap (λ (spans : Spans). spans.stale) c.begin_plan.ensures.spans) c.begin_plan.ensures.shapes c.begin_plan.ensures.some

pub returns-then-is_err-clause-from : goal.returns-then-is_err-clause-from
returns-then-is_err-clause-from g c =
    let s : State = state_of c.args.self.now in
    let none = c.requires.unplanned in
    let begun = from_begun s c.begin_plan.new.self c.saturating_add-group.result none c.begin_plan.ensures.out (ap (λ (spans : Spans). spans.stale) c.begin_plan.ensures.spans) c.begin_plan.ensures.shapes c.begin_plan.ensures.some in
    let made = stepped s c.begin_plan.new.self c.group_after.new.store c.saturating_add-group.result none begun c.in-Ok.ensures.steps in
    from_then s c.give_back.new.store c.drop_plan.new.self none (given_back s c.group_after.new.store c.give_back.new.store _ c.saturating_add-group.result none made c.give_back.ensures.gives)
    c.drop_plan.ensures.out (ap (λ (spans : Spans). spans.stale) c.drop_plan.ensures.spans) c.drop_plan.ensures.shapes c.drop_plan.ensures.filled

pub returns-else-is_err-clause-from : goal.returns-else-is_err-clause-from
returns-else-is_err-clause-from g c =
    let s : State = state_of c.args.self.now in
    let none = c.requires.unplanned in
    let begun = from_begun s c.begin_plan.new.self c.saturating_add-group.result none c.begin_plan.ensures.out (ap (λ (spans : Spans). spans.stale) c.begin_plan.ensures.spans) c.begin_plan.ensures.shapes c.begin_plan.ensures.some in
    let made = stepped s c.begin_plan.new.self c.group_after.new.store c.saturating_add-group.result none begun c.in-Ok.ensures.steps in
    from_made s c.give_back.new.store (record { after = c.in-Ok.next.after; uberblock = c.uberblock-uberblock.result; behind = c.in_ok-behind.behind })
    (given_back s c.group_after.new.store c.give_back.new.store _ c.saturating_add-group.result none made c.give_back.ensures.gives)
    (c.in_ok-behind.ensures.are.flushes ∙ in_use_still s c.begin_plan.new.self c.begin_plan.ensures.out c.begin_plan.ensures.shapes)
    (subst (λ (group : ℕ). HasSpansAfter c.args.self.now.kept.last c.args.self.now.store.out group c.in-Ok.next.after)
    (sym (ap (λ (u : Uberblock). u.group) c.uberblock-uberblock.ensures.is))
    (subst (λ (out : List Bool). HasSpansAfter c.args.self.now.kept.last out c.saturating_add-group.result c.in-Ok.next.after) c.begin_plan.ensures.out
    (subst (λ (kept : KeptGroup). HasSpansAfter kept c.begin_plan.new.self.out c.saturating_add-group.result c.in-Ok.next.after) c.last-last.ensures c.in-Ok.ensures.spans)))

pub returns-in-Err-clause-from : goal.returns-in-Err-clause-from
returns-in-Err-clause-from g c =
    let s : State = state_of c.args.self.now in
    let none = c.requires.unplanned in
    let begun = from_begun s c.begin_plan.new.self c.saturating_add-group.result none c.begin_plan.ensures.out (ap (λ (spans : Spans). spans.stale) c.begin_plan.ensures.spans) c.begin_plan.ensures.shapes c.begin_plan.ensures.some in
    stepped s c.begin_plan.new.self c.group_after.new.store c.saturating_add-group.result none begun c.in-Err.ensures.steps

-- ---- the timestamp of the plan

untimed : (timestamp : ℕ) (o : Option Planned) → o ≡ None → (plan : Planned) → o ≡ Some plan → plan.uberblock.timestamp ≡ timestamp
untimed timestamp None none plan is = absurd (cc)
untimed timestamp (Some there) none plan is = absurd (cc)

pub returns-then-group-gt-LAST_COUNT-clause-timed : goal.returns-then-group-gt-LAST_COUNT-clause-timed
returns-then-group-gt-LAST_COUNT-clause-timed g c = untimed c.args.timestamp c.args.self.now.planned c.requires.unplanned

pub returns-in_err-begin_plan-clause-timed : goal.returns-in_err-begin_plan-clause-timed
returns-in_err-begin_plan-clause-timed g c = untimed c.args.timestamp c.args.self.now.planned c.requires.unplanned

pub returns-in_err-behind-clause-timed : goal.returns-in_err-behind-clause-timed
returns-in_err-behind-clause-timed g c = untimed c.args.timestamp c.args.self.now.planned c.requires.unplanned

pub returns-then-not-makes_good_volumes-clause-timed : goal.returns-then-not-makes_good_volumes-clause-timed
returns-then-not-makes_good_volumes-clause-timed g c = untimed c.args.timestamp c.args.self.now.planned c.requires.unplanned

pub returns-then-is_err-clause-timed : goal.returns-then-is_err-clause-timed
returns-then-is_err-clause-timed g c = untimed c.args.timestamp c.args.self.now.planned c.requires.unplanned

pub returns-in-Err-clause-timed : goal.returns-in-Err-clause-timed
returns-in-Err-clause-timed g c = untimed c.args.timestamp c.args.self.now.planned c.requires.unplanned

pub returns-else-is_err-clause-timed : goal.returns-else-is_err-clause-timed
returns-else-is_err-clause-timed g c plan is =
    let planned : Planned = record { after = c.in-Ok.next.after; uberblock = c.uberblock-uberblock.result; behind = c.in_ok-behind.behind } in
    let one : planned ≡ plan = cc in
    subst (λ (p : Planned). p.uberblock.timestamp ≡ c.args.timestamp) one (ap (λ (u : Uberblock). u.timestamp) c.uberblock-uberblock.ensures.is)
