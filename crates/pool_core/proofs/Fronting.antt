-- Steps that touch no disk.
use Rattle.std.proofs.Common.{◌≡◌, ⊎_elim, ℕ, suc, Bool, true, false, true≢false, List, [], ◌∷◌, Option, Some, None, refl, sym, ap, ◌∙◌, subst, inl}
use Rattle.std.specs.Prelude.{Contains, filter, is_some, not, nat_le, nat_lt, ◌&&◌, if◌then◌else◌}
use Rattle.block_store.specs.Blocks.{Contents}
use Rattle.pool_model.specs.declared.refusal.Refusal.TheVariants as causes
use Rattle.pool_model.specs.declared.refusal.Refusal.{Refusal as Cause}
use Rattle.pool_model.specs.declared.step.Step.{Step}
use Rattle.pool_model.specs.declared.step.Step.TheVariants.{Hold, Write, Act, Release, Close, Quiesce, Plan, Device, DiskOut, Read, ReadUnder}
use Rattle.pool_model.specs.declared.step.Reply.{Reply}
use Rattle.pool_model.specs.declared.step.Reply.TheVariants.{Held, Committed, Refused}
use Rattle.pool_model.specs.Pools.{PlainPool, applied}
use Rattle.pool_model.specs.View.{View, Given, nothing_given, disks_of, disks_in_use, is_syncing, is_planned, is_suspended, is_quiescing, is_held, hold_group, open_group, waiting_group}
use Rattle.pool_model.specs.Refusals.{greatest, first_cause, or_else, may_plan, refusal_of}
use Rattle.pool_model.specs.Machine.{StepOf, MayAnswer}
use Rattle.pool_model.proofs.Plans.{nothing_quiet, may_nothing}
use Rattle.pool_intake.specs.declared.intake.Intake.{Intake}
use Rattle.pool_intake.specs.Follows.{Follows, KeepsCommitted}
use Rattle.pool_commit.specs.declared.kept.Planned.{Planned}
use Rattle.pool_commit.specs.Backs.{IsUberblockOf, Backs, IsPlanOf, IsReachOfPlan, KeptHasMaps, KeptLeadsTo, PlansReach, SpellsGroup, SpellsKept, kept_pool, pool_after}
use Rattle.pool_commit.specs.Calls.{fault_call, unread_call, which_call}
use Rattle.pool_commit.specs.State.{State, group_at}
use Rattle.pool_commit.proofs.Made.{made_by_none, told_by_none}
use Rattle.pool_core.specs.Represents.{Represents}
use Rattle.pool_core.specs.State.{CoreState, disks_of as core_disks}
use Rattle.pool_core.specs.Steps.{OnlyWritesAndFlushes, IsGiven, AreFlushed, ShowsGroup, is_barred, Goes}

-- ---- what backs a view backs one with the same disks and groups

pool_kept : (v w : View) → KeepsCommitted v w → (group : ℕ) → kept_pool w group ≡ kept_pool v group
pool_kept v w k group =
    (λ i. if nat_le (k.first i) group && (nat_le group (k.committed i) && nat_lt (k.committed i) (suc (suc (suc group)))) then Some (k.pools i group) else None)

made_kept : (v w : View) → KeepsCommitted v w → is_syncing v.sync ≡ true → pool_after w ≡ pool_after v
made_kept v w k syncs =
    (λ i. applied (suc (k.committed i)) (k.pools i (k.committed i)) ((ap w.ledger (ap suc k.committed) ∙ k.synced syncs) i))

in_use_kept : (v w : View) → KeepsCommitted v w → disks_in_use w ≡ disks_in_use v
in_use_kept v w k = λ i. filter (λ disk. not (k.out i disk)) (disks_of (k.vdevs i))

plan_kept : (s : State) (planned : Contents) (plan : Option Planned) (v w : View) → KeepsCommitted v w → IsPlanOf s planned plan v → IsPlanOf s planned plan w
plan_kept s planned None v w k is = ap is_planned k.sync ∙ is
plan_kept s planned (Some plan) v w k is = record {
  counts = is.counts;
  slot_counts = is.slot_counts;
  sync = k.sync ∙ is.sync;
  spells = subst (λ (p : PlainPool). SpellsGroup planned (suc w.committed) plan.after p) (sym (made_kept v w k (ap is_syncing is.sync)))
      (subst (λ c. SpellsGroup planned (suc c) plan.after (pool_after v)) (sym k.committed) is.spells);
  config = is.config;
  uberblock = subst (λ c. IsUberblockOf s.stamp (suc c) plan) (sym k.committed) is.uberblock;
  to_flush = λ disk in_use. is.to_flush disk (subst (λ (disks : List ℕ). Contains disks disk) (in_use_kept v w k) in_use);
  shown = λ write in_use label. is.shown write (subst (λ (disks : List ℕ). Contains disks write.disk) (in_use_kept v w k) in_use) label;
  in_use = is.in_use;
}

reach_kept : (s : State) (v w : View) (backs : Backs s v) (plan : Option Planned) → KeepsCommitted v w → IsPlanOf s backs.blocks.planned plan v
    → IsReachOfPlan s.store.spaces backs.blocks.reached.reach backs.blocks.stored backs.blocks.planned plan v
    → IsReachOfPlan s.store.spaces backs.blocks.reached.reach backs.blocks.stored backs.blocks.planned plan w
reach_kept s v w backs None k is reach = tt
reach_kept s v w backs (Some plan) k is reach =
    let blocks = backs.blocks in
    subst (λ (p : PlainPool). PlansReach s.store.spaces blocks.reached.reach blocks.stored blocks.planned (suc w.committed) plan.after p) (sym (made_kept v w k (ap is_syncing is.sync)))
    (subst (λ c. PlansReach s.store.spaces blocks.reached.reach blocks.stored blocks.planned (suc c) plan.after (pool_after v)) (sym k.committed) reach)

pub backs_kept : (s : State) (v w : View) → KeepsCommitted v w → Backs s v → Backs s w
backs_kept s v w k backs = record {
  vdevs = k.vdevs ∙ backs.vdevs;
  slots = k.slots ∙ backs.slots;
  out = λ disk. ap (λ (o : ℕ → Bool). o disk) k.out ∙ backs.out disk;
  stale = λ disk birth. ap (λ (lacks : ℕ → ℕ → Bool). lacks disk birth) k.stale ∙ backs.stale disk birth;
  committed = backs.committed ∙ sym k.committed;
  stamped = backs.stamped;
  blocks = record {
    stored = backs.blocks.stored;
    planned = backs.blocks.planned;
    plans = backs.blocks.plans;
    kept = λ group. subst (λ (o : Option PlainPool). SpellsKept backs.blocks.stored group (group_at s.kept group) o) (sym (pool_kept v w k group)) (backs.blocks.kept group);
    plan = plan_kept s backs.blocks.planned s.planned v w k backs.blocks.plan;
    reached = record {
      reach = backs.blocks.reached.reach;
      leads = λ group.
          subst (λ (o : Option PlainPool). KeptLeadsTo backs.blocks.stored group (group_at s.kept group) o (backs.blocks.reached.reach group)) (sym (pool_kept v w k group))
          (backs.blocks.reached.leads group);
      once = backs.blocks.reached.once;
      only = backs.blocks.reached.only;
      held = backs.blocks.reached.held;
      accounted = backs.blocks.reached.accounted;
      released = backs.blocks.reached.released;
      mapped = λ group.
          subst (λ (o : Option PlainPool). KeptHasMaps s.store.spaces backs.blocks.stored group (group_at s.kept group) o) (sym (pool_kept v w k group)) (backs.blocks.reached.mapped group);
    };
    plan_reached = reach_kept s v w backs s.planned k backs.blocks.plan backs.blocks.plan_reached;
  };
}

-- ---- nothing was called

pub nothing_is_given : (s : CoreState) (v : View) (step : Step) (intake : Intake) → IsGiven s v step (record s { intake = intake }) nothing_given
nothing_is_given s v step intake = record {
  made = sym (made_by_none (core_disks s));
  fault = sym (told_by_none fault_call (core_disks s));
  unread = sym (told_by_none unread_call (core_disks s));
  lost = λ vdev e. absurd (cc);
  full = λ e. absurd (true≢false (sym e));
}

-- a step that no disk is called for
abbrev pub IsFrontStep : Step → Type 0
IsFrontStep Device = ⊥
IsFrontStep step = Unit {0}

pub front_calls : (step : Step) (old : CoreState) (given : Given) (new : CoreState) → IsFrontStep step → OnlyWritesAndFlushes step old given new
front_calls Device old given new is = absurd is
front_calls (Hold writer) old given new is = tt
front_calls step old given new is = tt

-- where no disk was called
pub nothing_called : (step : Step) (s : CoreState) (intake : Intake) → OnlyWritesAndFlushes step s nothing_given (record s { intake = intake })
nothing_called Device s intake = told_by_none which_call (core_disks s)
nothing_called (Hold writer) s intake = tt
nothing_called step s intake = tt

-- only a Device step commits
answers_commit_none : (v : View) (given : Given) (step : Step) (group : ℕ) (w : View) → IsFrontStep step → MayAnswer v given step (Committed group) w → ⊥
answers_commit_none v given Device group w is g = is
answers_commit_none v given (Hold writer) group w is g = g
answers_commit_none v given step group w is g = g

pub front_commits_none : (v : View) (given : Given) (step : Step) (reply : Reply) (w : View) (new : CoreState) → IsFrontStep step → StepOf v given step reply w → AreFlushed reply w new
front_commits_none v given step (Committed group) w new is s = absurd (⊎_elim (λ r. let e = r.answer in cc) (λ o. ⊎_elim (λ l. let e = l.answer in cc) (λ g. answers_commit_none v given step group w is g.answered) o) s)
front_commits_none v given step (Held group) w new is s = tt
front_commits_none v given step reply w new is s = tt

pub front_shows_none : (v : View) (given : Given) (step : Step) (reply : Reply) (old : CoreState) (w : View) (new : CoreState) → IsFrontStep step → StepOf v given step reply w → ShowsGroup reply old w new
front_shows_none v given step (Committed group) old w new is s = absurd (⊎_elim (λ r. let e = r.answer in cc) (λ o. ⊎_elim (λ l. let e = l.answer in cc) (λ g. answers_commit_none v given step group w is g.answered) o) s)
front_shows_none v given step (Held group) old w new is s = tt
front_shows_none v given step reply old w new is s = tt

-- a step of the intake
pub front : (s : CoreState) (intake : Intake) (v : View) (trusted : Bool) (step : Step) (reply : Reply) → Represents s v → IsFrontStep step
    → (w : View) × StepOf v nothing_given step reply w × Follows intake w × KeepsCommitted v w
    → Goes s v trusted step reply (record s { intake = intake })
front s intake v trusted step reply r is_front goes = record {
  given = nothing_given;
  trust = λ e. refl;
  after = goes.0;
  link = record {
    is_given = nothing_is_given s v step intake;
    is_step = goes.1;
    represents = record { follows = goes.2; backs = backs_kept s.commit v goes.0 goes.3 r.backs };
    flushed = front_commits_none v nothing_given step reply goes.0 (record s { intake = intake }) is_front goes.1;
    shown = front_shows_none v nothing_given step reply s goes.0 (record s { intake = intake }) is_front goes.1;
    untouched = λ disk away. refl;
    only = front_calls step s nothing_given (record s { intake = intake }) is_front;
  };
}

-- a step that is refused for its first cause
pub refused : (s : CoreState) (v : View) (trusted : Bool) (step : Step) (cause : Cause) → Represents s v → refusal_of v step ≡ Some cause → Goes s v trusted step (Refused cause) s
refused s v trusted step cause r first = record {
  given = nothing_given;
  trust = λ e. refl;
  after = v;
  link = record {
    is_given = nothing_is_given s v step s.intake;
    is_step = inl (record { cause = cause; first = first; answer = refl; unchanged = refl; quiet = nothing_quiet; calls = may_nothing step });
    represents = r;
    flushed = tt;
    shown = tt;
    untouched = λ disk away. refl;
    only = nothing_called step s s.intake;
  };
}

-- the pool is suspended: the first of the tests
pub suspended : (v : View) (rest : List (Bool × Cause)) → is_suspended v ≡ true → first_cause ((is_suspended v, causes.Suspended) ∷ rest) ≡ Some causes.Suspended
suspended v rest e = ap (λ b. if b then Some causes.Suspended else first_cause rest) e

pub suspended_else : (v : View) (rest : Option Cause) → is_suspended v ≡ true → or_else (first_cause ((is_suspended v, causes.Suspended) ∷ [])) rest ≡ Some causes.Suspended
suspended_else v rest e = ap (λ o. or_else o rest) (suspended v [] e)

-- ---- the pool is suspended, step by step

pub barred : (v : View) (step : Step) → is_barred step ≡ true → is_suspended v ≡ true → refusal_of v step ≡ Some causes.Suspended
barred v (Hold writer) b e = suspended v ((is_some (hold_group writer v.holds), causes.AlreadyHeld) ∷ []) e
barred v (Write write) b e = suspended_else v _ e
barred v (Act action) b e = suspended_else v _ e
barred v Close b e = suspended v ((is_some v.waiting, causes.NotNow) ∷ (nat_le greatest (open_group v), causes.NotNow) ∷ []) e
barred v Quiesce b e = suspended v ((not (is_quiescing v.waiting), causes.NotNow) ∷ (is_held (waiting_group v) v.holds, causes.NotNow) ∷ []) e
barred v (Plan timestamp) b e = suspended v ((not (may_plan v), causes.NotNow) ∷ []) e
barred v Device b e = suspended v ((not (is_planned v.sync), causes.NotNow) ∷ []) e
barred v (Release writer) b e = absurd (true≢false (sym b))
barred v (DiskOut disk) b e = absurd (true≢false (sym b))
barred v (Read name offset len) b e = absurd (true≢false (sym b))
barred v (ReadUnder group name offset len) b e = absurd (true≢false (sym b))

-- the pool is not suspended, where a step that would be barred is taken
pub not_barred : (barred suspended : Bool) → barred ≡ true → (barred && suspended) ≡ false → suspended ≡ false
not_barred true suspended b e = e
not_barred false suspended b e = absurd (true≢false (sym b))

pub is_barred_then : (barred suspended : Bool) → (barred && suspended) ≡ true → (barred ≡ true) × (suspended ≡ true)
is_barred_then true true e = (refl, refl)
is_barred_then true false e = absurd (true≢false (sym e))
is_barred_then false suspended e = absurd (true≢false (sym e))
