-- Where nothing speaks against a step of groups, holds and items, it may be answered; and what a plan that is dropped leaves.
use Rattle.std.proofs.Common.{◌≡◌, ◌⊎◌, ℕ, suc, [], Bool, true, false, true≢false, Option, Some, None, refl, sym, ap, inl, inr}
use Rattle.std.specs.Prelude.{is_some, not, ◌&&◌, ◌||◌, if◌then◌else◌}
use Rattle.pool_model.specs.declared.group.Stage.{Stage}
use Rattle.pool_model.specs.declared.group.Stage.TheVariants.{Quiescing, Quiesced as QuiescedStage}
use Rattle.pool_model.specs.declared.item.Action.{Action}
use Rattle.pool_model.specs.declared.item.Item.TheVariants.{Write as WriteItem, Action as ActionItem}
use Rattle.pool_model.specs.declared.item.Write.{Write}
use Rattle.pool_model.specs.declared.step.Step.TheVariants.{Hold, Write as WriteStep, Act, Release, Close, Quiesce, Plan, DiskOut}
use Rattle.pool_model.specs.declared.step.Reply.TheVariants.{Held, Receipt, Released, Closed, Quiesced, Planned, Out}
use Rattle.pool_model.specs.View.{View, Sync, Idle, Unplanned, Due, nothing_given, is_syncing, is_planned, is_quiesced, disks_in_use, open_group, waiting_group}
use Rattle.pool_model.specs.declared.volume.PlainVolume.{PlainVolume}
use Rattle.pool_model.specs.Pools.{PlainPool}
use Rattle.pool_model.specs.Refusals.{write_refusal, act_refusal, refusal_of}
use Rattle.pool_model.specs.Groups.{Counters, counters_of}
use Rattle.pool_model.specs.Flow.{flow_of, with_hold, without_hold, with_accepted}
use Rattle.pool_model.specs.Machine.{disks_with_slots, with_flow, taken, without_plan, dropped, gone_out, IsAnswered}
use Rattle.pool_model.proofs.Causes.{or_none, none_of, first_none, not_false, write_none, act_none, act_open, below_greatest, quiescing, quiesced}
use Rattle.pool_model.proofs.Moves.{plan_none}
use Rattle.pool_model.proofs.Plans.{plan_calls, is_plan_of, may_nothing}

pub hold_answered : (v : View) (writer : ℕ) → refusal_of v (Hold writer) ≡ None → (w : View) × IsAnswered v nothing_given (Hold writer) (Held (open_group v)) w
hold_answered v writer n =
    let one = first_none _ _ _ n in
    let two = first_none _ _ _ one.1 in
    (with_flow v (with_hold (flow_of v) writer (open_group v)), record { none = n; answered = ((none_of _ two.0, refl, refl), refl); calls = may_nothing (Hold writer) })

hold_of_write : (w : Write) (expected : ℕ) (found : Option PlainVolume) (hold : Option ℕ) → write_refusal w expected found hold ≡ None → (group : ℕ) × (hold ≡ Some group)
hold_of_write w expected found None e = absurd (cc)
hold_of_write w expected found (Some group) e = (group, refl)

pub write_answered : (v : View) (w : Write) → refusal_of v (WriteStep w) ≡ None → (group : ℕ) × (x : View) × IsAnswered v nothing_given (WriteStep w) (Receipt group) x
write_answered v w n =
    let one = or_none _ _ n in
    let two = write_none w _ _ _ one.1 in
    let hold = hold_of_write w _ _ _ one.1 in (
      hold.0,
      with_flow v (with_accepted (flow_of v) w.writer hold.0 (WriteItem w)),
      record { none = n; answered = ((hold.1, two.0, two.1, refl), refl); calls = may_nothing (WriteStep w) },
    )

hold_of_act : (a : Action) (expected opened : ℕ) (now : PlainPool) (hold : Option ℕ) → act_refusal a expected opened now hold ≡ None → (group : ℕ) × (hold ≡ Some group)
hold_of_act a expected opened now None e = absurd (cc)
hold_of_act a expected opened now (Some group) e = (group, refl)

pub act_answered : (v : View) (a : Action) → refusal_of v (Act a) ≡ None → (group : ℕ) × (w : View) × IsAnswered v nothing_given (Act a) (Receipt group) w
act_answered v a n =
    let one = or_none _ _ n in
    let two = act_none a _ _ _ _ one.1 in
    let hold = hold_of_act a _ _ _ _ one.1 in (
      hold.0,
      with_flow v (with_accepted (flow_of v) a.writer hold.0 (ActionItem a)),
      record { none = n; answered = ((hold.1, two.0, two.1, act_open a _ _ _ _ hold.1 one.1, refl), refl); calls = may_nothing (Act a) },
    )

pub release_answered : (v : View) (writer : ℕ) → refusal_of v (Release writer) ≡ None → (w : View) × IsAnswered v nothing_given (Release writer) Released w
release_answered v writer n = (with_flow v (without_hold (flow_of v) writer), record { none = n; answered = (refl, refl); calls = may_nothing (Release writer) })

pub close_answered : (v : View) → refusal_of v Close ≡ None → (w : View) × IsAnswered v nothing_given Close (Closed (open_group v)) w
close_answered v n =
    let zero = first_none _ _ _ n in
    let one = first_none _ _ _ zero.1 in
    let two = first_none _ _ _ one.1 in
    (record v { waiting = Some Quiescing }, record { none = n; answered = ((none_of _ one.0, below_greatest (open_group v) two.0, refl, refl), refl); calls = may_nothing Close })

pub quiesce_answered : (v : View) → refusal_of v Quiesce ≡ None → (w : View) × IsAnswered v nothing_given Quiesce (Quiesced (waiting_group v)) w
quiesce_answered v n =
    let zero = first_none _ _ _ n in
    let one = first_none _ _ _ zero.1 in
    let two = first_none _ _ _ one.1 in
    (record v { waiting = Some QuiescedStage }, record { none = n; answered = ((quiescing _ (not_false _ one.0), two.0, refl, refl), refl); calls = may_nothing Quiesce })

-- where nothing speaks against planning, there is a group to be taken
pub takes_due : (v : View) (timestamp : ℕ) → refusal_of v (Plan timestamp) ≡ None → (is_syncing v.sync ≡ true) ⊎ (v.waiting ≡ Some QuiescedStage)
takes_due v timestamp n = cases (is_planned v.sync) (is_syncing v.sync) v.waiting (plan_none v timestamp n)
  where
    cases : (p s : Bool) (o : Option Stage) → (not p && (s || is_quiesced o)) ≡ true → (s ≡ true) ⊎ (o ≡ Some QuiescedStage)
    cases true s o e = absurd (true≢false (sym e))
    cases false true o e = inl refl
    cases false false o e = inr (quiesced o e)

pub plan_answered : (v : View) (timestamp : ℕ) → refusal_of v (Plan timestamp) ≡ None → (w : View) × IsAnswered v nothing_given (Plan timestamp) (Planned (suc v.committed)) w
plan_answered v timestamp n = (
  taken v (Due (plan_calls [] (disks_in_use v) (disks_with_slots v))),
  record { none = n; answered = ((refl, (takes_due v timestamp n, refl)), plan_calls [] (disks_in_use v) (disks_with_slots v), is_plan_of v [] tt, refl); calls = may_nothing (Plan timestamp) },
)

pub out_answered : (v : View) (disk : ℕ) → refusal_of v (DiskOut disk) ≡ None → IsAnswered v nothing_given (DiskOut disk) Out (gone_out v disk)
out_answered v disk n = record { none = n; answered = refl; calls = may_nothing (DiskOut disk) }

-- a group that is synced already, and has no plan, is taken as it is
pub taken_already : (v : View) → is_syncing v.sync ≡ true → is_planned v.sync ≡ false → taken v Unplanned ≡ v
taken_already v syncs none = λ i. record v { sync = sym (unplanned v.sync syncs none) i; waiting = waits i }
  where
    unplanned : (sync : Sync) → is_syncing sync ≡ true → is_planned sync ≡ false → sync ≡ Unplanned
    unplanned Idle e p = absurd (true≢false (sym e))
    unplanned Unplanned e p = refl
    unplanned (Due calls) e p = absurd (true≢false p)

    waits : (if is_syncing v.sync then v.waiting else None) ≡ v.waiting
    waits = ap (λ b. if b then v.waiting else None) syncs

-- ---- a plan that is dropped

pub stays_unplanned : (sync : Sync) → is_planned sync ≡ false → without_plan sync ≡ sync
stays_unplanned Idle e = refl
stays_unplanned Unplanned e = refl
stays_unplanned (Due calls) e = absurd (true≢false e)

pub syncs_without_plan : (sync : Sync) → is_syncing (without_plan sync) ≡ is_syncing sync
syncs_without_plan Idle = refl
syncs_without_plan Unplanned = refl
syncs_without_plan (Due calls) = refl

pub none_planned : (sync : Sync) → is_planned (without_plan sync) ≡ false
none_planned Idle = refl
none_planned Unplanned = refl
none_planned (Due calls) = refl

pub flow_dropped : (v : View) (disk : ℕ) → flow_of (dropped v disk) ≡ flow_of v
flow_dropped v disk = ap (λ b. record (flow_of v) { syncing = b }) (syncs_without_plan v.sync)

abbrev counters : ℕ → Bool → Option Stage → Bool → Counters
counters committed syncing waiting planned = record {
  committed = committed;
  taken = if syncing then suc committed else committed;
  quiesced = if is_quiesced waiting then suc (if syncing then suc committed else committed) else (if syncing then suc committed else committed);
  closed = if is_some waiting then suc (if syncing then suc committed else committed) else (if syncing then suc committed else committed);
  planned = planned;
}

pub counters_dropped : (v : View) (disk : ℕ) → counters_of (dropped v disk) ≡ record (counters_of v) { planned = false }
counters_dropped v disk = λ i. counters v.committed (syncs_without_plan v.sync i) v.waiting (none_planned v.sync i)
