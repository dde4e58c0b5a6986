-- The ways in which the machine may go on, each from a view that shows what it needs.
use Rattle.std.proofs.Common.{◌≡◌, ◌⊎◌, ⊎_elim, inl, inr, ◌≤◌, ◌<◌, ℕ, suc, List, [], ◌∷◌, Bool, true, false, true≢false, Option, Some, None, refl, sym, ap, ◌∙◌, subst}
use Rattle.std.specs.Prelude.{not, filter, ◌==◌, ◌&&◌, ◌||◌, if◌then◌else◌}
use Rattle.pool_model.specs.declared.group.Stage.{Stage}
use Rattle.pool_model.specs.declared.group.Stage.TheVariants.{Quiescing, Quiesced as QuiescedStage}
use Rattle.pool_model.specs.declared.item.Action.{Action}
use Rattle.pool_model.specs.declared.item.Item.TheVariants.{Write as WriteItem, Action as ActionItem}
use Rattle.pool_model.specs.declared.item.Write.{Write}
use Rattle.pool_model.specs.declared.step.Phase.{Phase}
use Rattle.pool_model.specs.declared.step.Step.{Step}
use Rattle.pool_model.specs.declared.step.Step.TheVariants.{Hold, Write as WriteStep, Act, Release, Close, Quiesce, Plan, Device, DiskOut, Read, ReadUnder}
use Rattle.pool_model.specs.declared.step.Reply.{Reply}
use Rattle.pool_model.specs.declared.step.Reply.TheVariants.{Held, Receipt, Released, Closed, Quiesced, Planned, Moved, Replan, Committed, Out, Bytes, Refused}
use Rattle.pool_model.specs.declared.refusal.Refusal.{Refusal}
use Rattle.pool_model.specs.declared.refusal.Refusal.TheVariants.{NoMemory, DiskFault, NoSpace, Suspended, NotNow, BadPointer, BadDigest, BadMap}
use Rattle.pool_model.specs.View.{View, Given, DueCall, Sync, is_fault_on, Idle, Unplanned, Due, is_syncing, is_planned, is_quiesced, is_suspended, waiting_group, open_group, is_kept, hold_group, is_held, now_of}
use Rattle.pool_model.specs.Refusals.{greatest, first_cause, may_plan, refusal_of}
use Rattle.pool_model.specs.Flow.{Flow, flow_of, with_hold, without_hold, with_accepted}
use Rattle.pool_model.specs.Headline.{OutsBy}
use Rattle.pool_model.specs.Machine.{with_flow, taken, is_late_sync, calls_without, without_disk, dropped, gone_out, committed_next, FailsOn, GoesWell, GoesWithout, IsDone, IsQuiet, IsUnreadable, MayLack, without_memory, AreBytesOf, MayAnswer, StepOf}
use Rattle.pool_model.proofs.Causes.{or_none, first_none, not_false}

-- a Plan that is refused leaves its group taken, unless the pool is suspended or no group is due
abbrev pub IsPlanFault : Refusal → Type 0
IsPlanFault Suspended = ⊥
IsPlanFault NotNow = ⊥
IsPlanFault cause = Unit {0}

-- a refusal of this cause may change nothing
abbrev pub MayStay : Step → Refusal → Type 0
MayStay (Plan timestamp) cause = (cause ≡ Suspended) ⊎ (cause ≡ NotNow)
MayStay step cause = Unit {0}

-- a Device step without a fault
abbrev pub NoFault : Step → Given → Type 0
NoFault Device given = given.fault ≡ None
NoFault step given = Unit {0}

-- the one call that failed was on this disk
abbrev pub IsFaultOn : Given → ℕ → Type 0
IsFaultOn given disk = (call : DueCall) × (given.fault ≡ Some call) × (call.disk ≡ disk)

-- a Device step that fails on no disk takes none out; one that fails takes its disk out
pub none_out : (out : ℕ → Bool) (given : Given) (reply : Reply) → given.fault ≡ None → OutsBy out Device given reply out
none_out out given reply e = λ disk. ap (λ (fault : Option DueCall). is_fault_on fault disk || out disk) (sym e)

pub goes_out : (out : ℕ → Bool) (given : Given) (reply : Reply) (disk : ℕ) → IsFaultOn given disk → OutsBy out Device given reply (λ d. (d == disk) || out d)
goes_out out given reply disk e = λ d. sym (ap (λ (fault : Option DueCall). is_fault_on fault d || out d) e.1 ∙ ap (λ (on : ℕ). (d == on) || out d) e.2)

-- a property of steps, proved of each way to go on
pub record EachMove (P : View → Given → Step → Reply → View → Type 0) : Type 0 where
  pub stays : (v : View) (given : Given) (step : Step) (cause : Refusal) → MayStay step cause → NoFault step given → P v given step (Refused cause) v
  pub begun : (v : View) (given : Given) (timestamp : ℕ) (cause : Refusal) → IsPlanFault cause → P (record v { sync = Idle; waiting = Some QuiescedStage }) given (Plan timestamp) (Refused cause) (record v { sync = Unplanned; waiting = None })
  pub again : (v : View) (given : Given) (timestamp : ℕ) (cause : Refusal) → IsPlanFault cause → P (record v { sync = Unplanned }) given (Plan timestamp) (Refused cause) (record v { sync = Unplanned })
  pub failed : (v : View) (given : Given) (disk : ℕ) (left : List DueCall) → IsFaultOn given disk → P (record v { sync = Due left }) given Device (Refused Suspended) (dropped (record v { sync = Due left }) disk)
  pub replanned : (v : View) (given : Given) (disk : ℕ) (left : List DueCall) → IsFaultOn given disk → P (record v { sync = Due left }) given Device (Replan disk) (dropped (record v { sync = Due left }) disk)
  pub out_unplanned : (v : View) (given : Given) (disk : ℕ) → is_planned v.sync ≡ false → P v given (DiskOut disk) Out (without_disk v disk)
  pub out_early : (v : View) (given : Given) (disk : ℕ) (left : List DueCall) → P (record v { sync = Due left }) given (DiskOut disk) Out (dropped (record v { sync = Due left }) disk)
  pub out_late : (v : View) (given : Given) (disk : ℕ) (left : List DueCall)
      → P (record v { sync = Due left }) given (DiskOut disk) Out (record (without_disk v disk) { sync = Due (filter (λ call. not (call.disk == disk)) left) })
  pub moved : (v : View) (given : Given) (phase : Phase) (left rest : List DueCall) (out : ℕ → Bool) → OutsBy v.out Device given (Moved phase) out → P (record v { sync = Due left }) given Device (Moved phase) (record v { sync = Due rest; out = out })
  pub read : (v : View) (given : Given) (name : List ℕ) (offset len : ℕ) (bytes : List ℕ) → (given.trusted ≡ true → AreBytesOf (now_of v) name offset len bytes) → P v given (Read name offset len) (Bytes bytes) v
  pub read_under : (v : View) (given : Given) (group : ℕ) (name : List ℕ) (offset len : ℕ) (bytes : List ℕ) → is_kept v group ≡ true → (given.trusted ≡ true → AreBytesOf (v.pools group) name offset len bytes) → P v given (ReadUnder group name offset len) (Bytes bytes) v
  pub held : (v : View) (given : Given) (writer : ℕ) → hold_group writer v.holds ≡ None → P v given (Hold writer) (Held (open_group v)) (with_flow v (with_hold (flow_of v) writer (open_group v)))
  pub wrote : (v : View) (given : Given) (w : Write) (group : ℕ) → hold_group w.writer v.holds ≡ Some group → w.number ≡ v.next w.writer → w.number ≤ greatest → P v given (WriteStep w) (Receipt group) (with_flow v (with_accepted (flow_of v) w.writer group (WriteItem w)))
  pub acted : (v : View) (given : Given) (a : Action) (group : ℕ) → hold_group a.writer v.holds ≡ Some group → a.number ≡ v.next a.writer → a.number ≤ greatest → group ≡ open_group v → P v given (Act a) (Receipt group) (with_flow v (with_accepted (flow_of v) a.writer group (ActionItem a)))
  pub released : (v : View) (given : Given) (writer : ℕ) → P v given (Release writer) Released (with_flow v (without_hold (flow_of v) writer))
  pub closed : (v : View) (given : Given) → waiting_group v < greatest → P (record v { waiting = None }) given Close (Closed (waiting_group v)) (record v { waiting = Some Quiescing })
  pub quiesced : (v : View) (given : Given) → is_held (waiting_group v) v.holds ≡ false → P (record v { waiting = Some Quiescing }) given Quiesce (Quiesced (waiting_group v)) (record v { waiting = Some QuiescedStage })
  pub planned : (v : View) (given : Given) (timestamp : ℕ) (calls : List DueCall) → P (record v { sync = Idle; waiting = Some QuiescedStage }) given (Plan timestamp) (Planned (suc v.committed)) (record v { sync = Due calls; waiting = None })
  pub replanned_group : (v : View) (given : Given) (timestamp : ℕ) (calls : List DueCall) → P (record v { sync = Unplanned }) given (Plan timestamp) (Planned (suc v.committed)) (record v { sync = Due calls })
  pub committed : (v : View) (given : Given) (left : List DueCall) (out : ℕ → Bool) → OutsBy v.out Device given (Committed (suc v.committed)) out → P (record v { sync = Due left }) given Device (Committed (suc v.committed)) (committed_next (record v { out = out }))

-- where nothing speaks against planning, there is a group to be planned
pub plan_none : (v : View) (timestamp : ℕ) → refusal_of v (Plan timestamp) ≡ None → may_plan v ≡ true
plan_none v timestamp n =
    let one = first_none _ _ _ n in
    let two = first_none _ _ _ one.1 in
    not_false _ two.0

-- a group is taken to be synced: the quiesced one, or the one that has no plan
takes_group : (P : View → Given → Step → Reply → View → Type 0) (v : View) (given : Given) (timestamp : ℕ) (reply : Reply) (sync : Sync)
    → ((u : View) → u.committed ≡ v.committed → P (record u { sync = Idle; waiting = Some QuiescedStage }) given (Plan timestamp) reply (record u { sync = sync; waiting = None }))
    → ((u : View) → u.committed ≡ v.committed → P (record u { sync = Unplanned }) given (Plan timestamp) reply (record u { sync = sync }))
    → (s : Sync) (o : Option Stage) → v.sync ≡ s → v.waiting ≡ o → (not (is_planned s) && (is_syncing s || is_quiesced o)) ≡ true → P v given (Plan timestamp) reply (taken v sync)
takes_group P v given timestamp reply sync next again Idle None es eo t = absurd (true≢false (sym t))
takes_group P v given timestamp reply sync next again Idle (Some Quiescing) es eo t = absurd (true≢false (sym t))
takes_group P v given timestamp reply sync next again Idle (Some QuiescedStage) es eo t =
    subst (λ (p : Sync × Option Stage). P (record v { sync = p.0; waiting = p.1 }) given (Plan timestamp) reply (taken (record v { sync = p.0; waiting = p.1 }) sync)) (λ i. (sym es i, sym eo i)) (next v refl)
takes_group P v given timestamp reply sync next again Unplanned o es eo t =
    subst (λ (s : Sync). P (record v { sync = s }) given (Plan timestamp) reply (taken (record v { sync = s }) sync)) (sym es) (again v refl)
takes_group P v given timestamp reply sync next again (Due calls) o es eo t = absurd (true≢false (sym t))

begins : (P : View → Given → Step → Reply → View → Type 0) → EachMove P → (v : View) (given : Given) (timestamp : ℕ) (cause : Refusal) → IsPlanFault cause → may_plan v ≡ true → P v given (Plan timestamp) (Refused cause) (taken v Unplanned)
begins P m v given timestamp cause is t =
    takes_group P v given timestamp (Refused cause) Unplanned
    (λ u e. m.begun u given timestamp cause is) (λ u e. m.again u given timestamp cause is)
    v.sync v.waiting refl refl t

plans : (P : View → Given → Step → Reply → View → Type 0) → EachMove P → (v : View) (given : Given) (timestamp : ℕ) (calls : List DueCall) → may_plan v ≡ true → P v given (Plan timestamp) (Planned (suc v.committed)) (taken v (Due calls))
plans P m v given timestamp calls t =
    takes_group P v given timestamp (Planned (suc v.committed)) (Due calls)
    (λ u e. subst (λ c. P (record u { sync = Idle; waiting = Some QuiescedStage }) given (Plan timestamp) (Planned (suc c)) (record u { sync = Due calls; waiting = None })) e (m.planned u given timestamp calls))
    (λ u e. subst (λ c. P (record u { sync = Unplanned }) given (Plan timestamp) (Planned (suc c)) (record u { sync = Due calls })) e (m.replanned_group u given timestamp calls))
    v.sync v.waiting refl refl t

-- a Device step takes no memory
lacks : (P : View → Given → Step → Reply → View → Type 0) → EachMove P → (v : View) (given : Given) (step : Step) → MayLack v step → P v given step (Refused NoMemory) (without_memory v step)
lacks P m v given (Plan timestamp) may = begins P m v given timestamp NoMemory tt (plan_none v timestamp may)
lacks P m v given Device may = absurd (true≢false (sym may))
lacks P m v given (Hold writer) may = m.stays v given (Hold writer) NoMemory tt tt
lacks P m v given step may = m.stays v given step NoMemory tt tt

-- a plan is refused by the view for these causes alone
plan_causes : (a b : Bool) (cause : Refusal) → first_cause ((a, Suspended) ∷ (b, NotNow) ∷ []) ≡ Some cause → (cause ≡ Suspended) ⊎ (cause ≡ NotNow)
plan_causes true b cause e = inl (cc)
plan_causes false true cause e = inr (cc)
plan_causes false false cause e = absurd (cc)

may_stay : (v : View) (step : Step) (cause : Refusal) → refusal_of v step ≡ Some cause → MayStay step cause
may_stay v (Plan timestamp) cause e = plan_causes (is_suspended v) (not (may_plan v)) cause e
may_stay v (Hold writer) cause e = tt
may_stay v step cause e = tt

no_fault : (step : Step) (given : Given) → IsQuiet given → NoFault step given
no_fault Device given quiet = quiet.fault
no_fault (Hold writer) given quiet = tt
no_fault step given quiet = tt

read_fault : (v : View) (given : Given) (cause : Refusal) → IsUnreadable v given cause → IsPlanFault cause
read_fault v given DiskFault is = tt
read_fault v given BadPointer is = tt
read_fault v given BadDigest is = tt
read_fault v given BadMap is = tt
read_fault v given cause is = absurd is

-- a plan that can't read what it needs, or finds no room
plan_fault : (v : View) (given : Given) (cause : Refusal) → IsUnreadable v given cause ⊎ ((cause ≡ NoSpace) × (given.full ≡ true)) → IsPlanFault cause
plan_fault v given cause h = ⊎_elim (λ r. read_fault v given cause r) (λ r. subst IsPlanFault (sym r.0) tt) h

-- at a plan of which these calls are left
at_left : (P : View → Given → Step → Reply → View → Type 0) (v : View) (given : Given) (step : Step) (reply : Reply) (w : View) (left : List DueCall) → v.sync ≡ Due left → P (record v { sync = Due left }) given step reply w → P v given step reply w
at_left P v given step reply w left e p = subst (λ (s : Sync). P (record v { sync = s }) given step reply w) (sym e) p

-- one that is dropped
at_dropped : (P : View → Given → Step → Reply → View → Type 0) (v : View) (given : Given) (reply : Reply) (disk : ℕ) (left : List DueCall) → v.sync ≡ Due left → P (record v { sync = Due left }) given Device reply (dropped (record v { sync = Due left }) disk) → P v given Device reply (dropped v disk)
at_dropped P v given reply disk left e p = subst (λ (s : Sync). P (record v { sync = s }) given Device reply (dropped (record v { sync = s }) disk)) (sym e) p

at_waiting : (P : View → Given → Step → Reply → View → Type 0) (v : View) (given : Given) (step : Step) (reply : Reply) (w : View) (o : Option Stage) → v.waiting ≡ o → P (record v { waiting = o }) given step reply w → P v given step reply w
at_waiting P v given step reply w o e p = subst (λ (s : Option Stage). P (record v { waiting = s }) given step reply w) (sym e) p

-- the view after a step of groups, holds and items alone
only_flows : (v w : View) (f : Flow) → flow_of w ≡ f → w ≡ with_flow v (flow_of w) → w ≡ with_flow v f
only_flows v w f e only = only ∙ ap (with_flow v) e

on_fault : (v : View) (given : Given) (disk : ℕ) → FailsOn v given disk → IsFaultOn given disk
on_fault v given disk fails = (fails.call, fails.fault, fails.on)

-- a commit goes on, or is done, with or without the disk of its last call
moves_well : (P : View → Given → Step → Reply → View → Type 0) → EachMove P → (v : View) (given : Given) (phase : Phase) (rest : List DueCall) (w : View) → GoesWell v given phase rest w → P v given Device (Moved phase) w
moves_well P m v given phase rest w g =
    subst (P v given Device (Moved phase)) (sym g.after)
    (at_left P v given Device (Moved phase) (record v { sync = Due rest }) g.left g.planned (m.moved v given phase g.left rest v.out (none_out v.out given (Moved phase) g.fault)))

moves_without : (P : View → Given → Step → Reply → View → Type 0) → EachMove P → (v : View) (given : Given) (phase : Phase) (rest : List DueCall) (w : View) → GoesWithout v given phase rest w → P v given Device (Moved phase) w
moves_without P m v given phase rest w g =
    subst (P v given Device (Moved phase)) (sym g.after)
    (at_left P v given Device (Moved phase) (record (without_disk v g.disk) { sync = Due rest }) g.fails.left g.fails.planned
    (m.moved v given phase g.fails.left rest (without_disk v g.disk).out (goes_out v.out given (Moved phase) g.disk (on_fault v given g.disk g.fails))))

commits_well : (P : View → Given → Step → Reply → View → Type 0) → EachMove P → (v : View) (given : Given) (done : View) → IsDone v given → done ≡ v → P v given Device (Committed (suc v.committed)) (committed_next done)
commits_well P m v given done g same =
    subst (λ (w : View). P v given Device (Committed (suc v.committed)) (committed_next w)) (sym same)
    (at_left P v given Device (Committed (suc v.committed)) (committed_next v) g.left g.planned (m.committed v given g.left v.out (none_out v.out given (Committed (suc v.committed)) g.fault)))

commits_without : (P : View → Given → Step → Reply → View → Type 0) → EachMove P → (v : View) (given : Given) (phase : Phase) (done : View) → GoesWithout v given phase [] done → P v given Device (Committed (suc v.committed)) (committed_next done)
commits_without P m v given phase done g =
    subst (λ (w : View). P v given Device (Committed (suc v.committed)) (committed_next w)) (sym g.after)
    (at_left P v given Device (Committed (suc v.committed)) (committed_next (without_disk v g.disk)) g.fails.left g.fails.planned
    (m.committed v given g.fails.left (without_disk v g.disk).out (goes_out v.out given (Committed (suc v.committed)) g.disk (on_fault v given g.disk g.fails))))

-- a disk is taken out: where there is no plan, before the slots, and from the slots on
takes_out : (P : View → Given → Step → Reply → View → Type 0) → EachMove P → (v : View) (given : Given) (disk : ℕ) → P v given (DiskOut disk) Out (gone_out v disk)
takes_out P m v given disk = by_sync v.sync refl
  where
    at_sync : (s : Sync) → v.sync ≡ s → P (record v { sync = s }) given (DiskOut disk) Out (gone_out (record v { sync = s }) disk) → P v given (DiskOut disk) Out (gone_out v disk)
    at_sync s e p = subst (λ (x : Sync). P (record v { sync = x }) given (DiskOut disk) Out (gone_out (record v { sync = x }) disk)) (sym e) p

    by_late : (left : List DueCall) (b : Bool) → P (record v { sync = Due left }) given (DiskOut disk) Out
        (if b then record (without_disk (record v { sync = Due left }) disk) { sync = calls_without (Due left) disk } else dropped (record v { sync = Due left }) disk)
    by_late left true = m.out_late v given disk left
    by_late left false = m.out_early v given disk left

    by_sync : (s : Sync) → v.sync ≡ s → P v given (DiskOut disk) Out (gone_out v disk)
    by_sync Idle e = at_sync Idle e (m.out_unplanned (record v { sync = Idle }) given disk refl)
    by_sync Unplanned e = at_sync Unplanned e (m.out_unplanned (record v { sync = Unplanned }) given disk refl)
    by_sync (Due left) e = at_sync (Due left) e (by_late left (is_late_sync (Due left)))

answers_by : (P : View → Given → Step → Reply → View → Type 0) → EachMove P → (v : View) (given : Given) (step : Step) (reply : Reply) (w : View) → refusal_of v step ≡ None → MayAnswer v given step reply w → P v given step reply w
answers_by P m v given (Hold writer) (Held group) w n g =
    subst (P v given (Hold writer) (Held group)) (sym (only_flows v w (with_hold (flow_of v) writer group) g.0.2 g.1))
    (subst (λ k. P v given (Hold writer) (Held k) (with_flow v (with_hold (flow_of v) writer k))) (sym g.0.1) (m.held v given writer g.0.0))
answers_by P m v given (WriteStep x) (Receipt group) w n g =
    subst (P v given (WriteStep x) (Receipt group)) (sym (only_flows v w (with_accepted (flow_of v) x.writer group (WriteItem x)) g.0.3 g.1)) (m.wrote v given x group g.0.0 g.0.1 g.0.2)
answers_by P m v given (Act a) (Receipt group) w n g =
    subst (P v given (Act a) (Receipt group)) (sym (only_flows v w (with_accepted (flow_of v) a.writer group (ActionItem a)) g.0.4 g.1)) (m.acted v given a group g.0.0 g.0.1 g.0.2 g.0.3)
answers_by P m v given (Release writer) Released w n g =
    subst (P v given (Release writer) Released) (sym (only_flows v w (without_hold (flow_of v) writer) g.0 g.1)) (m.released v given writer)
answers_by P m v given Close (Closed group) w n g =
    let opened : open_group v ≡ waiting_group v = ap (λ o. open_group (record v { waiting = o })) g.0.0 in
    subst (P v given Close (Closed group)) (sym (only_flows v w (record (flow_of v) { waiting = Some Quiescing }) g.0.3 g.1))
    (subst (λ k. P v given Close (Closed k) (record v { waiting = Some Quiescing })) (sym (g.0.2 ∙ opened)) (at_waiting P v given Close (Closed (waiting_group v)) (record v { waiting = Some Quiescing }) None g.0.0 (m.closed v given (subst (λ k. k < greatest) opened g.0.1))))
answers_by P m v given Quiesce (Quiesced group) w n g =
    subst (P v given Quiesce (Quiesced group)) (sym (only_flows v w (record (flow_of v) { waiting = Some QuiescedStage }) g.0.3 g.1))
    (subst (λ k. P v given Quiesce (Quiesced k) (record v { waiting = Some QuiescedStage })) (sym g.0.2) (at_waiting P v given Quiesce (Quiesced (waiting_group v)) (record v { waiting = Some QuiescedStage }) (Some Quiescing) g.0.0 (m.quiesced v given g.0.1)))
answers_by P m v given (Plan timestamp) (Planned group) w n g =
    subst (P v given (Plan timestamp) (Planned group)) (sym g.3) (subst (λ k. P v given (Plan timestamp) (Planned k) (taken v (Due g.1))) (sym g.0.0) (plans P m v given timestamp g.1 (plan_none v timestamp n)))
answers_by P m v given (Plan timestamp) (Refused cause) w n g =
    subst (P v given (Plan timestamp) (Refused cause)) (sym g.1) (begins P m v given timestamp cause (plan_fault v given cause g.0) (plan_none v timestamp n))
answers_by P m v given Device (Moved phase) w n g = ⊎_elim (moves_well P m v given phase g.0 w) (moves_without P m v given phase g.0 w) g.2
answers_by P m v given Device (Committed group) w n g =
    subst (P v given Device (Committed group)) (sym g.3) (subst (λ k. P v given Device (Committed k) (committed_next g.1)) (sym g.0.1)
    (⊎_elim (λ done. commits_well P m v given g.1 done.0 done.1) (λ without. commits_without P m v given without.0 g.1 without.1) g.2))
answers_by P m v given Device (Replan disk) w n g =
    subst (P v given Device (Replan disk)) (sym g.3) (at_dropped P v given (Replan disk) disk g.0.left g.0.planned (m.replanned v given disk g.0.left (on_fault v given disk g.0)))
answers_by P m v given Device (Refused cause) w n g =
    subst (λ c. P v given Device (Refused c) w) (sym g.0)
    (subst (P v given Device (Refused Suspended)) (sym g.4) (at_dropped P v given (Refused Suspended) g.1 g.2.left g.2.planned (m.failed v given g.1 g.2.left (on_fault v given g.1 g.2))))
answers_by P m v given (DiskOut disk) Out w n g = subst (P v given (DiskOut disk) Out) (sym g) (takes_out P m v given disk)
answers_by P m v given (Read name offset len) (Bytes bytes) w n g = subst (P v given (Read name offset len) (Bytes bytes)) (sym g.1) (m.read v given name offset len bytes g.0)
answers_by P m v given (Read name offset len) (Refused cause) w n g = subst (P v given (Read name offset len) (Refused cause)) (sym g.1) (m.stays v given (Read name offset len) cause tt tt)
answers_by P m v given (ReadUnder group name offset len) (Bytes bytes) w n g =
    let one = or_none _ _ n in
    let two = first_none _ _ _ one.0 in
    subst (P v given (ReadUnder group name offset len) (Bytes bytes)) (sym g.1) (m.read_under v given group name offset len bytes (not_false _ two.0) g.0)
answers_by P m v given (ReadUnder group name offset len) (Refused cause) w n g = subst (P v given (ReadUnder group name offset len) (Refused cause)) (sym g.1) (m.stays v given (ReadUnder group name offset len) cause tt tt)
answers_by P m v given step reply w n g = absurd g

pub by_move : (P : View → Given → Step → Reply → View → Type 0) → EachMove P → (v : View) (given : Given) (step : Step) (reply : Reply) (w : View) → StepOf v given step reply w → P v given step reply w
by_move P m v given step reply w s =
    ⊎_elim
    (λ r. subst (λ x. P v given step x w) (sym r.answer) (subst (P v given step (Refused r.cause)) (sym r.unchanged) (m.stays v given step r.cause (may_stay v step r.cause r.first) (no_fault step given r.quiet))))
    (λ s. ⊎_elim
    (λ l. subst (λ x. P v given step x w) (sym l.answer) (subst (P v given step (Refused NoMemory)) (sym l.leaves) (lacks P m v given step l.may)))
    (λ g. answers_by P m v given step reply w g.none g.answered)
    s)
    s
