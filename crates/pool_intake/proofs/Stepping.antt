-- Steps of the intake, and the view that it follows after each.
use Rattle.std.proofs.Common.{◌≡◌, ◌⊎◌, ⊎_elim, inl, inr, ℕ, suc, ◌≤◌, ◌<◌, Bool, true, false, true≢false, List, Option, Some, None, refl, sym, ap, ◌∙◌, subst, arith}
use Rattle.std.specs.Prelude.{cond, is_some, not, ◌==◌, ◌&&◌, ◌||◌}
use Rattle.pool_model.specs.declared.group.Holder.{Holder}
use Rattle.pool_model.specs.declared.group.Stage.{Stage}
use Rattle.pool_model.specs.declared.group.Stage.TheVariants.{Quiescing, Quiesced as QuiescedStage}
use Rattle.pool_model.specs.declared.item.Action.{Action}
use Rattle.pool_model.specs.declared.item.Item.{Item}
use Rattle.pool_model.specs.declared.item.Item.TheVariants.{Write as WriteItem, Action as ActionItem}
use Rattle.pool_model.specs.declared.item.Write.{Write}
use Rattle.pool_model.specs.declared.refusal.Refusal.TheVariants as causes
use Rattle.pool_model.specs.declared.refusal.Refusal.{Refusal as Cause}
use Rattle.pool_model.specs.declared.step.Step.{Step}
use Rattle.pool_model.specs.declared.step.Step.TheVariants.{Hold, Write as WriteStep, Act, Release, Close, Quiesce, Plan, Device}
use Rattle.pool_model.specs.declared.step.Reply.{Reply}
use Rattle.pool_model.specs.declared.step.Reply.TheVariants.{Held, Receipt, Released, Closed, Quiesced, Planned, Committed, Refused}
use Rattle.pool_model.specs.Pools.{upto, no_items, PlainPool, Ledger, Entry, changed, applied}
use Rattle.pool_model.specs.View.{View, Vdev, opened_as, nothing_given, Unplanned, is_syncing, is_planned, is_quiescing, is_quiesced, is_suspended, hold_group, is_held, now_of, open_group, waiting_group}
use Rattle.pool_model.specs.Flow.{Flow, flow_of, opened, added, counted_on, ledger_accepted, with_hold, without_hold, with_accepted, with_taken}
use Rattle.pool_model.specs.Refusals.{greatest, refusal_of}
use Rattle.pool_model.specs.Machine.{StepOf, MayAnswer, MayLack, with_flow, taken, committed_next, without_memory}
use Rattle.pool_model.proofs.Answering.{taken_already}
use Rattle.pool_model.proofs.Plans.{nothing_quiet, may_nothing}
use Rattle.pool_model.proofs.SoundFlows.{all_snoc, taken_hold}
use Rattle.pool_model.proofs.Sounds.{sound_opened, sound_step}
use Rattle.pool_model.proofs.Uptos.{itself, upto_from, upto_one}
use Rattle.txg_pipeline.specs.declared.pipeline.Pipeline.{Pipeline}
use Rattle.txg_pipeline.specs.declared.refusal.Refusal.{Refusal}
use Rattle.txg_pipeline.specs.declared.refusal.Refusal.TheVariants.{NoMemory, AlreadyHeld, NoHold, OutOfOrder, NotNow}
use Rattle.txg_pipeline.specs.Carries.{Carries, empty_after, Does, IsUnchanged, IsNotAccepted}
use Rattle.txg_pipeline.specs.Calls.{cause_of}
use Rattle.txg_pipeline.proofs.Carrying.{kept_synced}
use Rattle.volume_rules.specs.declared.index.NameIndex.{NameIndex}
use Rattle.volume_rules.specs.Effects.{GroupTakesEffect, PendingTakeEffect}
use Rattle.volume_rules.specs.GoodChanges.{is_good_change, MakesGoodVolumes}
use Rattle.volume_rules.specs.Index.{Knows}
use Rattle.volume_rules.specs.NowMoves.{IsMadeBy, is_action_taken}
use Rattle.volume_rules.proofs.NowMoves.{knows_step, moves_now, now_taken, now_committed}
use Rattle.volume_rules.proofs.Effects.{AllTakeEffect, effects_step}
use Rattle.volume_rules.proofs.GoodChanges.{not_refused}
use Rattle.volume_rules.proofs.Overlays.{made_by_applied}
use Rattle.volume_rules.proofs.Pending.{below_now, below_step}
use Rattle.pool_intake.specs.declared.intake.Intake.{Intake}
use Rattle.pool_intake.specs.Follows.{Follows, KeepsCommitted}
use Rattle.pool_intake.proofs.Judging.{hold_free, hold_held, release_free, close_free, close_early, quiesce_free, quiesce_early, plan_free, plan_early, write_barred, act_barred, act_late, change_free}

-- some view after the step, which the intake follows
abbrev pub Goes : View → Step → Reply → Intake → Type 0
Goes v step reply new = (w : View) × StepOf v nothing_given step reply w × Follows new w × KeepsCommitted v w

-- ---- nothing changes

kept : (v : View) → KeepsCommitted v v
kept v = record { vdevs = refl; slots = refl; first = refl; committed = refl; sync = refl; pools = refl; out = refl; stale = refl; synced = λ s. refl }

-- the pipeline carries the same flow, and the index knows the same pool
pub stays : (pipeline other : Pipeline) (index : NameIndex) (v : View) → Follows (record { pipeline = pipeline; index = index }) v → IsUnchanged pipeline other → Follows (record { pipeline = other; index = index }) v
stays pipeline other index v r u = record { sound = r.sound; flow = u (flow_of v) r.flow; names = r.names; made = r.made; good = r.good; effects = r.effects }

pub knows_on : (pipeline : Pipeline) (index other : NameIndex) (v : View) → Follows (record { pipeline = pipeline; index = index }) v → (Knows index (now_of v) → Knows other (now_of v)) → Follows (record { pipeline = pipeline; index = other }) v
knows_on pipeline index other v r f = record { sound = r.sound; flow = r.flow; names = f r.names; made = r.made; good = r.good; effects = r.effects }

pub refuses : (new : Intake) (v : View) (step : Step) (cause : Cause) → Follows new v → refusal_of v step ≡ Some cause → Goes v step (Refused cause) new
refuses new v step cause r e = (v, inl (record { cause = cause; first = e; answer = refl; unchanged = refl; quiet = nothing_quiet; calls = may_nothing step }), r, kept v)

pub lacks : (new : Intake) (v : View) (step : Step) → Follows new v → MayLack v step → v ≡ without_memory v step → Goes v step (Refused causes.NoMemory) new
lacks new v step r t e = (v, inr (inl (record { may = t; answer = refl; leaves = e; calls = may_nothing step })), r, kept v)

-- a cause by the name that the machine gives it
pub as_named : (new : Intake) (v : View) (step : Step) (cause : Refusal) (named : Cause) → named ≡ cause_of cause → Goes v step (Refused (cause_of cause)) new → Goes v step (Refused named) new
as_named new v step cause named e g = subst (λ (x : Cause). Goes v step (Refused x) new) (sym e) g

-- ---- refusals by the pipeline

along : (new : Intake) (v : View) (step : Step) (cause is : Refusal) → cause ≡ is → Goes v step (Refused (cause_of is)) new → Goes v step (Refused (cause_of cause)) new
along new v step cause is e g = subst (λ (x : Refusal). Goes v step (Refused (cause_of x)) new) (sym e) g

pub hold_refused : (new : Intake) (v : View) (writer : ℕ) (cause : Refusal) → Follows new v → is_suspended v ≡ false → (cause ≡ NoMemory) ⊎ ((cause ≡ AlreadyHeld) × (is_some (hold_group writer v.holds) ≡ true)) → Goes v (Hold writer) (Refused (cause_of cause)) new
hold_refused new v writer cause r u h =
    ⊎_elim
    (λ e. along new v (Hold writer) cause NoMemory e (lacks new v (Hold writer) r refl refl))
    (λ x. along new v (Hold writer) cause AlreadyHeld x.0 (refuses new v (Hold writer) causes.AlreadyHeld r (hold_held v writer u x.1)))
    h

pub release_refused : (new : Intake) (v : View) (writer : ℕ) (cause : Refusal) → Follows new v → cause ≡ NoHold → hold_group writer v.holds ≡ None → Goes v (Release writer) (Refused (cause_of cause)) new
release_refused new v writer cause r e n = along new v (Release writer) cause NoHold e (refuses new v (Release writer) causes.NoHold r (release_free v writer n))

pub close_refused : (new : Intake) (v : View) (cause : Refusal) → Follows new v → is_suspended v ≡ false → cause ≡ NotNow → (is_some v.waiting ≡ true) ⊎ (greatest ≤ open_group v) → Goes v Close (Refused (cause_of cause)) new
close_refused new v cause r u e h = along new v Close cause NotNow e (refuses new v Close causes.NotNow r (close_early v u h))

pub quiesce_refused : (new : Intake) (v : View) (cause : Refusal) → Follows new v → is_suspended v ≡ false → cause ≡ NotNow → (is_quiescing v.waiting ≡ false) ⊎ (is_held (waiting_group v) v.holds ≡ true) → Goes v Quiesce (Refused (cause_of cause)) new
quiesce_refused new v cause r u e h = along new v Quiesce cause NotNow e (refuses new v Quiesce causes.NotNow r (quiesce_early v u h))

pub write_refused : (new : Intake) (v : View) (w : Write) (cause : Refusal) → Follows new v → is_suspended v ≡ false → IsNotAccepted (flow_of v) (WriteItem w) cause → Goes v (WriteStep w) (Refused (cause_of cause)) new
write_refused new v w NoMemory r u n = lacks new v (WriteStep w) r refl refl
write_refused new v w NoHold r u n = refuses new v (WriteStep w) causes.NoHold r (write_barred v w NoHold u n)
write_refused new v w (OutOfOrder expected) r u n = refuses new v (WriteStep w) (causes.OutOfOrder expected) r (write_barred v w (OutOfOrder expected) u n)
write_refused new v w AlreadyHeld r u n = absurd n
write_refused new v w NotNow r u n = absurd n

pub act_refused : (new : Intake) (v : View) (a : Action) (cause : Refusal) → Follows new v → is_suspended v ≡ false → IsNotAccepted (flow_of v) (ActionItem a) cause → Goes v (Act a) (Refused (cause_of cause)) new
act_refused new v a NoMemory r u n = lacks new v (Act a) r refl refl
act_refused new v a NoHold r u n = refuses new v (Act a) causes.NoHold r (act_barred v a NoHold u n)
act_refused new v a (OutOfOrder expected) r u n = refuses new v (Act a) (causes.OutOfOrder expected) r (act_barred v a (OutOfOrder expected) u n)
act_refused new v a AlreadyHeld r u n = absurd n
act_refused new v a NotNow r u n = refuses new v (Act a) causes.NotNow r (act_late v a n.0 u n.1 n.2)

-- ---- groups, holds and items go on

-- the view with other groups above the committed one, other holds and other items
abbrev moved : View → Option Stage → List Holder → (ℕ → ℕ) → Ledger → View
moved v waiting holds next ledger = record v { waiting = waiting; holds = holds; next = next; ledger = ledger }

-- a answered step that leaves what is committed
goes : (old new : Intake) (v : View) (step : Step) (reply : Reply) (waiting : Option Stage) (holds : List Holder) (next : ℕ → ℕ) (ledger : Ledger) → Follows old v
    → StepOf v nothing_given step reply (moved v waiting holds next ledger)
    → Carries new.pipeline (flow_of (moved v waiting holds next ledger))
    → Knows new.index (now_of (moved v waiting holds next ledger))
    → ((group : ℕ) → MakesGoodVolumes (ledger group))
    → (is_syncing v.sync ≡ true → ledger (suc v.committed) ≡ v.ledger (suc v.committed))
    → Goes v step reply new
goes old new v step reply waiting holds next ledger r s k n g same = (
  moved v waiting holds next ledger,
  s,
  record {
    sound = sound_step v nothing_given step reply (moved v waiting holds next ledger) r.sound s;
    flow = k;
    names = n;
    made = below_step v nothing_given step reply (moved v waiting holds next ledger) r.good s r.made;
    good = g;
    effects = effects_step v nothing_given step reply (moved v waiting holds next ledger) r.sound s r.effects;
  },
  record { vdevs = refl; slots = refl; first = refl; committed = refl; sync = refl; pools = refl; out = refl; stale = refl; synced = same },
)

-- one that takes no action: the index stays
goes_on : (pipeline other : Pipeline) (index : NameIndex) (v : View) (step : Step) (reply : Reply) (waiting : Option Stage) (holds : List Holder) (next : ℕ → ℕ) (ledger : Ledger) → Follows (record { pipeline = pipeline; index = index }) v
    → refusal_of v step ≡ None
    → MayAnswer v nothing_given step reply (moved v waiting holds next ledger)
    → is_action_taken step reply ≡ false
    → Carries other (flow_of (moved v waiting holds next ledger))
    → ((group : ℕ) → MakesGoodVolumes (ledger group))
    → (is_syncing v.sync ≡ true → ledger (suc v.committed) ≡ v.ledger (suc v.committed))
    → Goes v step reply (record { pipeline = other; index = index })
goes_on pipeline other index v step reply waiting holds next ledger r none answered a k g same =
    let s : StepOf v nothing_given step reply (moved v waiting holds next ledger) = inr (inr (record { none = none; answered = answered; calls = may_nothing step })) in
    goes (record { pipeline = pipeline; index = index }) (record { pipeline = other; index = index }) v step reply waiting holds next ledger r s k (knows_step v nothing_given step reply (moved v waiting holds next ledger) index r.sound s a r.names) g same

pub held : (pipeline other : Pipeline) (index : NameIndex) (v : View) (writer group : ℕ) → Follows (record { pipeline = pipeline; index = index }) v → is_suspended v ≡ false → Does pipeline (Hold writer) (Held group) other → Goes v (Hold writer) (Held group) (record { pipeline = other; index = index })
held pipeline other index v writer group r u d =
    let g = d (flow_of v) r.flow in
    goes_on pipeline other index v (Hold writer) (Held group) v.waiting (with_hold (flow_of v) writer group).holds v.next v.ledger r (hold_free v writer u g.1.0) ((g.1.0, g.1.1, refl), refl) refl (subst (Carries other) g.1.2 g.2) r.good (λ s. refl)

pub released : (pipeline other : Pipeline) (index : NameIndex) (v : View) (writer : ℕ) → Follows (record { pipeline = pipeline; index = index }) v → refusal_of v (Release writer) ≡ None → Does pipeline (Release writer) Released other → Goes v (Release writer) Released (record { pipeline = other; index = index })
released pipeline other index v writer r none d =
    let g = d (flow_of v) r.flow in
    goes_on pipeline other index v (Release writer) Released v.waiting (without_hold (flow_of v) writer).holds v.next v.ledger r none (refl, refl) refl (subst (Carries other) g.1 g.2) r.good (λ s. refl)

pub closed : (pipeline other : Pipeline) (index : NameIndex) (v : View) (group : ℕ) → Follows (record { pipeline = pipeline; index = index }) v → is_suspended v ≡ false → Does pipeline Close (Closed group) other → Goes v Close (Closed group) (record { pipeline = other; index = index })
closed pipeline other index v group r u d =
    let g = d (flow_of v) r.flow in
    goes_on pipeline other index v Close (Closed group) (Some Quiescing) v.holds v.next v.ledger r (close_free v u g.1.0 g.1.1) ((g.1.0, g.1.1, g.1.2, refl), refl) refl (subst (Carries other) g.1.3 g.2) r.good (λ s. refl)

pub quiesced : (pipeline other : Pipeline) (index : NameIndex) (v : View) (group : ℕ) → Follows (record { pipeline = pipeline; index = index }) v → is_suspended v ≡ false → Does pipeline Quiesce (Quiesced group) other → Goes v Quiesce (Quiesced group) (record { pipeline = other; index = index })
quiesced pipeline other index v group r u d =
    let g = d (flow_of v) r.flow in
    goes_on pipeline other index v Quiesce (Quiesced group) (Some QuiescedStage) v.holds v.next v.ledger r (quiesce_free v u g.1.0 g.1.1) ((g.1.0, g.1.1, g.1.2, refl), refl) refl (subst (Carries other) g.1.3 g.2) r.good (λ s. refl)

-- ---- items

-- what an item adds to the volumes that a group is to make
abbrev IsGoodItem : Item → Type 0
IsGoodItem (WriteItem w) = Unit {0}
IsGoodItem (ActionItem a) = is_good_change a.change ≡ true

good_added : (entry : Entry) (item : Item) → IsGoodItem item → MakesGoodVolumes entry → MakesGoodVolumes (added entry item)
good_added entry (WriteItem w) i g = g
good_added entry (ActionItem a) i g = all_snoc (λ (x : Action). is_good_change x.change ≡ true) entry.actions a g i

good_took : (ledger : Ledger) (group : ℕ) (item : Item) → IsGoodItem item → ((g : ℕ) → MakesGoodVolumes (ledger g)) → (g : ℕ) → MakesGoodVolumes (ledger_accepted ledger group item g)
good_took ledger group item i good g = elim (g == group) as (λ b. MakesGoodVolumes (cond b (added (ledger g) item) (ledger g))) [ true ↦ good_added (ledger g) item i (good g) | false ↦ good g ]

pub wrote : (pipeline other : Pipeline) (index : NameIndex) (v : View) (w : Write) (group : ℕ) → Follows (record { pipeline = pipeline; index = index }) v → refusal_of v (WriteStep w) ≡ None → Does pipeline (WriteStep w) (Receipt group) other → Goes v (WriteStep w) (Receipt group) (record { pipeline = other; index = index })
wrote pipeline other index v w group r none d =
    let g = d (flow_of v) r.flow in
    let takes = taken_hold (flow_of v) w.writer group v.holds r.sound.flow.holds g.1.0 in
    goes_on pipeline other index v (WriteStep w) (Receipt group) v.waiting v.holds (counted_on v.next w.writer) (ledger_accepted v.ledger group (WriteItem w)) r none ((g.1.0, g.1.1, g.1.2, refl), refl) refl (subst (Carries other) g.1.3 g.2) (good_took v.ledger group (WriteItem w) tt r.good) (λ s. sym (kept_synced (flow_of v) group (WriteItem w) _ takes s refl))

-- the index knows the name that the action makes
pub acted : (pipeline other : Pipeline) (index added_to : NameIndex) (v : View) (a : Action) (group : ℕ) → Follows (record { pipeline = pipeline; index = index }) v → is_suspended v ≡ false → refusal_of v (Act a) ≡ None → Does pipeline (Act a) (Receipt group) other
    → ((pool : PlainPool) → Knows index pool → Knows added_to (changed (open_group v) pool a.change))
    → Goes v (Act a) (Receipt group) (record { pipeline = other; index = added_to })
acted pipeline other index added_to v a group r u none d add =
    let g = d (flow_of v) r.flow in
    let takes = taken_hold (flow_of v) a.writer group v.holds r.sound.flow.holds g.1.0 in
    let s : StepOf v nothing_given (Act a) (Receipt group) (with_flow v (with_accepted (flow_of v) a.writer group (ActionItem a))) = inr (inr (record { none = none; answered = ((g.1.0, g.1.1, g.1.2, g.1.3, refl), refl); calls = may_nothing (Act a) })) in
    let moves = moves_now v nothing_given (Act a) (Receipt group) (with_flow v (with_accepted (flow_of v) a.writer group (ActionItem a))) r.sound s in
    let now : now_of (with_flow v (with_accepted (flow_of v) a.writer group (ActionItem a))) ≡ changed (open_group v) (now_of v) a.change = moves.1 ∙ ap (λ n. changed n (now_of v) a.change) moves.0 in
    let good = not_refused a.change (now_of v) (below_now v r.good r.made).named (change_free v a u none) in
    goes (record { pipeline = pipeline; index = index }) (record { pipeline = other; index = added_to }) v (Act a) (Receipt group) v.waiting v.holds (counted_on v.next a.writer) (ledger_accepted v.ledger group (ActionItem a)) r s (subst (Carries other) g.1.4 g.2) (subst (Knows added_to) (sym now) (add (now_of v) r.names)) (good_took v.ledger group (ActionItem a) good r.good) (λ s. sym (kept_synced (flow_of v) group (ActionItem a) _ takes s refl))

-- ---- the group that is synced

pub takes_again : (new : Intake) (v : View) (timestamp : ℕ) → Follows new v → is_suspended v ≡ false → is_planned v.sync ≡ false → is_syncing v.sync ≡ true → (refusal_of v (Plan timestamp) ≡ None) × Follows new (taken v Unplanned)
takes_again new v timestamp r u p s = (plan_free v timestamp u p (inl s), subst (Follows new) (sym (taken_already v s p)) r)

-- the quiesced group begins to be synced
pub takes_group : (pipeline other : Pipeline) (index : NameIndex) (v : View) (timestamp group : ℕ) → Follows (record { pipeline = pipeline; index = index }) v → is_suspended v ≡ false → is_planned v.sync ≡ false → is_syncing v.sync ≡ false → Does pipeline (Plan 0) (Planned group) other → (refusal_of v (Plan timestamp) ≡ None) × Follows (record { pipeline = other; index = index }) (taken v Unplanned)
takes_group pipeline other index v timestamp group r u p idle d =
    let g = d (flow_of v) r.flow in
    ⊎_elim
    (λ s. absurd (true≢false (sym s ∙ idle)))
    (λ q. (plan_free v timestamp u p (inr (ap is_quiesced q)), begun (subst (Carries other) g.1.1.1 g.2) (ap is_quiesced q)))
    g.1.1.0
  where
    begun : Carries other (with_taken (flow_of v)) → is_quiesced v.waiting ≡ true → Follows (record { pipeline = other; index = index }) (taken v Unplanned)
    begun flow q = record {
      sound = record { first = r.sound.first; flow = flow.sound };
      flow = flow;
      names = subst (Knows index) (sym (now_taken v Unplanned (λ i. not (p i) && (idle i || q i)) refl)) r.names;
      made = r.made;
      good = r.good;
      effects = r.effects;
    }

-- there was none to take
pub takes_none : (v : View) (timestamp : ℕ) (cause : Refusal) (named : Cause) → is_suspended v ≡ false → is_planned v.sync ≡ false → is_syncing v.sync ≡ false → named ≡ cause_of cause → cause ≡ NotNow → (is_syncing v.sync ≡ true) ⊎ (is_quiesced v.waiting ≡ false) → refusal_of v (Plan timestamp) ≡ Some named
takes_none v timestamp cause named u p idle n c h =
    plan_early v timestamp u p idle (⊎_elim (λ s. absurd (true≢false (sym s ∙ idle))) (λ q. q) h)
    ∙ ap Some (sym (n ∙ ap cause_of c))

-- where the group above a base one is the base, the pools above it are the same
effects_above : (base : ℕ) (pool : PlainPool) (ledger : Ledger) → AllTakeEffect base pool ledger → AllTakeEffect (suc base) (applied (suc base) pool (ledger (suc base))) ledger
effects_above base pool ledger effects n above =
    subst (λ (before : PlainPool). GroupTakesEffect (suc n) before (ledger (suc n))) (sym (upto_from base pool ledger n above)) (effects n (omega arith))

effects_committed : (v : View) → PendingTakeEffect v → PendingTakeEffect (committed_next v)
effects_committed v effects =
    subst (λ b. AllTakeEffect (suc v.committed) (cond b (applied (suc v.committed) (v.pools v.committed) (v.ledger (suc v.committed))) (v.pools (suc v.committed))) v.ledger)
    (sym (itself (suc v.committed))) (effects_above v.committed (v.pools v.committed) v.ledger effects)

-- the group that is synced is committed
pub commits : (pipeline other : Pipeline) (index : NameIndex) (v : View) (group : ℕ) → Follows (record { pipeline = pipeline; index = index }) v → Does pipeline Device (Committed group) other → (group ≡ suc v.committed) × Follows (record { pipeline = other; index = index }) (committed_next v)
commits pipeline other index v group r d =
    let g = d (flow_of v) r.flow in
    let flow : Carries other (flow_of (committed_next v)) = subst (Carries other) g.1.2 g.2 in (
      g.1.1,
      record {
        sound = record { first = let f = r.sound.first in omega arith; flow = flow.sound };
        flow = flow;
        names = subst (Knows index) (sym (now_committed v g.1.0)) r.names;
        made = subst (λ b. IsMadeBy (suc v.committed) (cond b (applied (suc v.committed) (v.pools v.committed) (v.ledger (suc v.committed))) (v.pools (suc v.committed)))) (sym (itself (suc v.committed))) (made_by_applied v.committed (v.pools v.committed) (v.ledger (suc v.committed)) r.made (r.good (suc v.committed)));
        good = r.good;
        effects = effects_committed v r.effects;
      },
    )

-- ---- other views

-- what is followed are the groups, the pools and the first group: nothing of disks
pub followed : (intake : Intake) (v w : View) → Follows intake v → flow_of w ≡ flow_of v → w.pools ≡ v.pools → w.first ≡ v.first → Follows intake w
followed intake v w r e p f =
    let flow = subst (Carries intake.pipeline) (sym e) r.flow in record {
      sound = record { first = let low = r.sound.first in omega arith; flow = flow.sound };
      flow = flow;
      names = subst (Knows intake.index) (sym now) r.names;
      made = subst (λ group. IsMadeBy group (w.pools w.committed)) (sym same) (subst (IsMadeBy v.committed) (sym (λ i. p i (same i))) r.made);
      good = λ group. subst MakesGoodVolumes (ap (λ (x : Flow). x.ledger group) (sym e)) (r.good group);
      effects = subst (λ (x : Flow). AllTakeEffect x.committed (w.pools x.committed) x.ledger) (sym e)
          (subst (λ (pools : ℕ → PlainPool). AllTakeEffect v.committed (pools v.committed) v.ledger) (sym p) r.effects);
    }
  where
    same : w.committed ≡ v.committed
    same = ap (λ (x : Flow). x.committed) e

    now : now_of w ≡ now_of v
    now = λ i. upto (e i).committed (p i (e i).committed) (e i).ledger (opened (e i))

-- ---- a pool that is opened

-- nothing is pending behind the group that was committed
now_opened : (vdevs : List Vdev) (out : ℕ → Bool) (stale : ℕ → ℕ → Bool) (group : ℕ) (pool : PlainPool) → now_of (opened_as vdevs out stale group pool) ≡ pool
now_opened vdevs out stale group pool = upto_one group pool (λ other. no_items)

pub follows_opened : (pipeline : Pipeline) (index : NameIndex) (vdevs : List Vdev) (out : ℕ → Bool) (stale : ℕ → ℕ → Bool) (group : ℕ) (pool : PlainPool) → group < greatest
    → Carries pipeline (empty_after group) → Knows index pool → IsMadeBy group pool
    → Follows (record { pipeline = pipeline; index = index }) (opened_as vdevs out stale group pool)
follows_opened pipeline index vdevs out stale group pool below carries knows made = record {
  sound = sound_opened vdevs out stale group pool below;
  flow = carries;
  names = subst (Knows index) (sym (now_opened vdevs out stale group pool)) knows;
  made = made;
  good = λ other. tt;
  effects = λ n le. tt;
}
