-- How far each step of a commit comes.
use Rattle.std.proofs.Common.{◌≡◌, ◌⊎◌, ⊎_elim, inl, inr, ℕ, suc, List, [], ◌∷◌, Bool, true, false, None, refl, sym, ap, ◌∙◌, subst, arith}
use Rattle.std.specs.Prelude.{cond, if◌then◌else◌, ◌==◌}
use Rattle.std.proofs.lemmas.Bool.Decides.{nat_tests}
use Rattle.pool_model.specs.declared.group.Holder.{Holder}
use Rattle.pool_model.specs.declared.refusal.Refusal.{Refusal}
use Rattle.pool_model.specs.declared.refusal.Refusal.TheVariants.{NoMemory}
use Rattle.pool_model.specs.declared.step.Phase.{Phase}
use Rattle.pool_model.specs.declared.step.Step.{Step}
use Rattle.pool_model.specs.declared.step.Step.TheVariants as step
use Rattle.pool_model.specs.declared.step.Reply.{Reply}
use Rattle.pool_model.specs.declared.step.Reply.TheVariants as reply
use Rattle.pool_model.specs.Flow.{Flow, flow_of, released_by}
use Rattle.pool_model.specs.Machine.{GoesOn, GoesWell, GoesWithout, Ends, IsAnswered, IsDone, IsRefused, LacksMemory, StepOf, MayAnswer, committed_next, dropped, with_flow, taken, without_memory, without_plan}
use Rattle.pool_model.specs.Pools.{applied}
use Rattle.pool_model.specs.View.{View, DueCall, Given, Sync, Unplanned, is_syncing}
use Rattle.pool_steps.specs.declared.steps.PoolSteps.{Ghosts}
use Rattle.pool_steps.specs.Goes.{Goes}
use Rattle.command_steps.specs.Due.{next_of}
use Rattle.volume_device.specs.Causes.{flushing}
use Rattle.volume_device.specs.Devices.{holds_of}
use Rattle.volume_device.specs.Commits.{Commits, IsAbout, IsBetween, IsCommitted, MayCommit, Reaches}

itself : (n : ℕ) → (n == n) ≡ true
itself n = grind (arith, nat_tests)

-- ---- nothing committed

same_between : (v : View) → IsBetween v v
same_between v = record { committed = refl; pools = refl; ledger = refl; next = refl }

between_both : (u v w : View) → IsBetween u v → IsBetween v w → IsBetween u w
between_both u v w a b = record {
  committed = b.committed ∙ a.committed;
  pools = b.pools ∙ a.pools;
  ledger = b.ledger ∙ a.ledger;
  next = b.next ∙ a.next;
}

between_then : (u v w : View) → IsBetween u v → IsCommitted v w → IsCommitted u w
between_then u v w a b = record {
  committed = b.committed ∙ ap suc a.committed;
  pool = ap w.pools (ap suc (sym a.committed)) ∙ (b.pool ∙ (λ i. applied (suc (a.committed i)) (a.pools i (a.committed i)) (a.ledger i (suc (a.committed i)))));
  ledger = b.ledger ∙ a.ledger;
  next = b.next ∙ a.next;
  idle = b.idle;
  none_waits = b.none_waits;
  no_holds = b.no_holds;
}

is_between : (v w other : View) → w ≡ other → IsBetween v other → IsBetween v w
is_between v w other e b = subst (IsBetween v) (sym e) b

-- ---- refusals

without : (v : View) (s : Step) → IsBetween v (without_memory v s)
without v (step.Plan timestamp) = record { committed = refl; pools = refl; ledger = refl; next = refl }
without v s = same_between v

-- a step that is refused commits nothing; or it is answered
refusal : (v : View) (given : Given) (s : Step) (r : Reply) (w : View) → StepOf v given s r w → ((cause : Refusal) × (r ≡ reply.Refused cause) × IsBetween v w) ⊎ MayAnswer v given s r w
refusal v given s r w is = ⊎_elim
    (λ (x : IsRefused v given s r w). inl (x.cause, x.answer, is_between v w v x.unchanged (same_between v)))
    (λ more. ⊎_elim
    (λ (x : LacksMemory v given s r w). inl (NoMemory, x.answer, is_between v w (without_memory v s) x.leaves (without v s)))
    (λ (x : IsAnswered v given s r w). inr x.answered)
    more)
    is

by_answer : (v : View) (given : Given) (s : Step) (r : Reply) (w : View) → StepOf v given s r w → (MayAnswer v given s r w → Reaches v r w) → Reaches v r w
by_answer v given s r w is answered = ⊎_elim
    (λ (x : (cause : Refusal) × (r ≡ reply.Refused cause) × IsBetween v w). subst (λ (y : Reply). Reaches v y w) (sym x.1) (x.2, tt))
    answered
    (refusal v given s r w is)

-- ---- each step

-- groups flow, and what flows is this
flows : (v w : View) (f : Flow) → flow_of w ≡ f → w ≡ with_flow v (flow_of w) → f.committed ≡ v.committed → f.ledger ≡ v.ledger → f.next ≡ v.next → IsBetween v w
flows v w f e all committed ledger next = record {
  committed = ap (λ (x : Flow). x.committed) e ∙ committed;
  pools = ap (λ (x : View). x.pools) all;
  ledger = ap (λ (x : Flow). x.ledger) e ∙ ledger;
  next = ap (λ (x : Flow). x.next) e ∙ next;
}

release_answered : (v : View) (given : Given) (r : Reply) (w : View) → MayAnswer v given (step.Release 1) r w → IsBetween v w
release_answered v given reply.Released w a = flows v w _ a.0 a.1 refl refl refl
release_answered v given r w a = absurd a

-- a hold that is given back, or not, commits nothing
pub release_keeps : (v : View) (given : Given) (r : Reply) (w : View) → StepOf v given (step.Release 1) r w → IsBetween v w
release_keeps v given r w is = ⊎_elim
    (λ (x : (cause : Refusal) × (r ≡ reply.Refused cause) × IsBetween v w). x.2)
    (release_answered v given r w)
    (refusal v given (step.Release 1) r w is)

-- the one hold is gone once it is given back
pub release_frees : (v : View) (given : Given) (w : View) (held : Bool) → v.holds ≡ holds_of (suc v.committed) held → StepOf v given (step.Release 1) reply.Released w → (w.sync ≡ v.sync) × (w.waiting ≡ v.waiting) × (w.holds ≡ [])
release_frees v given w held holds is = ⊎_elim
    (λ (x : (cause : Refusal) × (reply.Released ≡ reply.Refused cause) × IsBetween v w). let e = x.1 in absurd cc)
    (λ (a : MayAnswer v given (step.Release 1) reply.Released w). (
      ap (λ (x : View). x.sync) a.1,
      ap (λ (x : Flow). x.waiting) a.0,
      ap (λ (x : Flow). x.holds) a.0 ∙ (ap (λ (l : List Holder). released_by l 1) holds ∙ none_left held),
    ))
    (refusal v given (step.Release 1) reply.Released w is)
  where
    none_left : (b : Bool) → released_by (holds_of (suc v.committed) b) 1 ≡ []
    none_left true = refl
    none_left false = refl

close_answered : (v : View) (given : Given) (r : Reply) (w : View) → MayCommit v → MayAnswer v given step.Close r w → Reaches v r w
close_answered v given (reply.Closed group) w may a = (
  flows v w _ a.0.3 a.1 refl refl refl,
  (ap (λ (x : View). x.sync) a.1 ∙ may.idle, ap (λ (x : Flow). x.holds) a.0.3 ∙ may.no_holds),
)
close_answered v given r w may a = absurd a

quiesce_answered : (v : View) (given : Given) (r : Reply) (w : View) (group : ℕ) → IsAbout (reply.Closed group) v → MayAnswer v given step.Quiesce r w → Reaches v r w
quiesce_answered v given (reply.Quiesced n) w group about a = (
  flows v w _ a.0.3 a.1 refl refl refl,
  (ap (λ (x : View). x.sync) a.1 ∙ about.0, ap (λ (x : Flow). x.holds) a.0.3 ∙ about.1),
)
quiesce_answered v given r w group about a = absurd a

-- where this is planned none waits behind it
abbrev MayPlan : View → Type 0
MayPlan v = ((if is_syncing v.sync then v.waiting else None) ≡ None) × (v.holds ≡ [])

taken_between : (v w : View) (sync : Sync) → w ≡ taken v sync → IsBetween v w
taken_between v w sync e = is_between v w (taken v sync) e (record { committed = refl; pools = refl; ledger = refl; next = refl })

plan_answered : (v : View) (given : Given) (t : ℕ) (r : Reply) (w : View) → MayPlan v → MayAnswer v given (step.Plan t) r w → Reaches v r w
plan_answered v given t (reply.Planned group) w may a =
    (taken_between v w _ a.3, (ap (λ (x : View). x.waiting) a.3 ∙ may.0, ap (λ (x : View). x.holds) a.3 ∙ may.1))
plan_answered v given t (reply.Refused cause) w may a = (taken_between v w Unplanned a.1, tt)
plan_answered v given t r w may a = absurd a

goes_between : (v : View) (given : Given) (phase : Phase) (rest : List DueCall) (w : View) → GoesOn v given phase rest w → IsBetween v w × (w.waiting ≡ v.waiting) × (w.holds ≡ v.holds)
goes_between v given phase rest w goes = ⊎_elim
    (λ (x : GoesWell v given phase rest w). (is_between v w _ x.after (record { committed = refl; pools = refl; ledger = refl; next = refl }), ap (λ (y : View). y.waiting) x.after, ap (λ (y : View). y.holds) x.after))
    (λ (x : GoesWithout v given phase rest w). (is_between v w _ x.after (record { committed = refl; pools = refl; ledger = refl; next = refl }), ap (λ (y : View). y.waiting) x.after, ap (λ (y : View). y.holds) x.after))
    goes

ends_between : (v : View) (given : Given) (w : View) → Ends v given w → IsBetween v w × (w.waiting ≡ v.waiting) × (w.holds ≡ v.holds)
ends_between v given w ends = ⊎_elim
    (λ (x : IsDone v given × (w ≡ v)). (is_between v w v x.1 (same_between v), ap (λ (y : View). y.waiting) x.1, ap (λ (y : View). y.holds) x.1))
    (λ (x : (phase : Phase) × GoesWithout v given phase [] w). goes_between v given x.0 [] w (inr x.1))
    ends

dropped_between : (v w : View) (disk : ℕ) → w ≡ dropped v disk → IsBetween v w
dropped_between v w disk e = is_between v w (dropped v disk) e (record { committed = refl; pools = refl; ledger = refl; next = refl })

-- the group that was synced is committed
next_committed : (done w : View) → done.waiting ≡ None → done.holds ≡ [] → w ≡ committed_next done → IsCommitted done w
next_committed done w waits holds e = record {
  committed = ap (λ (x : View). x.committed) e;
  pool = ap (λ (x : View). x.pools (suc done.committed)) e ∙ ap (λ (b : Bool). cond b (applied (suc done.committed) (done.pools done.committed) (done.ledger (suc done.committed))) (done.pools (suc done.committed))) (itself (suc done.committed));
  ledger = ap (λ (x : View). x.ledger) e;
  next = ap (λ (x : View). x.next) e;
  idle = ap (λ (x : View). x.sync) e;
  none_waits = ap (λ (x : View). x.waiting) e ∙ waits;
  no_holds = ap (λ (x : View). x.holds) e ∙ holds;
}

device_answered : (v : View) (given : Given) (r : Reply) (w : View) → v.waiting ≡ None → v.holds ≡ [] → MayAnswer v given step.Device r w → Reaches v r w
device_answered v given (reply.Moved phase) w waits holds a =
    let goes = goes_between v given phase a.0 w a.2 in (goes.0, (goes.1 ∙ waits, goes.2 ∙ holds))
device_answered v given (reply.Committed group) w waits holds a =
    let ends = ends_between v given a.1 a.2 in between_then v a.1 w ends.0 (next_committed a.1 w (ends.1 ∙ waits) (ends.2 ∙ holds) a.3)
device_answered v given (reply.Replan disk) w waits holds a = (
  dropped_between v w disk a.3,
  (
    ap (λ (x : View). x.sync) a.3 ∙ ap without_plan a.0.planned,
    ap (λ (x : View). x.waiting) a.3 ∙ waits,
    ap (λ (x : View). x.holds) a.3 ∙ holds,
  ),
)
device_answered v given (reply.Refused cause) w waits holds a = (dropped_between v w a.1 a.4, tt)
device_answered v given r w waits holds a = absurd a

-- ---- the steps of a commit, one after another

close_step : (v : View) (given : Given) (r : Reply) (w : View) → MayCommit v → StepOf v given step.Close r w → Reaches v r w
close_step v given r w may is = by_answer v given step.Close r w is (close_answered v given r w may)

-- behind what nothing was committed by
further : (u v w : View) (r : Reply) → IsBetween u v → Reaches v r w → Reaches u r w
further u v w (reply.Committed group) between reaches = between_then u v w between reaches
further u v w r between reaches = (between_both u v w between reaches.0, reaches.1)

one_step : (s next : Step) → s ∷ [] ≡ next ∷ [] → s ≡ next
one_step s next e = cc

next_step : (u : View) (t : ℕ) (last : Reply) (v : View) (given : Given) (next : Step) (r : Reply) (w : View) → next_of t last ≡ next ∷ [] → Reaches u last v → StepOf v given next r w → Reaches u r w
next_step u t (reply.Closed group) v given next r w e so is =
    let s = subst (λ (x : Step). StepOf v given x r w) (sym (one_step step.Quiesce next e)) is in
    further u v w r so.0 (by_answer v given step.Quiesce r w s (quiesce_answered v given r w group so.1))
next_step u t (reply.Quiesced group) v given next r w e so is =
    let s = subst (λ (x : Step). StepOf v given x r w) (sym (one_step (step.Plan t) next e)) is in
    let may : MayPlan v = (ap (λ (x : Sync). if is_syncing x then v.waiting else None) so.1.0, so.1.1) in
    further u v w r so.0 (by_answer v given (step.Plan t) r w s (plan_answered v given t r w may))
next_step u t (reply.Replan disk) v given next r w e so is =
    let s = subst (λ (x : Step). StepOf v given x r w) (sym (one_step (step.Plan t) next e)) is in
    let may : MayPlan v = (ap (λ (x : Sync). if is_syncing x then v.waiting else None) so.1.0 ∙ so.1.1, so.1.2) in
    further u v w r so.0 (by_answer v given (step.Plan t) r w s (plan_answered v given t r w may))
next_step u t (reply.Planned group) v given next r w e so is =
    let s = subst (λ (x : Step). StepOf v given x r w) (sym (one_step step.Device next e)) is in
    further u v w r so.0 (by_answer v given step.Device r w s (device_answered v given r w so.1.0 so.1.1))
next_step u t (reply.Moved phase) v given next r w e so is =
    let s = subst (λ (x : Step). StepOf v given x r w) (sym (one_step step.Device next e)) is in
    further u v w r so.0 (by_answer v given step.Device r w s (device_answered v given r w so.1.0 so.1.1))
next_step u t last v given next r w e so is = absurd cc

is_flushing : (t : ℕ) (last : Reply) (next : Step) → next_of t last ≡ next ∷ [] → flushing next
is_flushing t (reply.Closed group) next e = subst flushing (one_step step.Quiesce next e) tt
is_flushing t (reply.Quiesced group) next e = subst flushing (one_step (step.Plan t) next e) tt
is_flushing t (reply.Replan disk) next e = subst flushing (one_step (step.Plan t) next e) tt
is_flushing t (reply.Planned group) next e = subst flushing (one_step step.Device next e) tt
is_flushing t (reply.Moved phase) next e = subst flushing (one_step step.Device next e) tt
is_flushing t last next e = absurd cc

module _ {P : Type 0} (g : Ghosts P) where
  abbrev EachGoes : P → Step → Reply → P → Type 0
  EachGoes = Goes g.represents g.answers_tell g.links

  pub begins : ((core : P) → g.came_from core core) → (old : P) (r : Reply) (new : P) → g.came_from old new → EachGoes old step.Close r new → Commits g old r new
  begins itself old r new follows goes = record {
    follows = follows;
    last = record { before = old; from_old = itself old; step = step.Close; kind = tt; goes = goes };
    reaches = λ v represents tell may. let one = goes v represents tell in (one.after, one.represents_after, close_step v one.given r one.after may one.is_step);
  }

  pub goes_on : ((first mid last : P) → g.came_from first mid → g.came_from mid last → g.came_from first last)
      → ((first mid last : P) → g.came_from first mid → g.came_from mid last → g.answers_tell first last → g.answers_tell first mid × g.answers_tell mid last)
      → (t : ℕ) (old : P) (last : Reply) (mid : P) (next : Step) (r : Reply) (new : P) → next_of t last ≡ next ∷ [] → Commits g old last mid → g.came_from mid new → EachGoes mid next r new → Commits g old r new
  goes_on further parts t old last mid next r new is so_far follows goes = record {
    follows = further old mid new so_far.follows follows;
    last = record { before = mid; from_old = so_far.follows; step = next; kind = is_flushing t last next is; goes = goes };
    reaches = λ v represents tell may.
        let both = parts old mid new so_far.follows follows tell in
        let before = so_far.reaches v represents both.0 may in
        let one = goes before.0 before.1 both.1 in
        (one.after, one.represents_after, next_step v t last before.0 one.given next r one.after is before.2 one.is_step);
  }
