-- The ways in which groups, holds and items may go on, each from a flow that shows what it needs.
use Rattle.std.proofs.Common.{◌≡◌, ⊎_elim, ℕ, suc, ◌<◌, ◌≤◌, List, Bool, true, false, true≢false, Option, Some, None, refl, sym, ap, ◌∙◌, subst, arith}
use Rattle.std.specs.Prelude.{if◌then◌else◌}
use Rattle.pool_model.specs.declared.group.Stage.{Stage}
use Rattle.pool_model.specs.declared.group.Stage.TheVariants.{Quiescing, Quiesced as QuiescedStage}
use Rattle.pool_model.specs.declared.item.Action.{Action}
use Rattle.pool_model.specs.declared.item.Item.TheVariants.{Write as WriteItem, Action as ActionItem}
use Rattle.pool_model.specs.declared.item.Write.{Write}
use Rattle.pool_model.specs.declared.step.Phase.{Phase}
use Rattle.pool_model.specs.declared.step.Step.{Step}
use Rattle.pool_model.specs.declared.step.Step.TheVariants.{Hold, Write as WriteStep, Act, Release, Close, Quiesce, Plan, Device, DiskOut, Read, ReadUnder}
use Rattle.pool_model.specs.declared.step.Reply.{Reply}
use Rattle.pool_model.specs.declared.step.Reply.TheVariants.{Held, Receipt, Released, Closed, Quiesced, Planned, Moved, Replan, Committed, Out, Bytes, Refused}
use Rattle.pool_model.specs.declared.refusal.Refusal.{Refusal}
use Rattle.pool_model.specs.declared.refusal.Refusal.TheVariants.{Suspended, NotNow}
use Rattle.pool_model.specs.View.{hold_group, is_held}
use Rattle.pool_model.specs.Refusals.{greatest}
use Rattle.pool_model.specs.Flow.{Flow, waiting_in, opened, with_hold, without_hold, with_accepted, with_taken, with_committed, TakesGroup, FlowStep}

-- a property of steps, proved of each way to go on
pub record EachFlow (P : Flow → Step → Reply → Flow → Type 0) : Type 0 where
  pub stays : (f : Flow) (step : Step) (cause : Refusal) → P f step (Refused cause) f
  pub begun : (f : Flow) (timestamp : ℕ) (cause : Refusal) → P (record f { syncing = false; waiting = Some QuiescedStage }) (Plan timestamp) (Refused cause) (record f { syncing = true; waiting = None })
  pub replanned : (f : Flow) (disk : ℕ) → P f Device (Replan disk) f
  pub out : (f : Flow) (disk : ℕ) → P f (DiskOut disk) Out f
  pub moved : (f : Flow) (phase : Phase) → P f Device (Moved phase) f
  pub read : (f : Flow) (name : List ℕ) (offset len : ℕ) (bytes : List ℕ) → P f (Read name offset len) (Bytes bytes) f
  pub read_under : (f : Flow) (group : ℕ) (name : List ℕ) (offset len : ℕ) (bytes : List ℕ) → P f (ReadUnder group name offset len) (Bytes bytes) f
  pub held : (f : Flow) (writer : ℕ) → hold_group writer f.holds ≡ None → P f (Hold writer) (Held (opened f)) (with_hold f writer (opened f))
  pub wrote : (f : Flow) (w : Write) (group : ℕ) → hold_group w.writer f.holds ≡ Some group → w.number ≡ f.next w.writer → w.number ≤ greatest → P f (WriteStep w) (Receipt group) (with_accepted f w.writer group (WriteItem w))
  pub acted : (f : Flow) (a : Action) (group : ℕ) → hold_group a.writer f.holds ≡ Some group → a.number ≡ f.next a.writer → a.number ≤ greatest → P f (Act a) (Receipt group) (with_accepted f a.writer group (ActionItem a))
  pub released : (f : Flow) (writer : ℕ) → P f (Release writer) Released (without_hold f writer)
  pub closed : (f : Flow) → waiting_in f < greatest → P (record f { waiting = None }) Close (Closed (waiting_in f)) (record f { waiting = Some Quiescing })
  pub quiesced : (f : Flow) → is_held (waiting_in f) f.holds ≡ false → P (record f { waiting = Some Quiescing }) Quiesce (Quiesced (waiting_in f)) (record f { waiting = Some QuiescedStage })
  pub planned : (f : Flow) (timestamp : ℕ) → P (record f { syncing = false; waiting = Some QuiescedStage }) (Plan timestamp) (Planned (suc f.committed)) (record f { syncing = true; waiting = None })
  pub replanned_group : (f : Flow) (timestamp : ℕ) → P f (Plan timestamp) (Planned (suc f.committed)) f
  pub committed : (f : Flow) → P (record f { syncing = true }) Device (Committed (suc f.committed)) (with_committed f)

-- a step from f is one from the same flow with what is known of it written out
at_waiting : (P : Flow → Step → Reply → Flow → Type 0) (f : Flow) (step : Step) (reply : Reply) (g : Flow) (o : Option Stage) → f.waiting ≡ o → P (record f { waiting = o }) step reply g → P f step reply g
at_waiting P f step reply g o e p = subst (λ (s : Option Stage). P (record f { waiting = s }) step reply g) (sym e) p

-- a group that is synced already stays so
taken_already : (f : Flow) → f.syncing ≡ true → with_taken f ≡ f
taken_already f e = λ i. record f { syncing = sym e i; waiting = waits i }
  where
    waits : (if f.syncing then f.waiting else None) ≡ f.waiting
    waits = ap (λ b. if b then f.waiting else None) e

takes : (P : Flow → Step → Reply → Flow → Type 0) (f : Flow) (step : Step) (reply : Reply) (g : Flow) → P f step reply f → P (record f { syncing = false; waiting = Some QuiescedStage }) step reply (record f { syncing = true; waiting = None }) → TakesGroup f g → P f step reply g
takes P f step reply g again next t = subst (P f step reply) (sym t.1) (cases f.syncing refl)
  where
    cases : (b : Bool) → f.syncing ≡ b → P f step reply (with_taken f)
    cases true e = subst (P f step reply) (sym (taken_already f e)) again
    cases false e = ⊎_elim
        (λ s. absurd (true≢false (sym s ∙ e)))
        (λ q. subst (λ (p : Bool × Option Stage). P (record f { syncing = p.0; waiting = p.1 }) step reply (with_taken (record f { syncing = p.0; waiting = p.1 }))) (λ i. (sym e i, sym q i)) next)
        t.0

pub by_flow : (P : Flow → Step → Reply → Flow → Type 0) → EachFlow P → (f : Flow) (step : Step) (reply : Reply) (g : Flow) → FlowStep f step reply g → P f step reply g
by_flow P m f (Hold writer) (Held group) g s = subst (P f (Hold writer) (Held group)) (sym s.2) (subst (λ k. P f (Hold writer) (Held k) (with_hold f writer k)) (sym s.1) (m.held f writer s.0))
by_flow P m f (WriteStep x) (Receipt group) g s = subst (P f (WriteStep x) (Receipt group)) (sym s.3) (m.wrote f x group s.0 s.1 s.2)
by_flow P m f (Act a) (Receipt group) g s = subst (P f (Act a) (Receipt group)) (sym s.4) (m.acted f a group s.0 s.1 s.2)
by_flow P m f (Release writer) Released g s = subst (P f (Release writer) Released) (sym s) (m.released f writer)
by_flow P m f Close (Closed group) g s =
    let same : opened f ≡ waiting_in f = ap (λ o. opened (record f { waiting = o })) s.0 in
    let lt = s.1 in
    let below : waiting_in f < greatest = omega arith in
    subst (P f Close (Closed group)) (sym s.3) (subst (λ k. P f Close (Closed k) (record f { waiting = Some Quiescing })) (sym (s.2 ∙ same)) (at_waiting P f Close (Closed (waiting_in f)) (record f { waiting = Some Quiescing }) None s.0 (m.closed f below)))
by_flow P m f Quiesce (Quiesced group) g s =
    subst (P f Quiesce (Quiesced group)) (sym s.3) (subst (λ k. P f Quiesce (Quiesced k) (record f { waiting = Some QuiescedStage })) (sym s.2) (at_waiting P f Quiesce (Quiesced (waiting_in f)) (record f { waiting = Some QuiescedStage }) (Some Quiescing) s.0 (m.quiesced f s.1)))
by_flow P m f (Plan timestamp) (Planned group) g s =
    subst (λ k. P f (Plan timestamp) (Planned k) g) (sym s.0) (takes P f (Plan timestamp) (Planned (suc f.committed)) g (m.replanned_group f timestamp) (m.planned f timestamp) s.1)
by_flow P m f (Plan timestamp) (Refused Suspended) g s = subst (P f (Plan timestamp) (Refused Suspended)) (sym s) (m.stays f (Plan timestamp) Suspended)
by_flow P m f (Plan timestamp) (Refused NotNow) g s = subst (P f (Plan timestamp) (Refused NotNow)) (sym s) (m.stays f (Plan timestamp) NotNow)
by_flow P m f (Plan timestamp) (Refused cause) g s = takes P f (Plan timestamp) (Refused cause) g (m.stays f (Plan timestamp) cause) (m.begun f timestamp cause) s
by_flow P m f Device (Committed group) g s =
    subst (P f Device (Committed group)) (sym s.2) (subst (λ k. P f Device (Committed k) (with_committed f)) (sym s.1) (subst (λ b. P (record f { syncing = b }) Device (Committed (suc f.committed)) (with_committed f)) (sym s.0) (m.committed f)))
by_flow P m f Device (Moved phase) g s = subst (P f Device (Moved phase)) (sym s) (m.moved f phase)
by_flow P m f Device (Replan disk) g s = subst (P f Device (Replan disk)) (sym s) (m.replanned f disk)
by_flow P m f (DiskOut disk) Out g s = subst (P f (DiskOut disk) Out) (sym s) (m.out f disk)
by_flow P m f (Read name offset len) (Bytes bytes) g s = subst (P f (Read name offset len) (Bytes bytes)) (sym s) (m.read f name offset len bytes)
by_flow P m f (ReadUnder group name offset len) (Bytes bytes) g s = subst (P f (ReadUnder group name offset len) (Bytes bytes)) (sym s) (m.read_under f group name offset len bytes)
by_flow P m f (Hold writer) (Refused cause) g s = subst (P f (Hold writer) (Refused cause)) (sym s) (m.stays f (Hold writer) cause)
by_flow P m f step (Refused cause) g s = subst (P f step (Refused cause)) (sym s) (m.stays f step cause)
by_flow P m f step reply g s = absurd s
