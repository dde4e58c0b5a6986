-- Whole runs of calls.
use Rattle.std.specs.Prelude.{◌≡◌, ◌⊎◌, ◌≤◌, ◌++◌, List, [], ◌∷◌, None, is_some, map, true, false}
use Rattle.pool_model.specs.declared.refusal.Refusal.TheVariants as causes
use Rattle.pool_model.specs.declared.refusal.Refusal.{Refusal as Cause}
use Rattle.pool_model.specs.declared.step.Step.{Step}
use Rattle.pool_model.specs.declared.step.Step.TheVariants as steps
use Rattle.pool_model.specs.declared.step.Reply.{Reply}
use Rattle.pool_model.specs.declared.step.Reply.TheVariants as replies
use Rattle.pool_model.specs.View.{hold_group, is_held, is_quiescing, is_quiesced}
use Rattle.pool_model.specs.Refusals.{greatest}
use Rattle.pool_model.specs.Flow.{Flow, opened, waiting_in, FlowStep}
use Rattle.pool_model.specs.Accepted.{OnceInOrder}
use Rattle.txg_pipeline.specs.declared.calls.Answer.{Answer}
use Rattle.txg_pipeline.specs.declared.calls.Answer.TheVariants.{Held, Receipt, Released, Closed, Quiesced, Taken, Committed, Refused}
use Rattle.txg_pipeline.specs.declared.calls.Call.{Call}
use Rattle.txg_pipeline.specs.declared.calls.Call.TheVariants.{Hold, Accept, Release, Close, Quiesce, Take, Commit}
use Rattle.txg_pipeline.specs.declared.pipeline.Pipeline.{Pipeline}
use Rattle.txg_pipeline.specs.declared.refusal.Refusal.{Refusal}
use Rattle.txg_pipeline.specs.declared.refusal.Refusal.TheVariants.{NoMemory, AlreadyHeld, NoHold, OutOfOrder, NotNow}
use Rattle.txg_pipeline.specs.Carries.{Carries, IsNotAccepted, step_of_item}

-- the step of the machine that a call is
abbrev pub step_of : Call → Step
step_of (Hold writer) = steps.Hold writer
step_of (Accept item) = step_of_item item
step_of (Release writer) = steps.Release writer
step_of Close = steps.Close
step_of Quiesce = steps.Quiesce
step_of Take = steps.Plan 0
step_of Commit = steps.Device

-- the refusal of the machine that a pipeline's refusal is
abbrev pub cause_of : Refusal → Cause
cause_of NoMemory = causes.NoMemory
cause_of AlreadyHeld = causes.AlreadyHeld
cause_of NoHold = causes.NoHold
cause_of (OutOfOrder expected) = causes.OutOfOrder expected
cause_of NotNow = causes.NotNow

-- the reply of the machine that an answer is
abbrev pub reply_of : Answer → Reply
reply_of (Held group) = replies.Held group
reply_of (Receipt group) = replies.Receipt group
reply_of Released = replies.Released
reply_of (Closed group) = replies.Closed group
reply_of (Quiesced group) = replies.Quiesced group
reply_of (Taken group) = replies.Planned group
reply_of (Committed group) = replies.Committed group
reply_of (Refused cause) = replies.Refused (cause_of cause)

-- what speaks against a call: its own cause
abbrev pub IsCallCause : Flow → Call → Refusal → Type 0
IsCallCause f (Hold writer) NoMemory = Unit {0}
IsCallCause f (Hold writer) AlreadyHeld = is_some (hold_group writer f.holds) ≡ true
IsCallCause f (Accept item) cause = IsNotAccepted f item cause
IsCallCause f (Release writer) NoHold = hold_group writer f.holds ≡ None
IsCallCause f Close NotNow = (is_some f.waiting ≡ true) ⊎ (greatest ≤ opened f)
IsCallCause f Quiesce NotNow = (is_quiescing f.waiting ≡ false) ⊎ (is_held (waiting_in f) f.holds ≡ true)
IsCallCause f Take NotNow = (f.syncing ≡ true) ⊎ (is_quiesced f.waiting ≡ false)
IsCallCause f Commit NotNow = f.syncing ≡ false
IsCallCause f call cause = ⊥

-- a refused call has its cause
abbrev pub HasCause : Flow → Call → Answer → Type 0
HasCause f call (Refused cause) = IsCallCause f call cause
HasCause f call answer = Unit {0}

-- the call is a step of groups, holds and items, in each flow that the pipeline carried
abbrev pub IsCall : Pipeline → Call → Answer → Pipeline → Type 0
IsCall old call answer new = (f : Flow) → Carries old f → HasCause f call answer × ((g : Flow) × FlowStep f (step_of call) (reply_of answer) g × Carries new g)

-- one chain of such calls
abbrev pub CallRun : Flow → List Call → List Answer → Flow → Type 0
CallRun f [] [] g = g ≡ f
CallRun f (call ∷ calls) (answer ∷ answers) g = HasCause f call answer × ((mid : Flow) × FlowStep f (step_of call) (reply_of answer) mid × CallRun mid calls answers g)
CallRun f calls answers g = ⊥

-- so far
abbrev pub Runs : Pipeline → List Call → List Answer → Pipeline → List Answer → Type 0
Runs old calls before new after = (answers : List Answer) × (after ≡ before ++ answers)
    × ((f : Flow) → Carries old f → (g : Flow) × Carries new g × CallRun f calls answers g)

-- The pipeline took these calls and added their answers, each refusal for its own cause: a run of groups, holds and items,
-- in which each accepted item stands once, in order and for good in its group.
abbrev pub Ran : Pipeline → List Call → List Answer → Pipeline → List Answer → Type 0
Ran old calls before new after = (answers : List Answer) × (after ≡ before ++ answers)
    × ((f : Flow) → Carries old f → (g : Flow) × Carries new g × CallRun f calls answers g
    × OnceInOrder f (map step_of calls) (map reply_of answers) g)
