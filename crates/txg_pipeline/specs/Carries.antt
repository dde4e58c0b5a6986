-- When a pipeline carries a flow of groups, and what a call is refused for.
use Rattle.std.specs.Prelude.{◌≡◌, ◌≢◌, ◌⊎◌, ℕ, suc, ◌<◌, ◌≤◌, [], false, true, Some, None, is_some, nat_eq, unwrap_or}
use Rattle.std.specs.declared.hash.FoldHasher.{FoldHasher}
use Rattle.std.specs.declared.hash.BuildHasherDefault.{BuildHasherDefault}
use Rattle.std.specs.HashMap.{get, HashMap}
use Rattle.pool_model.specs.declared.item.Item.{Item}
use Rattle.pool_model.specs.declared.item.Item.TheVariants.{Write as WriteItem, Action as ActionItem}
use Rattle.pool_model.specs.declared.step.Step.{Step}
use Rattle.pool_model.specs.declared.step.Step.TheVariants.{Write as WriteStep, Act}
use Rattle.pool_model.specs.declared.step.Reply.{Reply}
use Rattle.pool_model.specs.Pools.{no_items}
use Rattle.pool_model.specs.View.{hold_group}
use Rattle.pool_model.specs.Refusals.{greatest}
use Rattle.pool_model.specs.Flow.{Flow, opened, waiting_in, FlowStep, IsSoundFlow}
use Rattle.pool_model.specs.Accepted.{writer_of, number_of}
use Rattle.txg_pipeline.specs.declared.pipeline.Pipeline.{Pipeline}
use Rattle.txg_pipeline.specs.declared.refusal.Refusal.{Refusal}
use Rattle.txg_pipeline.specs.declared.refusal.Refusal.TheVariants.{NoMemory, AlreadyHeld, NoHold, OutOfOrder, NotNow}

-- a writer's next number, which is 1 at first
abbrev pub next_of : HashMap ℕ ℕ (BuildHasherDefault FoldHasher) → ℕ → ℕ
next_of m writer = unwrap_or (get nat_eq m writer) 1

-- the pipeline is in a state that the flow describes
pub record Carries (pipeline : Pipeline) (f : Flow) : Type 0 where
  pub sound : IsSoundFlow f
  pub committed : pipeline.committed ≡ f.committed
  pub syncing : pipeline.syncing ≡ f.syncing
  pub waiting : pipeline.waiting ≡ f.waiting
  pub holds : pipeline.holds.items ≡ f.holds
  pub next : (writer : ℕ) → next_of pipeline.next writer ≡ f.next writer
  pub accepting : pipeline.accepting ≡ f.ledger (opened f)
  pub waited : is_some f.waiting ≡ true → pipeline.waited ≡ f.ledger (waiting_in f)
  pub synced : f.syncing ≡ true → pipeline.synced ≡ f.ledger (suc f.committed)

-- nothing above the committed group was accepted, and nobody has a hold
abbrev pub empty_after : ℕ → Flow
empty_after committed = record { committed = committed; syncing = false; waiting = None; holds = []; next = λ writer. 1; ledger = λ group. no_items }

-- the call is this step with this reply, in each flow that the pipeline carried
abbrev pub Does : Pipeline → Step → Reply → Pipeline → Type 0
Does old step reply new = (f : Flow) → Carries old f → (g : Flow) × FlowStep f step reply g × Carries new g

-- the call changed nothing
abbrev pub IsUnchanged : Pipeline → Pipeline → Type 0
IsUnchanged old new = (f : Flow) → Carries old f → Carries new f

-- the item as a step
abbrev pub step_of_item : Item → Step
step_of_item (WriteItem w) = WriteStep w
step_of_item (ActionItem a) = Act a

-- the number is not the writer's next one, or is past the last
abbrev pub IsWrongNumber : Flow → ℕ → ℕ → Type 0
IsWrongNumber f writer number = (number ≢ f.next writer) ⊎ (greatest < number)

-- an item for which a writer's hold and number speak: the group is that of the hold
abbrev pub IsAdmitted : Flow → ℕ → ℕ → ℕ → Type 0
IsAdmitted f writer number group = (hold_group writer f.holds ≡ Some group) × (number ≡ f.next writer) × (number ≤ greatest)

-- why a writer with this number is not admitted: the first cause of these
abbrev pub IsNotAdmitted : Flow → ℕ → ℕ → Refusal → Type 0
IsNotAdmitted f writer number NoHold = hold_group writer f.holds ≡ None
IsNotAdmitted f writer number (OutOfOrder expected) = (is_some (hold_group writer f.holds) ≡ true) × (expected ≡ f.next writer) × IsWrongNumber f writer number
IsNotAdmitted f writer number NoMemory = ⊥
IsNotAdmitted f writer number AlreadyHeld = ⊥
IsNotAdmitted f writer number NotNow = ⊥

-- an action comes too late: the hold's group is not open
abbrev pub IsLate : Flow → Item → Type 0
IsLate f (WriteItem w) = ⊥
IsLate f (ActionItem a) = (group : ℕ) × IsAdmitted f a.writer a.number group × (group ≢ opened f)

-- why an item is not accepted
abbrev pub IsNotAccepted : Flow → Item → Refusal → Type 0
IsNotAccepted f item NoMemory = Unit {0}
IsNotAccepted f item NotNow = IsLate f item
IsNotAccepted f item NoHold = IsNotAdmitted f (writer_of item) (number_of item) NoHold
IsNotAccepted f item (OutOfOrder expected) = IsNotAdmitted f (writer_of item) (number_of item) (OutOfOrder expected)
IsNotAccepted f item AlreadyHeld = ⊥
