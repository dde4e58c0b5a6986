-- The part of the view that groups, holds and pending items are: what a pipeline of groups keeps.
use Rattle.std.specs.Prelude.{◌≡◌, ◌⊎◌, ℕ, suc, ◌≤◌, ◌<◌, List, [], ◌∷◌, ◌++◌, filter, Bool, true, false, not, Option, Some, None, is_some, ◌==◌, if◌then◌else◌}
use Rattle.std.specs.List.{AllByRecursion}
use Rattle.pool_model.specs.declared.group.Holder.{Holder}
use Rattle.pool_model.specs.declared.group.Stage.{Stage}
use Rattle.pool_model.specs.declared.group.Stage.TheVariants.{Quiescing, Quiesced as QuiescedStage}
use Rattle.pool_model.specs.declared.item.Item.{Item}
use Rattle.pool_model.specs.declared.item.Item.TheVariants.{Write as WriteItem, Action as ActionItem}
use Rattle.pool_model.specs.declared.refusal.Refusal.TheVariants.{Suspended, NotNow}
use Rattle.pool_model.specs.declared.step.Step.{Step}
use Rattle.pool_model.specs.declared.step.Step.TheVariants.{Hold, Write as WriteStep, Act, Release, Close, Quiesce, Plan, Device, DiskOut, Read, ReadUnder}
use Rattle.pool_model.specs.declared.step.Reply.{Reply}
use Rattle.pool_model.specs.declared.step.Reply.TheVariants.{Held, Receipt, Released, Closed, Quiesced, Planned, Moved, Replan, Committed, Out, Bytes, Refused}
use Rattle.pool_model.specs.Pools.{Entry, Ledger, no_items}
use Rattle.pool_model.specs.View.{View, is_syncing, waiting_after, open_after, hold_group, is_held}
use Rattle.pool_model.specs.Refusals.{greatest}

-- a view's groups, holds, next numbers and accepted items, without disks, pools and plans
pub record Flow : Type 0 where
  pub committed : ℕ  -- the group that was committed last
  pub syncing : Bool  -- whether the group after that is synced
  pub waiting : Option Stage
  pub holds : List Holder
  pub next : ℕ → ℕ
  pub ledger : Ledger

-- the flow of a view: of its sync it keeps only whether a group is synced
abbrev pub flow_of : View → Flow
flow_of v = record { committed = v.committed; syncing = is_syncing v.sync; waiting = v.waiting; holds = v.holds; next = v.next; ledger = v.ledger }

-- the waiting group's number; where no group waits, the open group's
abbrev pub waiting_in : Flow → ℕ
waiting_in f = waiting_after f.committed f.syncing

-- the open group's number
abbrev pub opened : Flow → ℕ
opened f = open_after f.committed f.syncing (is_some f.waiting)

-- ---- what a step changes

-- an item joins its kind
abbrev pub added : Entry → Item → Entry
added entry (WriteItem w) = record entry { writes = entry.writes ++ w ∷ [] }
added entry (ActionItem a) = record entry { actions = entry.actions ++ a ∷ [] }

-- the writer has this hold, the newest
abbrev pub with_hold : Flow → ℕ → ℕ → Flow
with_hold f writer group = record f { holds = f.holds ++ record { writer = writer; group = group } ∷ [] }

-- the holds but for those of the writer
abbrev pub released_by : List Holder → ℕ → List Holder
released_by holds writer = filter (λ h. not (h.writer == writer)) holds

-- the writer has no hold
abbrev pub without_hold : Flow → ℕ → Flow
without_hold f writer = record f { holds = released_by f.holds writer }

-- the writer's next number is one more
abbrev pub counted_on : (ℕ → ℕ) → ℕ → ℕ → ℕ
counted_on next writer w = if w == writer then suc (next w) else next w

-- a group has accepted an item
abbrev pub ledger_accepted : Ledger → ℕ → Item → Ledger
ledger_accepted ledger group item g = if g == group then added (ledger g) item else ledger g

-- a group has accepted an item of a writer
abbrev pub with_accepted : Flow → ℕ → ℕ → Item → Flow
with_accepted f writer group item = record f { next = counted_on f.next writer; ledger = ledger_accepted f.ledger group item }

-- the group after the committed one is synced: it was, or it is the waiting one, which waits no more
abbrev pub with_taken : Flow → Flow
with_taken f = record f { syncing = true; waiting = if f.syncing then f.waiting else None }

-- the group that was synced is committed
abbrev pub with_committed : Flow → Flow
with_committed f = record f { committed = suc f.committed; syncing = false }

-- a group is taken to be synced: one that was before, or the quiesced one
abbrev pub TakesGroup : Flow → Flow → Type 0
TakesGroup f g = ((f.syncing ≡ true) ⊎ (f.waiting ≡ Some QuiescedStage)) × (g ≡ with_taken f)

-- what a step and its reply make of groups, holds and pending items, and what of these they need
abbrev pub FlowStep : Flow → Step → Reply → Flow → Type 0
FlowStep f (Hold writer) (Held group) g = (hold_group writer f.holds ≡ None) × (group ≡ opened f) × (g ≡ with_hold f writer group)
FlowStep f (WriteStep x) (Receipt group) g = (hold_group x.writer f.holds ≡ Some group) × (x.number ≡ f.next x.writer) × (x.number ≤ greatest) × (g ≡ with_accepted f x.writer group (WriteItem x))
FlowStep f (Act a) (Receipt group) g = (hold_group a.writer f.holds ≡ Some group) × (a.number ≡ f.next a.writer) × (a.number ≤ greatest) × (group ≡ opened f) × (g ≡ with_accepted f a.writer group (ActionItem a))
FlowStep f (Release writer) Released g = g ≡ without_hold f writer
FlowStep f Close (Closed group) g = (f.waiting ≡ None) × (opened f < greatest) × (group ≡ opened f) × (g ≡ record f { waiting = Some Quiescing })
FlowStep f Quiesce (Quiesced group) g = (f.waiting ≡ Some Quiescing) × (is_held (waiting_in f) f.holds ≡ false) × (group ≡ waiting_in f) × (g ≡ record f { waiting = Some QuiescedStage })
FlowStep f (Plan timestamp) (Planned group) g = (group ≡ suc f.committed) × TakesGroup f g
FlowStep f (Plan timestamp) (Refused Suspended) g = g ≡ f
FlowStep f (Plan timestamp) (Refused NotNow) g = g ≡ f
FlowStep f (Plan timestamp) (Refused cause) g = TakesGroup f g
FlowStep f Device (Committed group) g = (f.syncing ≡ true) × (group ≡ suc f.committed) × (g ≡ with_committed f)
FlowStep f Device (Moved phase) g = g ≡ f
FlowStep f Device (Replan disk) g = g ≡ f
FlowStep f (DiskOut disk) Out g = g ≡ f
FlowStep f (Read name offset len) (Bytes bytes) g = g ≡ f
FlowStep f (ReadUnder group name offset len) (Bytes bytes) g = g ≡ f
FlowStep f step (Refused cause) g = g ≡ f
FlowStep f step reply g = ⊥

-- steps and their replies, one for each, lead from flow f to flow g, each as FlowStep says
abbrev pub FlowRun : Flow → List Step → List Reply → Flow → Type 0
FlowRun f [] [] g = g ≡ f
FlowRun f (step ∷ steps) (reply ∷ replies) g = (mid : Flow) × FlowStep f step reply mid × FlowRun mid steps replies g
FlowRun f steps replies g = ⊥

-- ---- what is true of each flow that a run comes to

-- a group that may take items: the open one, and the waiting one while it quiesces
abbrev pub Takes : Flow → ℕ → Type 0
Takes f group = (group ≡ opened f) ⊎ ((f.waiting ≡ Some Quiescing) × (group ≡ waiting_in f))

-- where holds and accepted items may be, and how far groups and numbers may go
pub record IsSoundFlow (f : Flow) : Type 0 where
  -- each hold is in the open or the quiescing group
  pub holds : AllByRecursion (λ h. Takes f h.group) f.holds
  -- nothing is accepted above the open group
  pub beyond : (group : ℕ) → opened f < group → f.ledger group ≡ no_items
  -- groups and numbers end
  pub groups : opened f ≤ greatest
  pub numbers : (writer : ℕ) → f.next writer ≤ suc greatest
