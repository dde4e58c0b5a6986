-- What lies under the lock, as contracts see it.
use Rattle.std.specs.Prelude.{◌≡◌, ℕ, ◌+◌, ◌^◌, ◌≤◌, List, [], ◌∷◌, ◌++◌, length}
use Rattle.pool_model.specs.declared.step.Step.{Step}
use Rattle.pool_model.specs.declared.step.Reply.{Reply}
use Rattle.pool_model.specs.Headline.{Headline}
use Rattle.pool_steps.specs.Goes.{Goes}
use Rattle.pool_steps.specs.declared.steps.PoolSteps.{Ghosts}
use Rattle.shared_pool.specs.declared.recorded.Entry.{Entry}
use Rattle.shared_pool.specs.Replay.{Replays}
use Rattle.shared_pool.specs.Weights.{weight_of, writers_steps, steps_of, replies_of}

-- a core, its recorded steps with their replies, and what is counted beside them
pub record History (C : Type 0) : Type 0 where
  pub core : C
  pub origin : C  -- the core as the first record began
  pub start : C  -- the core as this record began
  pub entries : List Entry
  pub sealed : ℕ  -- steps of writers in sealed records
  pub total : ℕ  -- the steps of writers that the shares of all threads have counted
  pub begun : ℕ  -- the calls that they had counted as this record began
  pub calls : ℕ  -- the calls that they have counted

-- the record replays, where what the disks answered since its first beginning tells what was written, the counts agree, and neither is beyond its bound
pub record IsRecord {C : Type 0} (g : Ghosts C) (h : History C) : Type 0 where
  pub sealed_before : g.came_from h.origin h.start
  pub since : g.came_from h.start h.core
  pub replays : g.answers_tell h.origin h.core → Replays g h.start h.entries h.core
  pub counts : h.sealed + writers_steps h.entries ≡ h.total
  pub called : h.begun + length h.entries ≡ h.calls
  pub fits : length h.entries ≤ 65536
  pub few : h.sealed ≤ 2 ^ 62

-- a step, as it is recorded with its reply
abbrev pub entry : Step → Reply → Entry
entry step reply = record { step = step; reply = reply }

-- the core took this step, and it is recorded with its reply, and counted
pub record Takes {C : Type 0} (g : Ghosts C) (old : History C) (step : Step) (reply : Reply) (new : History C) : Type 0 where
  pub came_from : g.came_from old.core new.core
  pub goes : Goes g.represents g.answers_tell g.links old.core step reply new.core
  pub recorded : new.entries ≡ old.entries ++ entry step reply ∷ []
  pub counted : new.total ≡ old.total + weight_of step
  pub called : new.calls ≡ old.calls + 1
  pub origin : new.origin ≡ old.origin
  pub start : new.start ≡ old.start
  pub sealed : new.sealed ≡ old.sealed
  pub begun : new.begun ≡ old.begun

-- an empty record begins at the present core, and the steps of the one before are counted as sealed
pub record Seals {C : Type 0} (old new : History C) : Type 0 where
  pub core : new.core ≡ old.core
  pub start : new.start ≡ old.core
  pub entries : new.entries ≡ []
  pub sealed : new.sealed ≡ old.sealed + writers_steps old.entries
  pub origin : new.origin ≡ old.origin
  pub total : new.total ≡ old.total
  pub called : new.calls ≡ old.calls + 1
  pub begun : new.begun ≡ new.calls

-- the record is a run of the machine, and tells what the headline says of it
abbrev pub Tells : {C : Type 0} → Ghosts C → History C → Type 0
Tells g h = g.answers_tell h.origin h.core → (r : Replays g h.start h.entries h.core) × Headline r.before (steps_of h.entries) r.givens (replies_of h.entries) r.after
