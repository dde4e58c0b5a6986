-- Why a call of a device is refused.
use Rattle.std.specs.Prelude.{◌≡◌, ◌⊎◌, ℕ, ◌+◌, ◌≤◌, List, length, Some}
use Rattle.pool_model.specs.declared.refusal.Refusal.{Refusal}
use Rattle.pool_model.specs.declared.refusal.Refusal.TheVariants.{NoMemory}
use Rattle.pool_model.specs.declared.step.Step.{Step}
use Rattle.pool_model.specs.declared.step.Step.TheVariants as step
use Rattle.pool_model.specs.declared.step.Reply.{Reply}
use Rattle.pool_model.specs.declared.step.Reply.TheVariants.{Refused}
use Rattle.pool_steps.specs.declared.steps.PoolSteps.{Ghosts}
use Rattle.pool_steps.specs.Goes.{Goes}
use Rattle.volume_device.specs.declared.device.Device.{Device}

-- the steps that a read of this range takes
abbrev pub reading : List ℕ → ℕ → ℕ → Step → Type 0
reading name offset len (step.Read volume at n) = (volume ≡ name) × (offset ≤ at) × (at + n ≤ offset + len)
reading name offset len other = ⊥

-- the steps of a commit
abbrev pub flushing : Step → Type 0
flushing (step.Release writer) = writer ≡ 1
flushing step.Close = Unit {0}
flushing step.Quiesce = Unit {0}
flushing (step.Plan timestamp) = Unit {0}
flushing step.Device = Unit {0}
flushing other = ⊥

-- the steps that a write of these bytes takes
abbrev pub writing : List ℕ → ℕ → List ℕ → Step → Type 0
writing name offset bytes (step.Hold writer) = writer ≡ 1
writing name offset bytes (step.Write w) = (w.writer ≡ 1) × (w.volume ≡ name) × (offset ≤ w.offset) × (w.offset + length w.bytes ≤ offset + length bytes)
writing name offset bytes other = flushing other

-- why a step was not answered as it should be
abbrev pub cause_of : Reply → Refusal
cause_of (Refused cause) = cause
cause_of reply = NoMemory

module _ {P : Type 0} (steps : Ghosts P) where
  -- a step of this kind was taken, and refused for this cause
  pub record IsStepRefused (takes : Step → Type 0) (old new : Device P) (cause : Refusal) : Type 0 where
    pub before : P
    pub after : P
    pub from_old : steps.came_from old.core before
    pub to_new : steps.came_from after new.core
    pub step : Step
    pub kind : takes step
    pub goes : Goes steps.represents steps.answers_tell steps.links before step (Refused cause) after

  -- memory ran out; or a commit was refused before, for this cause; or a step was
  abbrev pub IsCaused : (Step → Type 0) → Device P → Device P → Refusal → Type 0
  IsCaused takes old new cause = (cause ≡ NoMemory) ⊎ ((old.refused ≡ Some cause) ⊎ IsStepRefused takes old new cause)
