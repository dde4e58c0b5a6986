-- Commands that read or write a whole volume, piece by piece.
use Rattle.std.specs.Prelude.{◌≡◌, ◌⊎◌, ℕ, Bool, true, false, List, ◌++◌, Option, Result, Ok, Err, Some}
use Rattle.std.specs.Io.KnownBytes.{Appends}
use Rattle.command_steps.specs.Made.{IsAtRest}
use Rattle.pool_model.specs.declared.volume.PlainVolume.{PlainVolume}
use Rattle.pool_model.specs.declared.refusal.Refusal.TheVariants.{NoMemory}
use Rattle.pool_model.specs.Pools.{PlainPool, volume_at}
use Rattle.pool_model.specs.View.{View}
use Rattle.pool_steps.specs.declared.steps.PoolSteps.{Ghosts as StepGhosts}
use Rattle.volume_device.specs.Contents.{Contents, IsOverwritten}
use Rattle.volume_device.specs.Devices.{Has}
use Rattle.commands.specs.Does.{IsOpened}
use Rattle.commands.specs.Pouring.{IfKnown}
use Rattle.commands.specs.declared.pools.Pools.{Ghosts}
use Rattle.commands.specs.declared.stop.Stop.{Stop}
use Rattle.commands.specs.declared.stop.Stop.TheVariants as stop

-- these are all bytes of the volume or snapshot
abbrev pub AreAll : List ℕ → List ℕ → PlainPool → Type 0
AreAll name bytes pool = (volume : PlainVolume) × (volume_at name pool ≡ Some volume) × (bytes ≡ volume.bytes)

-- these are its first bytes, if there is such a volume
abbrev pub AreFirst : List ℕ → List ℕ → PlainPool → Type 0
AreFirst name bytes pool = (volume : PlainVolume) → volume_at name pool ≡ Some volume → (rest : List ℕ) × (volume.bytes ≡ bytes ++ rest)

module _ {P : Type 0} (steps : StepGhosts P) where
  -- from each view of a pool at rest, where what the disks answered tells what was written, this holds of its last committed pool
  abbrev pub FromRest : P → P → (PlainPool → Type 0) → Type 0
  FromRest pool last holds = (v : View) → steps.represents pool v → IsAtRest v → v.next 1 ≡ 1 → steps.answers_tell pool last → holds (v.pools v.committed)

  -- the pool has, now and after a stop, what it had with these bytes in the volume
  pub record HasAll (last : P) (name all : List ℕ) (pool : PlainPool) : Type 0 where
    pub contents : Contents
    pub has : Has steps last contents
    pub now : IsOverwritten name 0 all pool contents.now
    pub safe : contents.safe ≡ contents.now

  -- after a stop it has a front of these bytes in the volume
  pub record HasFront (last : P) (name all : List ℕ) (pool : PlainPool) : Type 0 where
    pub contents : Contents
    pub has : Has steps last contents
    pub front : List ℕ
    pub back : List ℕ
    pub parts : all ≡ front ++ back
    pub safe : IsOverwritten name 0 front pool contents.safe

  -- bytes of the volume were read and printed: all of them, or the first ones
  pub record IsPrinted (pool last : P) (holds : List ℕ → PlainPool → Type 0) (before after : Option (List ℕ)) : Type 0 where
    pub bytes : List ℕ
    pub appends : Appends before after bytes
    pub are : FromRest pool last (holds bytes)

  -- how the printing of a volume ended
  abbrev pub IsPoured : {R : Type 0} → P → P → List ℕ → Option (List ℕ) → Option (List ℕ) → Result (Unit {0}) (Stop R) → Type 0
  IsPoured pool last name before after (Ok done) = IsPrinted pool last (AreAll name) before after
  IsPoured pool last name before after (Err (stop.Pool cause)) = IsPrinted pool last (AreFirst name) before after
  IsPoured pool last name before after (Err stop.Output) = Unit {0}
  IsPoured pool last name before after (Err other) = ⊥

  -- how the writing of an input ended: all of it is committed, or a front
  abbrev pub IsFilledFrom : {R : Type 0} → P → P → List ℕ → Option (List ℕ) → Result (Unit {0}) (Stop R) → Type 0
  IsFilledFrom pool last name input (Ok done) = IfKnown input (λ all. FromRest pool last (HasAll last name all))
  IsFilledFrom pool last name input (Err (stop.Pool cause)) = IfKnown input (λ all. FromRest pool last (HasFront last name all))
  IsFilledFrom pool last name input (Err stop.Input) = IfKnown input (λ all. FromRest pool last (HasFront last name all))
  IsFilledFrom pool last name input (Err other) = ⊥

module _ {S P F R : Type 0} (pools : Ghosts S P F R) (steps : StepGhosts P) where
  -- the pool was opened, a volume of it printed, so far, and the pool left
  pub record IsReadOf (old : S) (files : List (List ℕ)) (name : List ℕ) (before after : Option (List ℕ)) (ended : Result (Unit {0}) (Stop R)) (new : S) : Type 0 where
    pub pool : P
    pub last : P
    pub front : F
    pub opened : IsOpened pools old files pool last front new
    pub poured : IsPoured steps pool last name before after ended

  -- all of it was printed
  abbrev pub IsReadWhole : S → List (List ℕ) → List ℕ → Option (List ℕ) → Option (List ℕ) → S → Type 0
  IsReadWhole old files name before after new = IsReadOf old files name before after (Ok tt) new

  -- the pool was not opened, and nothing is printed; or it was, and refused to read on; or standard output failed
  abbrev pub IsReadCut : S → List (List ℕ) → List ℕ → Option (List ℕ) → Option (List ℕ) → S → Stop R → Type 0
  IsReadCut old files name before after new (stop.Pools cause) = pools.refuses old files cause new × (after ≡ before)
  IsReadCut old files name before after new other = IsReadOf old files name before after (Err other) new

  -- the pool was opened, an input written to a volume of it, as far as it went, and the pool left; meanwhile a disk failed, or none did
  pub record IsFilledOf (old : S) (files : List (List ℕ)) (name : List ℕ) (input : Option (List ℕ)) (ended : Result (Unit {0}) (Stop R)) (lost : Bool) (new : S) : Type 0 where
    pub pool : P
    pub last : P
    pub front : F
    pub opened : IsOpened pools old files pool last front new
    pub lost_is : pools.has_lost last front ≡ lost
    pub filled : IsFilledFrom steps pool last name input ended

  -- all of it is committed, and no disk failed
  abbrev pub IsFilled : S → List (List ℕ) → List ℕ → Option (List ℕ) → S → Type 0
  IsFilled old files name input new = IsFilledOf old files name input (Ok tt) false new

  -- The pool was not opened; or all is committed, but a disk failed; or the pool refused more, or the input failed; or memory ran out behind the last commit.
  abbrev pub IsNotFilled : S → List (List ℕ) → List ℕ → Option (List ℕ) → S → Stop R → Type 0
  IsNotFilled old files name input new (stop.Pools cause) = pools.refuses old files cause new
  IsNotFilled old files name input new stop.DiskLost = IsFilledOf old files name input (Ok tt) true new
  IsNotFilled old files name input new (stop.Pool cause) =
      (ended : Result (Unit {0}) (Stop R)) × ((ended ≡ Err (stop.Pool cause)) ⊎ ((ended ≡ Ok tt) × (cause ≡ NoMemory)))
      × ((lost : Bool) × IsFilledOf old files name input ended lost new)
  IsNotFilled old files name input new stop.Input = (lost : Bool) × IsFilledOf old files name input (Err stop.Input) lost new
  IsNotFilled old files name input new other = ⊥
