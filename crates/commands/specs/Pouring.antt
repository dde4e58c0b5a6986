-- What is read of a device to its end, and what an input makes of it.
use Rattle.std.specs.Prelude.{◌≡◌, ◌⊎◌, ℕ, ◌<◌, ◌^◌, List, [], ◌++◌, length, take, Option, Some, None}
use Rattle.std.specs.Io.KnownBytes.{Appends, Consumes, IsAtEnd}
use Rattle.pool_model.specs.declared.volume.PlainVolume.{PlainVolume}
use Rattle.pool_model.specs.Pools.{volume_at}
use Rattle.pool_steps.specs.declared.steps.PoolSteps.{Ghosts as StepGhosts}
use Rattle.volume_device.specs.Contents.{Contents, FitsIn, IsOverwritten}
use Rattle.volume_device.specs.Devices.{Leads, name_of}
use Rattle.volume_device.specs.declared.device.Device.{Device}
use Rattle.commands.specs.declared.stop.Stop.{Stop}
use Rattle.commands.specs.declared.stop.Stop.TheVariants as stop

-- what of the bytes is known, this is so
abbrev pub IfKnown : Option (List ℕ) → (List ℕ → Type 0) → Type 0
IfKnown None holds = Unit {0}
IfKnown (Some all) holds = holds all

-- these are the first n bytes of the volume, if it is there, and nothing has changed
abbrev pub AreFront : List ℕ → ℕ → List ℕ → Contents → Contents → Type 0
AreFront name n bytes c d = (d ≡ c) × ((volume : PlainVolume) → volume_at name c.now ≡ Some volume → bytes ≡ take n volume.bytes)

-- the next piece of an input was read: 1 MiB, or all that was left
pub record IsPiece (before after : Option (List ℕ)) (piece : List ℕ) : Type 0 where
  pub consumed : Consumes before after piece
  pub last : length piece < 2 ^ 20 → IsAtEnd after

-- all of these bytes are written, from the volume's first byte on, and committed
pub record IsWhollyIn (name all : List ℕ) (c d : Contents) : Type 0 where
  pub now : IsOverwritten name 0 all c.now d.now
  pub safe : d.safe ≡ d.now

-- a front of them is committed, where all was committed before
pub record IsFrontIn (name all : List ℕ) (c d : Contents) : Type 0 where
  pub front : List ℕ
  pub back : List ℕ
  pub parts : all ≡ front ++ back
  pub safe : c.safe ≡ c.now → IsOverwritten name 0 front c.now d.safe

-- all of them are written, and a front is committed
pub record IsIn (name all : List ℕ) (c d : Contents) : Type 0 where
  pub fits : (all ≡ []) ⊎ FitsIn c.now name 0 (length all)
  pub now : IsOverwritten name 0 all c.now d.now
  pub front : IsFrontIn name all c d

module _ {P : Type 0} (steps : StepGhosts P) where
  -- the first n bytes were read and printed
  pub record IsPouredOut (old new : Device P) (n : ℕ) (before after : Option (List ℕ)) : Type 0 where
    pub bytes : List ℕ
    pub appends : Appends before after bytes
    pub reads : Leads steps old new (AreFront (name_of old) n bytes)

  -- fewer were; or standard output failed
  abbrev pub IsPouredOutInPart : {R : Type 0} → Device P → Device P → Option (List ℕ) → Option (List ℕ) → Stop R → Type 0
  IsPouredOutInPart old new before after (stop.Pool cause) = (n : ℕ) × IsPouredOut old new n before after
  IsPouredOutInPart old new before after stop.Output = Unit {0}
  IsPouredOutInPart old new before after other = ⊥

  -- the input was written
  abbrev pub IsTakenIn : Device P → Device P → Option (List ℕ) → Type 0
  IsTakenIn old new input = IfKnown input (λ all. Leads steps old new (IsIn (name_of old) all))

  -- the input was written and committed
  abbrev pub IsPouredIn : Device P → Device P → Option (List ℕ) → Type 0
  IsPouredIn old new input = IfKnown input (λ all. Leads steps old new (IsWhollyIn (name_of old) all))

  -- a front of it was; the pool refused more, or the input failed
  abbrev pub IsPouredInPart : {R : Type 0} → Device P → Device P → Option (List ℕ) → Stop R → Type 0
  IsPouredInPart old new input (stop.Pool cause) = IfKnown input (λ all. Leads steps old new (IsFrontIn (name_of old) all))
  IsPouredInPart old new input stop.Input = IfKnown input (λ all. Leads steps old new (IsFrontIn (name_of old) all))
  IsPouredInPart old new input other = ⊥
