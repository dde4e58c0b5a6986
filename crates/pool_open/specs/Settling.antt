-- Disks that an open goes on without, as a call of its claim failed on them.
use Rattle.std.specs.Prelude.{ℕ, ◌≡◌, ◌⊎◌, Bool, List, length}
use Rattle.model_disk.specs.Joint.{Disks}
use Rattle.model_disk.specs.Runs.{no_write}
use Rattle.pool_slots.specs.Failures.{HasFailedOn}
use Rattle.pool_slots.specs.Present.{HaveFailed}
use Rattle.pool_slots.specs.Slots.{AreSettled, InUse, MakesOn, StayOut}

-- Disks in use were flushed, and those of which that failed are out now, and no others went out.
pub record GoOutFlushing (out later : List Bool) (old new : Disks) : Type 0 where
  pub count : length later ≡ length out
  pub stay : StayOut out later
  pub flushes : MakesOn (InUse out) no_write old new
  pub failed : HaveFailed out later old new

-- in use, and not that disk
abbrev pub IsOther : List Bool → ℕ → ℕ → Type 0
IsOther out which disk = InUse out disk × ¬ (disk ≡ which)

-- That disk is out, and so is each other on which a call failed since. Nothing was written, no disk that was out was called, nor that one, and on those
-- still in use nothing is unflushed.
pub record AreSettledWithout (which : ℕ) (out later : List Bool) (old new : Disks) : Type 0 where
  pub count : length later ≡ length out
  pub stay : StayOut out later
  pub gone : ¬ InUse later which
  pub flushes : MakesOn (IsOther out which) no_write old new
  pub failed : (disk : ℕ) → InUse out disk → ¬ InUse later disk → (disk ≡ which) ⊎ HasFailedOn old new disk
  pub settled : AreSettled later new.calls
