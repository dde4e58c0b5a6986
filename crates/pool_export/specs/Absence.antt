-- Exports that go on without a disk of which a call failed.
use Rattle.std.specs.Prelude.{◌≡◌, ℕ, Bool, true, false, List, ◌∷◌, ◌++◌, length, All, Result, Ok, Err}
use Rattle.model_disk.specs.Call.{Call, is_failed}
use Rattle.model_disk.specs.Joint.{Disks, calls_on}
use Rattle.pool_slots.specs.Failures.{HasFailedOn}
use Rattle.pool_slots.specs.Present.{HaveFailed, is_out}
use Rattle.pool_slots.specs.Slots.{InUse, StayOut}

-- none of these calls failed
abbrev pub AreAnswered : List Call → Type 0
AreAnswered calls = All (λ call. is_failed call ≡ false) calls

-- since the old moment no call on the disk failed
pub record AnswersOn (old new : Disks) (which : ℕ) : Type 0 where
  pub newer : List Call
  pub calls : calls_on which new.calls ≡ newer ++ calls_on which old.calls
  pub answered : AreAnswered newer

-- since the old moment one call on the disk failed, and it was the last
pub record FailsLastOn (old new : Disks) (which : ℕ) : Type 0 where
  pub call : Call
  pub earlier : List Call
  pub calls : calls_on which new.calls ≡ call ∷ (earlier ++ calls_on which old.calls)
  pub failed : is_failed call ≡ true
  pub answered : AreAnswered earlier

-- Since the old moment those disks went out of which a call failed, and no others; what was out stays out. No call was made on a disk behind
-- one that failed.
pub record GoOutFailing (out later : List Bool) (old new : Disks) : Type 0 where
  pub count : length later ≡ length out
  pub stay : StayOut out later
  pub failed : HaveFailed out later old new
  pub last : (which : ℕ) → InUse out which → is_out later which → FailsLastOn old new which
  pub answer : (which : ℕ) → InUse later which → AnswersOn old new which

-- each call on the disk was answered; or the answer is that the last one failed
abbrev pub EndsAs : {T E : Type 0} → Result T E → Disks → Disks → ℕ → Type 0
EndsAs (Ok it) old new which = AnswersOn old new which
EndsAs (Err cause) old new which = FailsLastOn old new which × HasFailedOn old new which

-- a disk is in use
abbrev pub SomeInUse : List Bool → Type 0
SomeInUse out = (which : ℕ) × InUse out which
