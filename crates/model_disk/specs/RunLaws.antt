-- What follows for runs of calls, from the definitions alone.
use Rattle.std.specs.Prelude.{◌≡◌, ◌⊎◌, ◌<◌, ℕ, ◌+◌, Bool, true, false, IsTrue, List, ◌∷◌, ◌++◌, length, slice_get, Some, All, Contains}
use Rattle.std.specs.List.{list_any}
use Rattle.model_disk.specs.Call.{Call, FailedWrite, Flushed, is_failed}
use Rattle.model_disk.specs.Contents.{touches, byte_at, is_dirty}
use Rattle.model_disk.specs.Joint.{JointCall, Disks, on, bytes_of, calls_on, content, Stands, MayLeaveAll, LeftSinceAll}
use Rattle.model_disk.specs.Runs.{HasFailed, WritesOnly, Makes, IsOff, IsWholeIn, HasWrite, IsMoment, IsSettled, Holds, HeldSince, HeldOn, IsUntorn}

-- since the old moment these calls were made
pub record IsRun (old new : Disks) (newer : List JointCall) : Type 0 where
  pub starts : new.starts ≡ old.starts
  pub calls : new.calls ≡ newer ++ old.calls

-- none of these calls is a write of byte i of the disk
abbrev pub IsUntouched : List JointCall → ℕ → ℕ → Type 0
IsUntouched newer which i = list_any (λ call. touches call i) (calls_on which newer) ≡ false

-- a run leaves each byte that it doesn't write
abbrev pub UntouchedBytesStay : Type 0
UntouchedBytesStay =
    (old new : Disks) (newer : List JointCall) → IsRun old new newer → (which i : ℕ) → IsUntouched newer which i
    → content new which i ≡ content old which i

-- where the disk was settled as it began, a crash at any moment of it does so too
abbrev pub SettledBytesStay : Type 0
SettledBytesStay =
    (old new : Disks) (newer : List JointCall) → IsRun old new newer
    → (earlier : List JointCall) (images : List (List ℕ)) → IsMoment (length old.calls) new.calls earlier → MayLeaveAll old.starts earlier images
    → (which i value : ℕ) → which < length old.starts → IsSettled (calls_on which old.calls) → IsUntouched newer which i
    → content old which i ≡ Some value → slice_get (bytes_of images which) i ≡ Some value

-- a call that fails is seen in each run that has it
pub record FailuresAreSeen : Type 0 where
  pub now : (old new : Disks) (which : ℕ) (call : Call) → new.calls ≡ on which call ∷ old.calls → is_failed call ≡ true → HasFailed old new
  pub before : (old mid new : Disks) (newer : List JointCall) → IsRun mid new newer → HasFailed old mid → HasFailed old new
  pub since : (old mid new : Disks) (newer : List JointCall) → IsRun old mid newer → HasFailed mid new → HasFailed old new

-- a disk is settled after a flush that succeeded, until it is written again
abbrev pub FlushesSettle : Type 0
FlushesSettle = (newer calls : List Call) → All (WritesOnly (λ at bytes. ⊥)) newer → IsSettled (newer ++ Flushed ∷ calls)

-- what stands is held, by a write that was answered as failed too, and all that is held stays so until a flush succeeds
pub record IsHeld : Type 0 where
  pub now : (start : List ℕ) (calls : List Call) (at : ℕ) (bytes : List ℕ) → Holds start calls at bytes → HeldSince start calls at bytes
  pub by_a_failed_write : (start : List ℕ) (calls : List Call) (at : ℕ) (bytes : List ℕ) → HeldSince start (FailedWrite at bytes ∷ calls) at bytes
  pub until_a_flush : (start : List ℕ) (newer calls : List Call) (at : ℕ) (bytes : List ℕ) → ¬ Contains newer Flushed
      → HeldSince start calls at bytes → HeldSince start (newer ++ calls) at bytes

-- on a settled disk nothing else was held since the last flush than what stands
abbrev pub SettledBytesAreHeld : Type 0
SettledBytesAreHeld =
    (start : List ℕ) (calls : List Call) (at : ℕ) (bytes : List ℕ) → IsSettled calls → HeldSince start calls at bytes → Holds start calls at bytes

-- At a place that a run writes whole or not at all, on a disk that was settled as it began: what was held there since the last flush, at
-- any moment of the run, stood there as it began, or is one of its writes.
abbrev pub HeldIsOldOrWritten : Type 0
HeldIsOldOrWritten =
    (old new : Disks) (newer : List JointCall) → IsRun old new newer
    → (earlier : List JointCall) → IsMoment (length old.calls) new.calls earlier
    → (which at : ℕ) (bytes : List ℕ) → IsSettled (calls_on which old.calls) → 0 < length bytes
    → IsWholeIn (HasWrite (calls_on which newer)) at (length bytes)
    → HeldOn old.starts earlier which at bytes → Stands old which at bytes ⊎ HasWrite (calls_on which newer) at bytes

-- byte i is known, and wasn't written since the last flush
pub record IsCleanAt (start : List ℕ) (calls : List Call) (i : ℕ) : Type 0 where
  pub value : ℕ
  pub known : byte_at start calls i ≡ Some value
  pub clean : is_dirty calls i ≡ false

-- what is known and wasn't written since the last flush isn't torn
abbrev pub CleanIsUntorn : Type 0
CleanIsUntorn =
    (starts : List (List ℕ)) (calls : List JointCall) (images : List (List ℕ)) → MayLeaveAll starts calls images
    → (which at : ℕ) (bytes : List ℕ) → which < length starts
    → ((i : ℕ) → i < length bytes → IsCleanAt (bytes_of starts which) (calls_on which calls) (at + i)) → IsUntorn starts calls images which at bytes

-- a moment of a run comes after the first of its calls, or after none
pub record IsBegun (newer calls earlier : List JointCall) : Type 0 where
  pub later : List JointCall
  pub made : List JointCall
  pub newer_is : newer ≡ later ++ made
  pub earlier_is : earlier ≡ made ++ calls

-- each moment since a run began comes after the first of the run's calls, or after none
abbrev pub MomentsAreOfTheRun : Type 0
MomentsAreOfTheRun = (newer calls earlier : List JointCall) → IsMoment (length calls) (newer ++ calls) earlier → IsBegun newer calls earlier

-- a crash since is one at a moment since
pub record IsLeftAtMoment (starts : List (List ℕ)) (calls : List JointCall) (n : ℕ) (images : List (List ℕ)) : Type 0 where
  pub earlier : List JointCall
  pub moment : IsMoment n calls earlier
  pub left : MayLeaveAll starts earlier images

-- what a crash since there were n calls may leave is left by a crash at one of the moments since
abbrev pub CrashesAreAtMoments : Type 0
CrashesAreAtMoments =
    (starts : List (List ℕ)) (calls : List JointCall) (n : ℕ) (images : List (List ℕ)) → LeftSinceAll starts calls n images
    → IsLeftAtMoment starts calls n images

-- the writes that pass a test
abbrev pub passing : (ℕ → ℕ → List ℕ → Bool) → ℕ → ℕ → List ℕ → Type 0
passing test which at bytes = IsTrue (test which at bytes)

-- What `Makes` says, for any test on writes: runs after one another are a run; bytes off the writes that pass stay, in a crash too; and what
-- was held at a place stood there or passes.
pub record MakesIsKnown : Type 0 where
  pub none : (test : ℕ → ℕ → List ℕ → Bool) (disks : Disks) → Makes (passing test) disks disks
  pub joined : (test : ℕ → ℕ → List ℕ → Bool) (old mid new : Disks) → Makes (passing test) old mid → Makes (passing test) mid new → Makes (passing test) old new
  pub now : (test : ℕ → ℕ → List ℕ → Bool) (old new : Disks) (which i : ℕ) → Makes (passing test) old new → IsOff (passing test which) i
      → content new which i ≡ content old which i
  pub after_a_crash : (test : ℕ → ℕ → List ℕ → Bool) (old new : Disks) (earlier : List JointCall) (images : List (List ℕ)) → Makes (passing test) old new
      → IsMoment (length old.calls) new.calls earlier → MayLeaveAll old.starts earlier images
      → (which i value : ℕ) → which < length old.starts → IsSettled (calls_on which old.calls) → IsOff (passing test which) i
      → content old which i ≡ Some value → slice_get (bytes_of images which) i ≡ Some value
  pub held : (test : ℕ → ℕ → List ℕ → Bool) (old new : Disks) (earlier : List JointCall) → Makes (passing test) old new
      → IsMoment (length old.calls) new.calls earlier
      → (which at : ℕ) (bytes : List ℕ) → IsSettled (calls_on which old.calls) → 0 < length bytes → IsWholeIn (passing test which) at (length bytes)
      → HeldOn old.starts earlier which at bytes → Stands old which at bytes ⊎ passing test which at bytes
