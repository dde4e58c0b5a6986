-- The device calls of a step, as the record of calls tells them.
use Rattle.std.specs.Prelude.{ℕ, ◌≡◌, List, [], ◌∷◌, ◌++◌, length, nat_le, Bool, true, false, if◌then◌else◌}
use Rattle.std.specs.List.{AllByRecursion}
use Rattle.model_disk.specs.Call.{Call, FailedRead, Wrote, FailedWrite, Flushed, FailedFlush}
use Rattle.model_disk.specs.Joint.{Disks, JointCall, on}
use Rattle.pool_model.specs.View.{DueCall}
use Rattle.pool_model.specs.Machine.{is_flush}

-- a write or a flush, as a disk sees it
pub record DiskCall : Type 0 where
  pub disk : ℕ
  pub flushes : Bool

-- a call of a plan, as its disk sees it: its phase and its number only the plan tells
abbrev pub disk_call : DueCall → DiskCall
disk_call call = record { disk = call.disk; flushes = is_flush call }

-- a call that was made, where it is a write or a flush; a read is no call of a plan
abbrev pub plan_call : ℕ → Call → List DiskCall
plan_call disk (Wrote at bytes) = record { disk = disk; flushes = false } ∷ []
plan_call disk (FailedWrite at bytes) = record { disk = disk; flushes = false } ∷ []
plan_call disk Flushed = record { disk = disk; flushes = true } ∷ []
plan_call disk FailedFlush = record { disk = disk; flushes = true } ∷ []
plan_call disk call = []

-- one that failed
abbrev pub fault_call : ℕ → Call → List DiskCall
fault_call disk (FailedWrite at bytes) = record { disk = disk; flushes = false } ∷ []
fault_call disk FailedFlush = record { disk = disk; flushes = true } ∷ []
fault_call disk call = []

-- a read that failed
abbrev pub unread_call : ℕ → Call → List ℕ
unread_call disk (FailedRead at n) = disk ∷ []
unread_call disk call = []

-- any call
abbrev pub which_call : ℕ → Call → List ℕ
which_call disk call = disk ∷ []

-- what the calls since there were n tell, in order
abbrev pub told_since : {A : Type 0} → (ℕ → Call → List A) → ℕ → List JointCall → List A
told_since tells n [] = []
told_since tells n (made ∷ earlier) = told_since tells n earlier ++ (if nat_le n (length earlier) then tells made.which made.call else [])

-- the writes and flushes that were made, those of them that failed, and the disks that failed a read
abbrev pub made_between : Disks → Disks → List DiskCall
made_between old new = told_since plan_call (length old.calls) new.calls

-- of the writes and flushes that were made since, those that failed, in order
abbrev pub faults_between : Disks → Disks → List DiskCall
faults_between old new = told_since fault_call (length old.calls) new.calls

-- the disks of the reads that failed since, in order
abbrev pub unread_between : Disks → Disks → List ℕ
unread_between old new = told_since unread_call (length old.calls) new.calls

-- the disks that were called, read or not
abbrev pub called_between : Disks → Disks → List ℕ
called_between old new = told_since which_call (length old.calls) new.calls

-- the record of calls only grew
pub record GrewTo (old new : Disks) : Type 0 where
  pub starts : new.starts ≡ old.starts
  pub newer : List JointCall
  pub calls : new.calls ≡ newer ++ old.calls

-- ---- flushes

-- the call is a write, answered or failed
abbrev pub IsWrite : Call → Type 0
IsWrite (Wrote at bytes) = Unit {0}
IsWrite (FailedWrite at bytes) = Unit {0}
IsWrite call = ⊥

-- a flush of the disk succeeded, and nothing was written to it since
pub record IsFlushed (disks : Disks) (disk : ℕ) : Type 0 where
  pub newer : List JointCall
  pub older : List JointCall
  pub calls : disks.calls ≡ newer ++ on disk Flushed ∷ older
  pub none : AllByRecursion (λ made. made.which ≡ disk → ¬ IsWrite made.call) newer
