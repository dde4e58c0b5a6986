-- Reads of disks, and which of them failed.
use Rattle.std.specs.Prelude.{◌≡◌, ℕ, List, ◌++◌, All, Result, Ok, Err}
use Rattle.model_disk.specs.Call.{Call, Read, FailedRead, Wrote, FailedWrite, Flushed, FailedFlush}
use Rattle.model_disk.specs.Joint.{JointCall, Disks}
use Rattle.pool_slots.specs.declared.refusal.Refusal.{Refusal}
use Rattle.pool_slots.specs.declared.refusal.Refusal.TheVariants.{NoMemory, DiskFault, NoUberblock, NoLabel, UsedUp}

-- the call is a read; where it failed, P
abbrev pub IsReadCall : Type 0 → Call → Type 0
IsReadCall P (Read at bytes) = Unit {0}
IsReadCall P (FailedRead at n) = P
IsReadCall P (Wrote at bytes) = ⊥
IsReadCall P (FailedWrite at bytes) = ⊥
IsReadCall P Flushed = ⊥
IsReadCall P FailedFlush = ⊥

-- it reads a used disk, and fails only on a faulty one
abbrev pub IsReadOf : (ℕ → Type 0) → (ℕ → Type 0) → JointCall → Type 0
IsReadOf used faulty made = used made.which × IsReadCall (faulty made.which) made.call

-- Since the old moment no calls were made but reads of used disks, of which only those of faulty ones failed.
pub record OnlyReads (used faulty : ℕ → Type 0) (old new : Disks) : Type 0 where
  pub starts : new.starts ≡ old.starts
  pub newer : List JointCall
  pub calls : new.calls ≡ newer ++ old.calls
  pub reads : All (IsReadOf used faulty) newer

-- no disk at all, where a clause asks on which disks reads may have failed
abbrev pub nowhere : ℕ → Type 0
nowhere which = ⊥

-- the disk that a refusal names
abbrev pub is_fault : Refusal → ℕ → Type 0
is_fault NoMemory which = ⊥
is_fault (DiskFault disk) which = which ≡ disk
is_fault NoUberblock which = ⊥
is_fault NoLabel which = ⊥
is_fault UsedUp which = ⊥

-- the one that an answer names, if it is such a refusal
abbrev pub IsFaultOf : {T : Type 0} → Result T Refusal → ℕ → Type 0
IsFaultOf (Ok it) which = ⊥
IsFaultOf (Err refusal) which = is_fault refusal which
