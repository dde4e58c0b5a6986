-- Which disk an answer names as failed.
use Rattle.std.specs.Prelude.{◌≡◌, ℕ, Result, Ok, Err}
use Rattle.model_disk.specs.Joint.{Disks}
use Rattle.pool_export.specs.Absence.{AnswersOn, FailsLastOn}
use Rattle.pool_export.specs.declared.unread.Unread.{Unread}
use Rattle.pool_export.specs.declared.unread.Unread.TheVariants.{NoMemory, DiskFault, NoLabel}

-- the disk that a cause names as failed
abbrev pub is_fault : Unread → ℕ → Type 0
is_fault NoMemory which = ⊥
is_fault (DiskFault disk) which = which ≡ disk
is_fault (NoLabel disk) which = ⊥

-- the one that an answer names so, if it is such a cause
abbrev pub IsFaultOf : {T : Type 0} → Result T Unread → ℕ → Type 0
IsFaultOf (Ok it) which = ⊥
IsFaultOf (Err cause) which = is_fault cause which

-- each call on the disk was answered; or the answer is that the last one failed
abbrev pub EndsAtFault : {T : Type 0} → Result T Unread → Disks → Disks → ℕ → Type 0
EndsAtFault (Ok it) old new which = AnswersOn old new which
EndsAtFault (Err NoMemory) old new which = AnswersOn old new which
EndsAtFault (Err (DiskFault disk)) old new which = FailsLastOn old new which
EndsAtFault (Err (NoLabel disk)) old new which = AnswersOn old new which
