-- Which disk an answer names.
use Rattle.std.specs.Prelude.{◌≡◌, ◌↔◌, ℕ, Result, Ok, Err}
use Rattle.model_disk.specs.Joint.{Disks}
use Rattle.pool_slots.specs.Failures.{HasFailedOn}
use Rattle.pool_format.specs.declared.refusal.Refusal.{Refusal}
use Rattle.pool_format.specs.declared.refusal.Refusal.TheVariants.{NoMemory, DiskFault}

-- the disk that a refusal names
abbrev pub is_fault : Refusal → ℕ → Type 0
is_fault NoMemory which = ⊥
is_fault (DiskFault disk) which = which ≡ disk

-- the one that an answer names, if it is a refusal that names one
abbrev pub IsFaultOf : {T : Type 0} → Result T Refusal → ℕ → Type 0
IsFaultOf (Ok it) which = ⊥
IsFaultOf (Err refusal) which = is_fault refusal which

-- Since the old moment calls failed on these disks, and on no others.
abbrev pub FailedOn : (ℕ → Type 0) → Disks → Disks → Type 0
FailedOn faulty old new = (disk : ℕ) → HasFailedOn old new disk ↔ faulty disk
