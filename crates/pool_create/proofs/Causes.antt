-- Why a stage is refused.
use Rattle.std.proofs.Common.{◌≡◌, ◌⊎◌, inl, inr, ℕ, refl}
use Rattle.model_disk.specs.Joint.{Disks}
use Rattle.pool_format.specs.Blank.{HasCause}
use Rattle.pool_format.specs.Faults.{FailedOn, is_fault}
use Rattle.pool_format.specs.declared.refusal.Refusal.{Refusal as FormatRefusal}
use Rattle.pool_format.specs.declared.refusal.Refusal.TheVariants as format
use Rattle.pool_open.specs.Causes.{of_format}
use Rattle.pool_open.specs.declared.refusal.Refusal.TheVariants.{NoMemory, DiskFault, BadConfig}
use Rattle.pool_slots.specs.Failures.{HasFailedOn}

-- disks can't be read
pub of_blank : (old new : Disks) (cause : FormatRefusal) (P : Type 0) → HasCause old new cause
    → (of_format cause ≡ NoMemory) ⊎ (((of_format cause ≡ BadConfig) × P) ⊎ ((of_format cause ≡ DiskFault) × ((which : ℕ) × HasFailedOn old new which)))
of_blank old new format.NoMemory P why = inl refl
of_blank old new (format.DiskFault disk) P why = inr (inr (refl, (disk, why)))

-- or labeled
pub of_labels : (old new : Disks) (cause : FormatRefusal) → FailedOn (is_fault cause) old new
    → (of_format cause ≡ NoMemory) ⊎ ((of_format cause ≡ DiskFault) × ((which : ℕ) × HasFailedOn old new which))
of_labels old new format.NoMemory why = inl refl
of_labels old new (format.DiskFault disk) why = inr (refl, (disk, (why disk).1 refl))
