-- What reads are refused for.
use Rattle.std.specs.Prelude.{◌≡◌, ◌⊎◌}
use Rattle.block_store.specs.declared.refusal.Refusal.{Refusal}
use Rattle.block_store.specs.declared.refusal.Refusal.TheVariants.{NoMemory, DiskFault, BadPointer, BadDigest}

-- memory, a fault of disks, or a block that is not what its pointer says
abbrev pub IsForRead : Refusal → Type 0
IsForRead refusal =
    (refusal ≡ NoMemory)
    ⊎ ((refusal ≡ DiskFault) ⊎ ((refusal ≡ BadPointer) ⊎ (refusal ≡ BadDigest)))
