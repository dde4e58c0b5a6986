-- Disks that show one uberblock and no other.
use Rattle.std.specs.Prelude.{ℕ, ◌≡◌, ◌⊎◌, List, Option}
use Rattle.model_disk.specs.Joint.{Disks}
use Rattle.pool_format.specs.Blank.{IsToldOf, is_there, isnt}
use Rattle.pool_open.specs.declared.refusal.Refusal.{Refusal}
use Rattle.pool_open.specs.declared.refusal.Refusal.TheVariants.{NoMemory, DiskFault, NoUberblock}
use Rattle.pool_slots.specs.Failures.{HasFailedOn}
use Rattle.pool_slots.specs.Opens.{IsShownOn}
use Rattle.pool_slots.specs.Slots.{IsSlot, Shows, slot_at}
use Rattle.uberblock_ring.specs.Ranking.{Has}
use Rattle.uberblock_ring.specs.Uberblock.{Fits}
use Rattle.uberblock_ring.specs.declared.refusal.Refusal.{Refusal as RingRefusal}
use Rattle.uberblock_ring.specs.declared.refusal.Refusal.TheVariants as ring
use Rattle.uberblock_ring.specs.declared.uberblock.Uberblock.{Uberblock}

-- each slot has the uberblock or none, and one has it
pub record HaveAlone (slots : List (Option Uberblock)) (u : Uberblock) : Type 0 where
  pub only : (i : ℕ) (v : Uberblock) → Has slots i v → v ≡ u
  pub number : ℕ
  pub there : Has slots number u

-- each slot of a disk of this size shows the uberblock or none, and one shows it
pub record ShowsAlone (u : Uberblock) (size : ℕ) (held : ℕ → Option ℕ) : Type 0 where
  pub only : (label slot : ℕ) (v : Uberblock) → IsSlot label slot → Shows held (slot_at size label slot) slot v → v ≡ u
  pub on : IsShownOn size held u

-- the uberblock has a spelling, and the disk of this number shows it alone, if its bytes were known and the answers since were true
abbrev pub IsReadAlone : Uberblock → Disks → Disks → ℕ → Type 0
IsReadAlone u old new which = Fits u × IsToldOf (ShowsAlone u) old new which

-- each disk does
abbrev pub AreReadAlone : Uberblock → Disks → Disks → Type 0
AreReadAlone u old new = (which : ℕ) → is_there old which → IsReadAlone u old new which

-- one of the disks doesn't
abbrev pub IsCrowded : Uberblock → Disks → Disks → Type 0
IsCrowded u old new = (which : ℕ) × is_there old which × IsToldOf (isnt (ShowsAlone u)) old new which

-- why that isn't read of a disk: want of memory, a read of it that failed, or it isn't so
abbrev pub IsRefusedOn : Uberblock → Disks → Disks → ℕ → Refusal → Type 0
IsRefusedOn u old new which refusal =
    (refusal ≡ NoMemory)
    ⊎ (((refusal ≡ DiskFault) × HasFailedOn old new which) ⊎ ((refusal ≡ NoUberblock) × IsToldOf (isnt (ShowsAlone u)) old new which))

-- of one of the disks
abbrev pub IsRefusedAlone : Uberblock → Disks → Disks → Refusal → Type 0
IsRefusedAlone u old new refusal = (which : ℕ) × is_there old which × IsRefusedOn u old new which refusal

-- the same as one of ours
abbrev pub of_ring : RingRefusal → Refusal
of_ring ring.NoMemory = NoMemory
of_ring ring.DiskFault = DiskFault
of_ring ring.NoUberblock = NoUberblock
