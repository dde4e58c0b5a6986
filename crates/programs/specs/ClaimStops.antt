-- A claim that is begun and not done: the disks that it is made on, and what is kept of them.
use Rattle.std.specs.Prelude.{◌≡◌, ℕ, suc, nat_lt, not, Bool, List, [], ◌∷◌, map, filter, Option, Some, None, if◌then◌else◌}
use Rattle.model_disk.specs.Call.{Call, is_failed}
use Rattle.model_disk.specs.FaultDisk as faulty
use Rattle.model_disk.specs.Joint.{Disks, calls_on, log_of}
use Rattle.model_disk.specs.MemDisk.{start_of, calls_of}
use Rattle.model_disk.specs.Member as child
use Rattle.model_disk.specs.Memory.{IsCurrent}
use Rattle.model_disk.specs.contracts.memory.MemDiskDisk.TheImpl.{ghosts}
use Rattle.model_disk.specs.declared.disk.Disk as disk
use Rattle.model_disk.specs.declared.fault.Fault.{Fault}
use Rattle.model_disk.specs.declared.fault.Fault.TheVariants as fails_at
use Rattle.model_disk.specs.declared.fault.FaultDisk.{FaultDisk}
use Rattle.model_disk.specs.declared.member.Member.{Member}
use Rattle.model_disk.specs.declared.memory.MemDisk.{MemDisk}
use Rattle.block_store.specs.declared.shape.VdevShape.{VdevShape}
use Rattle.pool_create.specs.Opens.{AreInOrder}
use Rattle.pool_slots.specs.Configs.{OpenConfigures}
use Rattle.pool_slots.specs.Failures.{HasFailedOn}
use Rattle.pool_slots.specs.Labels.{IsClaimWrite}
use Rattle.pool_slots.specs.Opens.{OpenKeeps, OpenMarks}
use Rattle.pool_slots.specs.Present.{GoOut}
use Rattle.pool_slots.specs.Slots.{InUse, MakesOn}
use Rattle.pool_slots.specs.Surveys.{Surveyed, IsSurveyed}

-- ---- a claim that fails

-- The disks were read, and those of which a read failed are out. Then a claim of what was surveyed was begun, and ended as a call of it failed.
pub record FailsInClaim (out : List Bool) (rewind : ℕ) (old new : Disks) : Type 0 where
  pub later : List Bool
  pub read : Disks
  pub absent : GoOut out later old read
  pub s : Surveyed
  pub surveyed : IsSurveyed later rewind old read s
  pub makes : MakesOn (InUse later) (IsClaimWrite read.starts later s.claimed) read new
  pub leads : OpenKeeps later rewind old new
  pub marks : OpenMarks later rewind old new
  pub configures : OpenConfigures later rewind old new
  pub which : ℕ
  pub failed : HasFailedOn read new which

-- A pool was found on these disks, and its claim failed; that left its children's disks so.
pub record EndsInClaim {D : Type 0} (g : disk.Ghosts D) (disks : List D) (rewind : ℕ) (members : List (Member D)) : Type 0 where
  pub old : Disks
  pub shapes : List VdevShape
  pub out : List Bool
  pub ordered : AreInOrder g disks rewind old shapes out
  pub new : Disks
  pub fails : FailsInClaim out rewind old new
  pub starts : map (child.start_of g) members ≡ new.starts
  pub calls : (which : ℕ) → log_of (map (child.calls_of g) members) which ≡ calls_on which new.calls

-- ---- disks that are told to fail

-- a disk in memory that was told which of its calls fail
abbrev pub ToldDisk : Type 0
ToldDisk = FaultDisk MemDisk ghosts

-- what such a disk shows
abbrev pub told_ghosts : disk.Ghosts ToldDisk
told_ghosts = record { start = faulty.start_of; calls = faulty.calls_of }

-- The write that fails of the disk at this place among those in use. A claim writes one label of each disk, then two slots of each, and then the
-- others: so many disks get to those two slots.
abbrev pub fault_of : ℕ → ℕ → Fault
fault_of reached place = if nat_lt place reached then fails_at.Write 3 else fails_at.Write 1

-- a copy of the disk, which wasn't called yet, and of which that write fails
pub record IsTold (reached place : ℕ) (disk : MemDisk) (told : ToldDisk) : Type 0 where
  pub bytes : IsCurrent (start_of disk) (calls_of disk) (faulty.start_of told)
  pub fresh : faulty.calls_of told ≡ []
  pub fails : told.fault ≡ fault_of reached place

-- one of each, from this place on
abbrev pub AreTold : ℕ → ℕ → List MemDisk → List ToldDisk → Type 0
AreTold reached place [] [] = Unit {0}
AreTold reached place (disk ∷ disks) (told ∷ others) = IsTold reached place disk told × AreTold reached (suc place) disks others
AreTold _ _ _ _ = ⊥

-- ---- what is kept of them

-- the calls that were done
abbrev pub done : List Call → List Call
done calls = filter (λ call. not (is_failed call)) calls

-- the disk to which all calls that were done were made, and no other
pub record HasDone (told : ToldDisk) (disk : MemDisk) : Type 0 where
  pub start : start_of disk ≡ faulty.start_of told
  pub calls : calls_of disk ≡ done (faulty.calls_of told)

-- of a child, where it has one
abbrev pub IsKept : Option ToldDisk → Option MemDisk → Type 0
IsKept None None = Unit {0}
IsKept (Some told) (Some disk) = HasDone told disk
IsKept _ _ = ⊥

-- of each
abbrev pub AreKept : List (Member ToldDisk) → List (Member MemDisk) → Type 0
AreKept [] [] = Unit {0}
AreKept (told ∷ others) (member ∷ members) = IsKept (child.disk_of told) (child.disk_of member) × AreKept others members
AreKept _ _ = ⊥
