-- The disks of a pool that is stopped, and what is opened of them.
use Rattle.std.specs.Prelude.{◌≡◌, ℕ, suc, List, [], ◌∷◌, slice_set, Option, Some, None, unwrap_or, if◌then◌else◌}
use Rattle.model_disk.specs.MemDisk.{start_of, calls_of}
use Rattle.model_disk.specs.Member.{disk_of}
use Rattle.model_disk.specs.Memory.{IsCurrent}
use Rattle.model_disk.specs.declared.memory.MemDisk.{MemDisk}
use Rattle.model_disk.specs.declared.member.Member.{Member}
use Rattle.programs.specs.Stops.{is_left_out}

-- the disk that a child has, if any, in the place of one of these disks
abbrev pub put_one : Option MemDisk → ℕ → List MemDisk → List MemDisk
put_one None number disks = disks
put_one (Some disk) number disks = slice_set disks number disk

-- each of these disks, or in its place that of a child that has one
abbrev pub put_back : List MemDisk → List (Member MemDisk) → List MemDisk
put_back (disk ∷ disks) (member ∷ members) = unwrap_or (disk_of member) disk ∷ put_back disks members
put_back disks members = disks

-- those of them, by their numbers from this one on, that are not left out
abbrev pub present_from : ℕ → List ℕ → List MemDisk → List MemDisk
present_from number absent [] = []
present_from number absent (disk ∷ disks) =
    if is_left_out absent number then present_from (suc number) absent disks else disk ∷ present_from (suc number) absent disks

-- the disks that are not left out
abbrev pub present : List ℕ → List MemDisk → List MemDisk
present absent disks = present_from 0 absent disks

-- a disk that was not called yet, and holds the bytes of another
pub record IsCopyOf (disk copy : MemDisk) : Type 0 where
  pub bytes : IsCurrent (start_of disk) (calls_of disk) (start_of copy)
  pub fresh : calls_of copy ≡ []

-- one of each
abbrev pub AreCopies : List MemDisk → List MemDisk → Type 0
AreCopies [] [] = Unit {0}
AreCopies (disk ∷ disks) (copy ∷ copies) = IsCopyOf disk copy × AreCopies disks copies
AreCopies _ _ = ⊥
