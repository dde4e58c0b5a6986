-- New disks in memory.
use Rattle.std.proofs.Common.{◌≡◌, ◌<◌, ℕ, zero, suc, List, [], ◌∷◌, length, map, All, refl, arith}
use Rattle.std.proofs.lemmas.List.Elements.{All-head, All-tail}
use Rattle.model_disk.specs.Joint.{bytes_of, log_of}
use Rattle.model_disk.specs.MemDisk.{start_of, calls_of}
use Rattle.model_disk.specs.Memory.{AreZeros}
use Rattle.model_disk.specs.declared.memory.MemDisk.{MemDisk}

-- it has this many bytes, all zero, and was not called
pub record IsNew (size : ℕ) (disk : MemDisk) : Type 0 where
  pub bytes : length (start_of disk) ≡ size
  pub zeros : AreZeros (start_of disk)
  pub calls : calls_of disk ≡ []

pub new_sizes : (size : ℕ) (disks : List MemDisk) → All (IsNew size) disks → (which : ℕ) → which < length disks
    → length (bytes_of (map start_of disks) which) ≡ size
new_sizes size [] are which below = absurd (omega arith)
new_sizes size (disk ∷ disks) are zero below = (All-head (IsNew size) disk disks are).bytes
new_sizes size (disk ∷ disks) are (suc which) below = new_sizes size disks (All-tail (IsNew size) disk disks are) which (omega arith)

pub new_zeros : (size : ℕ) (disks : List MemDisk) → All (IsNew size) disks → (which : ℕ) → AreZeros (bytes_of (map start_of disks) which)
new_zeros size [] are which = λ i below. absurd (omega arith)
new_zeros size (disk ∷ disks) are zero = (All-head (IsNew size) disk disks are).zeros
new_zeros size (disk ∷ disks) are (suc which) = new_zeros size disks (All-tail (IsNew size) disk disks are) which

pub new_calls : (size : ℕ) (disks : List MemDisk) → All (IsNew size) disks → (which : ℕ) → log_of (map calls_of disks) which ≡ []
new_calls size [] are which = refl
new_calls size (disk ∷ disks) are zero = (All-head (IsNew size) disk disks are).calls
new_calls size (disk ∷ disks) are (suc which) = new_calls size disks (All-tail (IsNew size) disk disks are) which
