-- Which sizes a disk of a pool may have.
use Rattle.std.specs.Prelude.{ℕ, ◌^◌, ◌+◌, ◌*◌, ◌≤◌, nat_le, Bool, ◌&&◌, IsTrue}
use Rattle.vdev_label.specs.Place.{rounded}

-- from 8 MiB to 2^43 bytes in whole labels
abbrev pub is_allowed_size : ℕ → Bool
is_allowed_size size = nat_le 8388608 (rounded size) && nat_le (rounded size) (2 ^ 43)

-- a disk of this size in bytes may be one of a pool: from 8 MiB to 2^43 in whole labels
abbrev pub IsAllowedSize : ℕ → Type 0
IsAllowedSize size = IsTrue (is_allowed_size size)

-- beside its labels and what stands free behind the first two, a disk of this size has so many sectors
abbrev pub HasSectors : ℕ → ℕ → Type 0
HasSectors size sectors = (sectors + 9216) * 512 ≤ rounded size
