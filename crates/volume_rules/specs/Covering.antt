-- Ranges of a volume that a pending write covers.
use Rattle.std.specs.Prelude.{◌≡◌, false, ℕ, ◌+◌, ◌<◌, ◌≤◌, List, length, Any}
use Rattle.pool_model.specs.declared.item.Write.{Write}
use Rattle.pool_model.specs.Pools.{is_snapshot}
use Rattle.pool_model.specs.View.{View, open_group}
use Rattle.volume_rules.specs.declared.shape.VolumeShape.{VolumeShape}

-- the write lies within a volume of that size, and has every byte of the range
pub record CoversRange (size offset len : ℕ) (write : Write) : Type 0 where
  pub within : write.offset + length write.bytes ≤ size
  pub begins : write.offset ≤ offset
  pub ends : offset + len ≤ write.offset + length write.bytes

-- one of the writes to the volume of that name has every byte of the range
abbrev pub AreCovering : List ℕ → ℕ → ℕ → ℕ → List Write → Type 0
AreCovering name size offset len writes =
    Any (λ write. (write.volume ≡ name) × CoversRange size offset len write) writes

-- the volume is no snapshot, and one write of a group behind that one and up to another, and behind the one that made it, has every
-- byte of the range
pub record IsCoveredBetween (v : View) (name : List ℕ) (shape : VolumeShape) (offset len from to : ℕ)
    : Type 0 where
  pub writable : is_snapshot shape.kind ≡ false
  pub group : ℕ
  pub pending : from < group
  pub accepted : group ≤ to
  pub behind : shape.group < group
  pub covering : AreCovering name shape.size offset len (v.ledger group).writes

-- one pending write does
abbrev pub IsCovered : View → List ℕ → VolumeShape → ℕ → ℕ → Type 0
IsCovered v name shape offset len =
    IsCoveredBetween v name shape offset len v.committed (open_group v)
