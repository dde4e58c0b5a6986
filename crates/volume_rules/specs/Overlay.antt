-- The bytes of NOW as pending writes over committed ones.
use Rattle.std.specs.Prelude.{◌≡◌, ℕ, ◌+◌, List, fold, length, replicate, slice_range, Option, Some, None}
use Rattle.pool_model.specs.declared.item.Write.{Write}
use Rattle.pool_model.specs.declared.volume.PlainVolume.{PlainVolume}
use Rattle.pool_model.specs.Groups.{counters_of}
use Rattle.pool_model.specs.Pools.{PlainPool, volume_at, volume_after, upto}
use Rattle.pool_model.specs.View.{View}
use Rattle.volume_rules.specs.Shapes.{shape_of}
use Rattle.volume_rules.specs.Sources.{base_name, found_at}

-- a volume after these writes, in order
abbrev pub after_writes : PlainVolume → List Write → PlainVolume
after_writes volume writes = fold (λ v w. volume_after w v) volume writes

-- the bytes of a volume, or where there is none as many zeros as are asked
abbrev pub bytes_or_zeros : Option PlainVolume → ℕ → List ℕ
bytes_or_zeros (Some volume) size = volume.bytes
bytes_or_zeros None size = replicate size 0

-- the bytes that lie under the pending writes to what a name of NOW stands for: those that stand in the committed pool, or zeros
abbrev pub base_of : View → List ℕ → PlainVolume → List ℕ
base_of v name volume = bytes_or_zeros (found_at (base_name v name) (v.pools v.committed)) (length volume.bytes)

-- the buffer has the bytes from the offset on
abbrev pub HasRange : List ℕ → List ℕ → ℕ → Type 0
HasRange buffer bytes offset = buffer ≡ slice_range bytes offset (offset + length buffer)

-- what the pool of a group that isn't below the committed one has at a name
abbrev pub reached : View → List ℕ → ℕ → Option PlainVolume
reached v name group = volume_at name (upto v.committed (v.pools v.committed) v.ledger group)

-- a volume or snapshot of this many bytes stands there in the pool, or it is nowhere
abbrev pub StandsThere : Option (List ℕ) → PlainPool → ℕ → Type 0
StandsThere None pool size = Unit {0}
StandsThere (Some name) pool size = (volume : PlainVolume) × (volume_at name pool ≡ Some volume) × (length volume.bytes ≡ size)

-- a buffer has a range of what stands there, or of zeros
abbrev pub HasRangeAt : List ℕ → Option (List ℕ) → PlainPool → ℕ → ℕ → Type 0
HasRangeAt buffer name pool size offset = HasRange buffer (bytes_or_zeros (found_at name pool) size) offset

-- the last group that is closed: the one before the open group
abbrev pub closed_in : View → ℕ
closed_in v = (counters_of v).closed

-- a volume of NOW is committed: the pool that was committed last has one of that name, with the same shape
abbrev pub IsCommitted : View → List ℕ → PlainVolume → Type 0
IsCommitted v name volume = (base : PlainVolume) × (volume_at name (v.pools v.committed) ≡ Some base) × (shape_of base ≡ shape_of volume)
