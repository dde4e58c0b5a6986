-- Which disk failed.
use Rattle.std.specs.Prelude.{ℕ, length, Contains}
use Rattle.model_disk.specs.Joint.{Disks, failed_since}
use Rattle.pool_slots.specs.declared.refusal.DiskFailure.{DiskFailure}

-- a call on that disk failed since the old moment
abbrev pub HasFailedOn : Disks → Disks → ℕ → Type 0
HasFailedOn old new disk = Contains (failed_since (length old.calls) new.calls) disk

-- one on the disk that the failure names did
abbrev pub IsFailure : Disks → Disks → DiskFailure → Type 0
IsFailure old new failure = HasFailedOn old new failure.disk
