-- Why disks are not opened.
use Rattle.std.specs.Prelude.{◌<◌, ℕ, Bool, List, length, Contains}
use Rattle.model_disk.specs.Joint.{Disks, AreHonestSince}
use Rattle.uberblock_ring.specs.declared.uberblock.Uberblock.{Uberblock}
use Rattle.uberblock_ring.specs.declared.refusal.Refusal.TheVariants as ring
use Rattle.uberblock_ring.specs.declared.refusal.Refusal.{Refusal as RingRefusal}
use Rattle.vdev_label.specs.declared.refusal.Refusal.{Refusal as LabelRefusal}
use Rattle.vdev_label.specs.declared.refusal.Refusal.TheVariants as label
use Rattle.pool_slots.specs.Failures.{HasFailedOn}
use Rattle.pool_slots.specs.Possible.{Possible, all_of, Trees}
use Rattle.pool_slots.specs.Opens.{CanOpen, IsNotThere, IsRead}
use Rattle.pool_slots.specs.LabelReads.{LacksLabel}
use Rattle.pool_slots.specs.Marks.{IsUsedUp}
use Rattle.pool_slots.specs.declared.refusal.Refusal.{Refusal}
use Rattle.pool_slots.specs.declared.refusal.Refusal.TheVariants.{NoMemory, DiskFault, NoUberblock, NoLabel, UsedUp}

-- a reason not to read slots of a disk, as one not to open
abbrev pub of_ring : ℕ → RingRefusal → Refusal
of_ring which ring.NoMemory = NoMemory
of_ring which ring.DiskFault = DiskFault which
of_ring which ring.NoUberblock = NoUberblock

-- a reason not to read a label of a disk, as one not to open
abbrev pub of_label : ℕ → LabelRefusal → Refusal
of_label which label.NoMemory = NoMemory
of_label which label.DiskFault = DiskFault which
of_label which (label.BadLabel it) = NoLabel

-- Want of memory; a call failed on the disk that it names; no disk shows what is so many groups below the highest, so it is never this where no group is gone back;
-- a disk shows no label, or none shows the configuration of an uberblock that is shown; no claim is left above that of a possible uberblock, and those that
-- labels show.
abbrev pub IsCause : List Bool → ℕ → Disks → Disks → Possible → Refusal → Type 0
IsCause out rewind old new p NoMemory = Unit {0}
IsCause out rewind old new p (DiskFault disk) = HasFailedOn old new disk
IsCause out rewind old new p NoUberblock = (0 < rewind) × IsNotThere out old rewind
IsCause out rewind old new p NoLabel = (u : Uberblock) × IsRead out old u × LacksLabel out old u.config_digest
IsCause out rewind old new p UsedUp = (u : Uberblock) × Contains (all_of p) u × IsUsedUp out old u

-- what `open` ensures where it refuses
abbrev pub OpenRefuses : List Bool → ℕ → Disks → Disks → Refusal → Type 0
OpenRefuses out rewind old new refusal =
    (trees : Trees) (p : Possible) → CanOpen trees out old p → AreHonestSince (length old.calls) new.starts new.calls → IsCause out rewind old new p refusal
