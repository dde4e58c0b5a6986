-- Why a pool is not opened, by what the layers below say.
use Rattle.std.specs.Prelude.{ℕ, List, [], codes}
use Rattle.block_store.specs.declared.refusal.Refusal.{Refusal as StoreRefusal}
use Rattle.block_store.specs.declared.refusal.Refusal.TheVariants as store
use Rattle.pool_format.specs.declared.refusal.Refusal.{Refusal as FormatRefusal}
use Rattle.pool_format.specs.declared.refusal.Refusal.TheVariants as format
use Rattle.pool_labels.specs.declared.refusal.Refusal.{Refusal as LabelsRefusal}
use Rattle.pool_labels.specs.declared.refusal.Refusal.TheVariants as labels
use Rattle.pool_slots.specs.declared.refusal.Refusal.{Refusal as SlotsRefusal}
use Rattle.pool_slots.specs.declared.refusal.Refusal.TheVariants as slots
use Rattle.space_map_objects.specs.declared.refusal.Refusal.{Refusal as RootRefusal}
use Rattle.space_map_objects.specs.declared.refusal.Refusal.TheVariants as root
use Rattle.vdev_label.specs.declared.refusal.Breach.TheVariants as breach
use Rattle.pool_open.specs.declared.refusal.Refusal.{Refusal}
use Rattle.pool_open.specs.declared.refusal.Refusal.TheVariants.{NoMemory, DiskFault, NoSpace, BadLabel, NoUberblock, BadPointer, BadDigest, TooManyMissing, PoolMismatch, BadConfig, BadMap}

-- the number by which a schedule's output and a program's error name a refusal
abbrev pub number_of : Refusal → ℕ
number_of NoMemory = 1
number_of DiskFault = 2
number_of NoSpace = 3
number_of (BadLabel breach) = 18
number_of NoUberblock = 19
number_of BadPointer = 20
number_of BadDigest = 21
number_of TooManyMissing = 22
number_of PoolMismatch = 23
number_of BadConfig = 24
number_of BadMap = 27

-- the name that stands after the number
abbrev pub name_of : Refusal → List ℕ
name_of NoMemory = codes "NoMemory"
name_of DiskFault = codes "DiskFault"
name_of NoSpace = codes "NoSpace"
name_of (BadLabel breach) = codes "BadLabel"
name_of NoUberblock = codes "NoUberblock"
name_of BadPointer = codes "BadPointer"
name_of BadDigest = codes "BadDigest"
name_of TooManyMissing = codes "TooManyMissing"
name_of PoolMismatch = codes "PoolMismatch"
name_of BadConfig = codes "BadConfig"
name_of BadMap = codes "BadMap"

-- of a bad label what is wrong with it; of the others nothing is said behind the name
abbrev pub argument_of : Refusal → List ℕ
argument_of (BadLabel breach.Tail) = codes "tail"
argument_of (BadLabel breach.Digest) = codes "digest"
argument_of (BadLabel breach.List) = codes "list"
argument_of (BadLabel breach.Pairs) = codes "pairs"
argument_of refusal = []

-- the same as one of ours
abbrev pub of_labels : LabelsRefusal → Refusal
of_labels labels.NoMemory = NoMemory
of_labels (labels.BadLabel breach) = BadLabel breach
of_labels labels.NoUberblock = NoUberblock
of_labels labels.TooManyMissing = TooManyMissing
of_labels labels.PoolMismatch = PoolMismatch
of_labels labels.BadConfig = BadConfig

-- no claim left is no uberblock to take; a label without the configuration is none with it
abbrev pub of_slots : SlotsRefusal → Refusal
of_slots slots.NoMemory = NoMemory
of_slots (slots.DiskFault disk) = DiskFault
of_slots slots.NoUberblock = NoUberblock
of_slots slots.NoLabel = BadConfig
of_slots slots.UsedUp = NoUberblock

-- the same as one of ours
abbrev pub of_store : StoreRefusal → Refusal
of_store store.NoMemory = NoMemory
of_store store.DiskFault = DiskFault
of_store store.NoSpace = NoSpace
of_store store.BadPointer = BadPointer
of_store store.BadDigest = BadDigest
of_store store.BadConfig = BadConfig

-- why a root was not read
abbrev pub of_root : RootRefusal → Refusal
of_root root.NoMemory = NoMemory
of_root root.BadMap = BadMap
of_root (root.Unread cause) = of_store cause

-- the disk that failed isn't told
abbrev pub of_format : FormatRefusal → Refusal
of_format format.NoMemory = NoMemory
of_format (format.DiskFault disk) = DiskFault
