-- The numbers and names of refusals.
use Rattle.std.specs.Prelude.{ℕ, List, codes}
use Rattle.pool_model.specs.declared.refusal.Refusal.{Refusal}
use Rattle.pool_model.specs.declared.refusal.Refusal.TheVariants.{NoMemory, DiskFault, NoSpace, Suspended, AlreadyHeld, NoHold, OutOfOrder, NoSuchName, NotYet, Exists, OutOfRange, Misaligned, NotNow, HasClones, HasSnapshots, BadName, GroupGone, BadPointer, BadDigest, BadConfig, BadMap}

-- the number of a refusal, each cause its own; for OutOfOrder the same whatever number was expected
abbrev pub number_of_cause : Refusal → ℕ
number_of_cause NoMemory = 1
number_of_cause DiskFault = 2
number_of_cause NoSpace = 3
number_of_cause Suspended = 4
number_of_cause AlreadyHeld = 5
number_of_cause NoHold = 6
number_of_cause (OutOfOrder expected) = 7
number_of_cause NoSuchName = 8
number_of_cause NotYet = 9
number_of_cause Exists = 10
number_of_cause OutOfRange = 11
number_of_cause Misaligned = 12
number_of_cause NotNow = 13
number_of_cause HasClones = 14
number_of_cause HasSnapshots = 15
number_of_cause BadName = 16
number_of_cause GroupGone = 17
number_of_cause BadPointer = 20
number_of_cause BadDigest = 21
number_of_cause BadConfig = 24
number_of_cause BadMap = 27

-- the name of a refusal, as the codes of its letters; for OutOfOrder the same whatever number was expected
abbrev pub name_of_cause : Refusal → List ℕ
name_of_cause NoMemory = codes "NoMemory"
name_of_cause DiskFault = codes "DiskFault"
name_of_cause NoSpace = codes "NoSpace"
name_of_cause Suspended = codes "Suspended"
name_of_cause AlreadyHeld = codes "AlreadyHeld"
name_of_cause NoHold = codes "NoHold"
name_of_cause (OutOfOrder expected) = codes "OutOfOrder"
name_of_cause NoSuchName = codes "NoSuchName"
name_of_cause NotYet = codes "NotYet"
name_of_cause Exists = codes "Exists"
name_of_cause OutOfRange = codes "OutOfRange"
name_of_cause Misaligned = codes "Misaligned"
name_of_cause NotNow = codes "NotNow"
name_of_cause HasClones = codes "HasClones"
name_of_cause HasSnapshots = codes "HasSnapshots"
name_of_cause BadName = codes "BadName"
name_of_cause GroupGone = codes "GroupGone"
name_of_cause BadPointer = codes "BadPointer"
name_of_cause BadDigest = codes "BadDigest"
name_of_cause BadConfig = codes "BadConfig"
name_of_cause BadMap = codes "BadMap"
