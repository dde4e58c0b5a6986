-- What a refusal of a layer below is answered, and what the machine calls a refusal of this crate.
use Rattle.block_store.specs.declared.refusal.Refusal.{Refusal as StoreRefusal}
use Rattle.block_store.specs.declared.refusal.Refusal.TheVariants as store
use Rattle.pool_model.specs.declared.refusal.Refusal.{Refusal as Cause}
use Rattle.pool_model.specs.declared.refusal.Refusal.TheVariants as causes
use Rattle.pool_commit.specs.declared.refusal.Refusal.{Refusal}
use Rattle.pool_commit.specs.declared.refusal.Refusal.TheVariants.{NoMemory, DiskFault, NoSpace, BadPointer, BadDigest, NoSuchName, OutOfRange, GroupGone, BadConfig}

-- No configuration is judged but where a pool is made: a block that asks for one is no block of the pool.
abbrev pub of_store : StoreRefusal → Refusal
of_store store.NoMemory = NoMemory
of_store store.DiskFault = DiskFault
of_store store.NoSpace = NoSpace
of_store store.BadPointer = BadPointer
of_store store.BadDigest = BadDigest
of_store store.BadConfig = BadPointer

-- what the machine calls a refusal of this crate
abbrev pub cause_of : Refusal → Cause
cause_of NoMemory = causes.NoMemory
cause_of DiskFault = causes.DiskFault
cause_of NoSpace = causes.NoSpace
cause_of BadPointer = causes.BadPointer
cause_of BadDigest = causes.BadDigest
cause_of NoSuchName = causes.NoSuchName
cause_of OutOfRange = causes.OutOfRange
cause_of GroupGone = causes.GroupGone
cause_of BadConfig = causes.BadConfig
