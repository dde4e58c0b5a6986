-- What a map's reader answers where its rows are not read.
use Rattle.block_store.specs.declared.refusal.Refusal.{Refusal as StoreRefusal}
use Rattle.block_store.specs.declared.refusal.Refusal.TheVariants.{NoMemory as NoStoreMemory, DiskFault, NoSpace, BadPointer, BadDigest, BadConfig}
use Rattle.space_map_objects.specs.declared.refusal.Refusal.{Refusal}
use Rattle.space_map_objects.specs.declared.refusal.Refusal.TheVariants.{NoMemory, Unread}

-- the store's refusal as the map reader's: no memory stays so, all others are Unread
abbrev pub of_read : StoreRefusal → Refusal
of_read NoStoreMemory = NoMemory
of_read DiskFault = Unread DiskFault
of_read NoSpace = Unread NoSpace
of_read BadPointer = Unread BadPointer
of_read BadDigest = Unread BadDigest
of_read BadConfig = Unread BadConfig
