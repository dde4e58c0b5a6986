-- Why calls over a store are refused.
use Rattle.std.specs.Prelude.{ℕ, List}
use Rattle.block_pointer.specs.Property.{FitsProperty}
use Rattle.block_pointer.specs.declared.property.Property.{Property}
use Rattle.block_store.specs.Blocks.{count_of}
use Rattle.block_store.specs.declared.block.CopyCount.{CopyCount}
use Rattle.block_store.specs.declared.refusal.Refusal.{Refusal}
use Rattle.block_store.specs.declared.refusal.Refusal.TheVariants.{DiskFault, NoSpace}
use Rattle.block_store.specs.Losses.{IsBlockLost}
use Rattle.block_store.specs.Steps.{HasNoRoomFor}
use Rattle.block_store.specs.Store.{Store}

-- There is no room: behind reads and plans of blocks no free place was left for one of the copies of a block with this property, of at most 2^16
-- sectors and three copies.
pub record RanShort (old new : Store) (missing : List ℕ) : Type 0 where
  pub property : Property
  pub fits : FitsProperty property
  pub copies : CopyCount
  pub none : HasNoRoomFor old new missing property.sectors (count_of copies)

-- The cause of a refusal, whatever was read and planned before it: for lack of disks a block is lost, and for want of room no place was left
-- for one. The other refusals have none in the store's calls.
abbrev pub IsCaused : Store → Store → List ℕ → Refusal → Type 0
IsCaused old new missing DiskFault = IsBlockLost old new missing
IsCaused old new missing NoSpace = RanShort old new missing
IsCaused old new missing refusal = Unit {0}
