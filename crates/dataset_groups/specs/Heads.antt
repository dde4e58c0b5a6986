-- One head that a group writes to.
use Rattle.std.specs.Prelude.{ℕ, ◌≡◌, ◌⊎◌, List, Some, None, Option, Contains}
use Rattle.block_pointer.specs.declared.block.Block.{Block}
use Rattle.block_store.specs.Blocks.{Contents}
use Rattle.block_store.specs.Demands.{Demand, HavePlaces}
use Rattle.block_store.specs.Store.{Store}
use Rattle.block_store.specs.declared.refusal.Refusal.{Refusal}
use Rattle.dataset_destroys.specs.Chains.{Reading, SpellsChains}
use Rattle.dataset_destroys.specs.ChainTouched.{HasSameList}
use Rattle.dataset_destroys.specs.DatasetChanges.{DatasetChanges}
use Rattle.dead_list.specs.Datasets.{Pool, updated}
use Rattle.dead_list.specs.Operations.{IsHead, IsWritable, Makes, Overwrite}
use Rattle.dnode_tree.specs.Rewriting.{AreDistinct}
use Rattle.objset.specs.Objects.{Object}
use Rattle.volume.specs.Demands.{IsPlacingRefused}
use Rattle.volume.specs.Writing.{IsArrayWith}
use Rattle.dataset_groups.specs.declared.writing.WrittenHead.{WrittenHead}
use Rattle.dataset_groups.specs.Demands.{HasHeadDemands, IsHeadUnchanged}
use Rattle.dataset_groups.specs.Leaving.{AddsData}
use Rattle.dataset_groups.specs.Writing.{IsHeadRead}

-- it is a head that may be written to, as it was read, and its blocks make its bytes these
pub record IsWrittenTo (stored : Contents) (bound : ℕ) (pool : Pool) (readings : ℕ → Reading) (head : WrittenHead) (array : List ℕ)
    : Type 0 where
  pub is : IsHead pool.datasets head.number
  pub writable : IsWritable pool head.number
  pub read : IsHeadRead stored bound pool readings head
  pub after : IsArrayWith (readings head.number).array (readings head.number).block_size head.blocks.items array

-- these blocks are known later, and were not: each is there once, and was born then; nothing else is known now that was not
pub record AreNewlyKnown (birth : ℕ) (planned later : Contents) (added : List Block) : Type 0 where
  pub once : AreDistinct added
  pub fresh : (block : Block) → Contains added block → planned block ≡ None
  pub born : (block : Block) → Contains added block → block.birth ≡ birth
  pub known : (block : Block) → Contains added block → (bytes : List ℕ) × (later block ≡ Some bytes)
  pub only : (block : Block) (bytes : List ℕ) → later block ≡ Some bytes → Contains added block ⊎ (planned block ≡ Some bytes)

-- what a dataset reads as with other bytes
abbrev pub reading_with : Reading → List ℕ → Reading
reading_with reading array = record { array = array; block_size = reading.block_size }

-- The head was overwritten, and reads as the array. What entered it is new.
pub record IsHeadWritten (planned later : Contents) (group : ℕ) (objects : ℕ → Option Object) (old new : DatasetChanges) (pool after : Pool)
    (readings : ℕ → Reading) (number : ℕ) (array : List ℕ) (gone : List Block) : Type 0 where
  pub left : List Block
  pub entered : List Block
  pub made : Makes pool (Overwrite number left entered) gone after
  pub entered_are : AreNewlyKnown group planned later entered
  pub adds : AddsData planned later
  pub chains : SpellsChains later group objects new after (updated readings number (reading_with (readings number) array))
  pub list : HasSameList objects old new number

-- places were taken for what the head asks, and for nothing else
abbrev pub HasHeadPlaces : Store → Store → ℕ → WrittenHead → Type 0
HasHeadPlaces old new group head =
    (demands : List Demand) × HasHeadDemands old.spaces group head demands × HavePlaces old.spaces demands new.spaces

-- why it is not written: its blocks were not placed, or its record or its dead list not changed
abbrev pub IsHeadRefused : Store → Store → DatasetChanges → ℕ → WrittenHead → Refusal → Type 0
IsHeadRefused old new changes group head refusal =
    IsPlacingRefused old new head.volume group head.blocks refusal ⊎ IsHeadUnchanged old new changes head refusal
