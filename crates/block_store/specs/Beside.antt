-- What a plan takes: places that are free without it.
use Rattle.std.specs.Prelude.{ℕ, ◌≡◌, Some, None, List, length, slice_get}
use Rattle.metaslab.specs.Space.{Space, state}
use Rattle.metaslab.specs.State.{Free}
use Rattle.block_pointer.specs.declared.block.Block.{Block}
use Rattle.block_store.specs.Blocks.{Contents}
use Rattle.block_store.specs.Places.{filled, IsFree}
use Rattle.block_store.specs.Places.{planned as planned_marks}
use Rattle.block_store.specs.Spaces.{VdevSpace}
use Rattle.block_store.specs.Uses.{CopiesLieOn}

-- the vdev has the same metaslabs with the plan and without it, and what is free with it is free without it
pub record IsFreeBeside (space : VdevSpace) : Type 0 where
  pub count : length (planned_marks space) ≡ length (filled space)
  pub free : (m s : ℕ) (metaslab later : Space) → slice_get (filled space) m ≡ Some metaslab → slice_get (planned_marks space) m ≡ Some later
      → state later s ≡ Free → state metaslab s ≡ Free

-- of each vdev: what is free with the plan is free without it
abbrev pub AreFreeBeside : List VdevSpace → Type 0
AreFreeBeside spaces = (v : ℕ) (space : VdevSpace) → slice_get spaces v ≡ Some space → IsFreeBeside space

-- each copy of a block that a plan adds lies in a place that is free without it
abbrev pub AreInFreePlaces : List VdevSpace → Contents → Contents → Type 0
AreInFreePlaces spaces stored planned =
    (block : Block) (bytes : List ℕ) → planned block ≡ Some bytes → stored block ≡ None → CopiesLieOn IsFree spaces filled block
