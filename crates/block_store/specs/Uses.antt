-- What the sectors of a block's copies are used for.
use Rattle.std.specs.Prelude.{ℕ, ◌≡◌, ◌≢◌, ◌<◌, Bool, true, Some, List, slice_get}
use Rattle.block_pointer.specs.declared.block.Block.{Block}
use Rattle.block_pointer.specs.declared.dva.Dva.{Dva}
use Rattle.block_pointer.specs.Copies.{dvas}
use Rattle.metaslab.specs.State.{State, Free, InUse, settled}
use Rattle.block_store.specs.Places.{Marks, EachSector}
use Rattle.block_store.specs.Shapes.{IsPlace}
use Rattle.block_store.specs.Spaces.{VdevSpace}

-- a copy of a block of so many sectors may lie there, and this holds of what each sector of the place is used for
pub record LiesOn (is : State → Type 0) (spaces : List VdevSpace) (marks : Marks) (sectors : ℕ) (place : Dva) : Type 0 where
  pub some : 0 < sectors
  pub space : VdevSpace
  pub found : slice_get spaces place.vdev ≡ Some space
  pub is_place : IsPlace space.shape sectors place
  pub each : EachSector is (marks space) space.shape place

-- so it is of each copy of the block
abbrev pub CopiesLieOn : (State → Type 0) → List VdevSpace → Marks → Block → Type 0
CopiesLieOn is spaces marks block =
    (i : ℕ) (place : Dva) → slice_get (dvas block.copies) i ≡ Some place → LiesOn is spaces marks block.property.sectors place

-- the state passes a test
abbrev pub Passes : (State → Bool) → State → Type 0
Passes test state = test state ≡ true

-- the sector is in use: neither free nor released
abbrev pub IsInUse : State → Type 0
IsInUse state = state ≡ InUse

-- it isn't free after what is due to that group has become free, whatever groups are pinned
abbrev pub IsSpared : ℕ → State → Type 0
IsSpared group state = (pins : List ℕ) → settled pins group state ≢ Free

-- where this holds of a sector, that holds of it later, whether or not what is due to the group has become free
abbrev pub SettlesTo : ℕ → (State → Type 0) → (State → Type 0) → Type 0
SettlesTo group is later = (pins : List ℕ) (state : State) → is state → later state × later (settled pins group state)
