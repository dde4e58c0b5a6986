-- What a volume's blocks ask places for, and why they are not planned.
use Rattle.std.specs.Prelude.{ℕ, ◌≡◌, ◌⊎◌, ◌↔◌, ◌/◌, List, [], ◌∷◌, ◌++◌, Vec}
use Rattle.std.specs.declared.alloc.Global.{Global}
use Rattle.block_pointer.specs.declared.pointer.BlockPtr.TheVariants.{Hole}
use Rattle.block_store.specs.declared.refusal.Refusal.{Refusal}
use Rattle.block_store.specs.declared.refusal.Refusal.TheVariants.{NoMemory, NoSpace}
use Rattle.block_store.specs.Spaces.{VdevSpace}
use Rattle.block_store.specs.Demands.{Demand, HavePlaces, LackPlaces}
use Rattle.block_store.specs.Steps.{OnlyReadsBlocks}
use Rattle.block_store.specs.Store.{Store}
use Rattle.dnode.specs.declared.object_set.ObjectSet.{ObjectSet}
use Rattle.dnode.specs.declared.object_set.ObjectSetKind.TheVariants as kinds
use Rattle.dnode_tree.specs.declared.writes.BlockWrite.{BlockWrite}
use Rattle.objset.specs.declared.changes.Change.{Change}
use Rattle.objset.specs.declared.changes.Change.TheVariants.{Create, Put}
use Rattle.objset.specs.Demands.{HasDemands, LacksRoom}
use Rattle.objset.specs.Refused.{IsChangeRefused}
use Rattle.volume.specs.declared.volume.VolumeSet.{VolumeSet}
use Rattle.volume.specs.declared.writing.GroupWrites.{GroupWrites}
use Rattle.volume.specs.Placing.{data_change}
use Rattle.volume.specs.Volume.{block_of}
use Rattle.volume.specs.Reading.{IsReadRefused, IsVolumeFound, IsVolumeRefused}
use Rattle.volume.specs.Writing.{AreBlocksOf, HasId, IsChanged, NeedsOldBytes}
use Rattle.objset.specs.Changes.{copies_of}

-- the block of an object set: 2 sectors, two copies
abbrev pub demand_of_set : Demand
demand_of_set = record { sectors = 2; copies = 2 }

-- what a change of a set's object 1 asks places for: its own blocks and those of the dnodes, and
-- then the block of the set
pub record HasSetDemands (spaces : List VdevSpace) (set : ObjectSet) (birth : ℕ) (change : Change)
    (demands : List Demand) : Type 0 where
  pub of_objects : List Demand
  pub are : HasDemands spaces set birth (copies_of kinds.Volume) (data_change change) of_objects
  pub is : demands ≡ of_objects ++ demand_of_set ∷ []

-- for what the change asks places were taken, and for nothing else
abbrev pub HasPlacesFor : Store → Store → ObjectSet → ℕ → Change → Type 0
HasPlacesFor old new set birth change =
    (demands : List Demand) × HasSetDemands old.spaces set birth change demands
    × HavePlaces old.spaces demands new.spaces

-- no place for a block of the objects, or for the block of the set behind all of them
abbrev pub LacksPlacesFor : Store → Store → ObjectSet → ℕ → Change → Type 0
LacksPlacesFor old new set birth change =
    LacksRoom old new set birth (copies_of kinds.Volume) (data_change change)
    ⊎ ((demands : List Demand) × HasSetDemands old.spaces set birth change demands
    × LackPlaces old.spaces demands new.spaces)

-- why a change of a set's object 1 was not planned; the set's blocks so far were to be born before
abbrev pub IsPlanRefused : Store → Store → ObjectSet → ℕ → ℕ → Change → Refusal → Type 0
IsPlanRefused old new set before birth change refusal =
    (refusal ≡ NoMemory)
    ⊎ (((refusal ≡ NoSpace) × LacksPlacesFor old new set birth change)
    ⊎ IsChangeRefused old new [] set before birth (data_change change) refusal)

-- the volume's set was found, and then places were taken for what these blocks ask
abbrev pub HasPlaces : Store → Store → VolumeSet → ℕ → Vec BlockWrite Global → Type 0
HasPlaces old new volume birth blocks =
    (set : ObjectSet) × IsVolumeFound old.spaces volume birth set
    × HasPlacesFor old new set birth (Put blocks)

-- the volume's set was found, and then its change by these blocks was not planned
pub record IsPutRefused (old new : Store) (volume : VolumeSet) (birth : ℕ)
    (blocks : Vec BlockWrite Global) (refusal : Refusal) : Type 0 where
  pub set : ObjectSet
  pub is_set : IsVolumeFound old.spaces volume birth set
  pub mid : Store
  pub before : OnlyReadsBlocks old mid []
  pub why : IsPlanRefused mid new set (block_of volume).birth birth (Put blocks) refusal

-- why these blocks were not put to the volume's data
abbrev pub IsPlacingRefused :
    Store → Store → VolumeSet → ℕ → Vec BlockWrite Global → Refusal → Type 0
IsPlacingRefused old new volume birth blocks refusal =
    (refusal ≡ NoMemory) ⊎ (IsVolumeRefused old new [] volume birth refusal
    ⊎ IsPutRefused old new volume birth blocks refusal)

-- a volume's set with no objects
abbrev pub empty_set : ObjectSet
empty_set = record {
  dnodes = record { object_type = 10; data_sectors = 32; highest = 0; pointer = Hole };
  kind = kinds.Volume;
  objects = 1;
}

-- the change makes the object of the data, with no blocks
abbrev pub IsCreation : ℕ → Change → Type 0
IsCreation block_size change =
    (writes : Vec BlockWrite Global) × (writes.items ≡ [])
    × (change ≡ Create 23 (block_size / 512) writes)

-- these blocks are those that the group's writes change
pub record ArePutBy (volume : VolumeSet) (changes : GroupWrites) (blocks : List BlockWrite)
    : Type 0 where
  pub are : AreBlocksOf volume blocks
  pub which : (id : ℕ) → HasId blocks id ↔ IsChanged volume changes.name.now changes.items.now.writes id

-- the blocks that the writes change were read, and then they were not placed
pub record IsChangeUnplaced (old new : Store) (volume : VolumeSet) (birth : ℕ)
    (changes : GroupWrites) (refusal : Refusal) : Type 0 where
  pub blocks : Vec BlockWrite Global
  pub put : ArePutBy volume changes blocks.items
  pub mid : Store
  pub before : OnlyReadsBlocks old mid []
  pub why : IsPlacingRefused mid new volume birth blocks refusal

-- why a group's writes were not put: a block whose old bytes they need was not read, or they were
-- not placed
abbrev pub IsWritingRefused :
    Store → Store → VolumeSet → ℕ → ℕ → GroupWrites → Refusal → Type 0
IsWritingRefused old new volume birth_before birth changes refusal =
    (refusal ≡ NoMemory)
    ⊎ (IsReadRefused old new [] volume birth_before
    (NeedsOldBytes volume changes.name.now changes.items.now.writes) refusal
    ⊎ IsChangeUnplaced old new volume birth changes refusal)
