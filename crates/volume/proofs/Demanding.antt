-- What a volume's blocks ask places for.
use Rattle.std.proofs.Common.{◌≡◌, ◌⊎◌, inl, inr, ℕ, List, [], ◌∷◌, ◌++◌, length, refl, ap, subst}
use Rattle.std.specs.Prelude.{Vec}
use Rattle.std.specs.declared.alloc.Global.{Global}
use Rattle.block_pointer.specs.declared.block.Block.{Block}
use Rattle.block_pointer.specs.Copies.{dvas}
use Rattle.block_store.specs.declared.refusal.Refusal.{Refusal}
use Rattle.block_store.specs.declared.refusal.Refusal.TheVariants.{NoMemory, NoSpace}
use Rattle.block_store.specs.Spaces.{VdevSpace}
use Rattle.block_store.specs.Demands.{Demand, HavePlaces}
use Rattle.block_store.specs.Places.{AreChosen, RanOut}
use Rattle.block_store.specs.Steps.{OnlyReadsBlocks}
use Rattle.block_store.specs.Store.{Store}
use Rattle.block_store.proofs.Demands.{have_both, have_one, lack_later, lack_one}
use Rattle.dnode.specs.declared.object_set.ObjectSet.{ObjectSet}
use Rattle.dnode_tree.specs.declared.writes.BlockWrite.{BlockWrite}
use Rattle.dnode_tree.specs.Writes.{IsForRoom}
use Rattle.objset.specs.declared.changes.Change.{Change}
use Rattle.objset.specs.declared.changes.Change.TheVariants.{Put}
use Rattle.objset.specs.declared.changes.SetCopies.{SetCopies}
use Rattle.objset.specs.Demands.{HasDemands, LacksRoom}
use Rattle.objset.specs.Refused.{IsChangeRefused}
use Rattle.volume.specs.declared.volume.VolumeSet.{VolumeSet}
use Rattle.volume.specs.Demands.{demand_of_set, HasPlaces, HasPlacesFor, HasSetDemands, IsPlanRefused}
use Rattle.volume.specs.Placing.{data_change}
use Rattle.volume.specs.Reading.{IsVolumeFound}
use Rattle.dnode.specs.declared.object_set.ObjectSetKind.TheVariants as kinds
use Rattle.objset.specs.Changes.{copies_of}

-- what objects asked places for by these copies, and had them
abbrev pub ObjectsHave : Store → Store → ObjectSet → ℕ → SetCopies → Change → Type 0
ObjectsHave old mid set birth copies change =
    (demands : List Demand) × HasDemands old.spaces set birth copies (data_change change) demands × HavePlaces old.spaces demands mid.spaces

-- and then the set's block
pub places_with_set : (old mid new : Store) (set : ObjectSet) (birth : ℕ) (copies : SetCopies) (change : Change) (block : Block) → copies ≡ copies_of kinds.Volume
    → ObjectsHave old mid set birth copies change → length (dvas block.copies) ≡ 2 → AreChosen mid.spaces [] 2 2 (dvas block.copies) new.spaces → HasPlacesFor old new set birth change
places_with_set old mid new set birth copies change block same objects two chosen = (
  objects.0 ++ demand_of_set ∷ [],
  record {
    of_objects = objects.0;
    are = subst (λ (c : SetCopies). HasDemands old.spaces set birth c (data_change change) objects.0) same objects.1;
    is = refl;
  },
  have_both old.spaces mid.spaces new.spaces objects.0 (demand_of_set ∷ []) objects.2 (have_one mid.spaces new.spaces 2 2 (dvas block.copies) two chosen),
)

-- or not
pub set_refused : (old mid new : Store) (set : ObjectSet) (before birth : ℕ) (copies : SetCopies) (change : Change) (refusal : Refusal) → copies ≡ copies_of kinds.Volume
    → ObjectsHave old mid set birth copies change → IsForRoom refusal → (refusal ≡ NoSpace → RanOut mid.spaces 2 2 new.spaces)
    → IsPlanRefused old new set before birth change refusal
set_refused old mid new set before birth copies change refusal same objects (inl memory) ran_out = inl memory
set_refused old mid new set before birth copies change refusal same objects (inr is) ran_out =
    inr (inl (
      is,
      inr (
        objects.0 ++ demand_of_set ∷ [],
        record {
          of_objects = objects.0;
          are = subst (λ (c : SetCopies). HasDemands old.spaces set birth c (data_change change) objects.0) same objects.1;
          is = refl;
        },
        lack_later old.spaces mid.spaces new.spaces objects.0 (demand_of_set ∷ []) objects.2 (lack_one mid.spaces new.spaces 2 2 (ran_out is)),
      ),
    ))

-- the change of the objects was refused
pub objects_refused : (old new : Store) (set : ObjectSet) (before birth : ℕ) (copies : SetCopies) (change : Change) (refusal : Refusal) → copies ≡ copies_of kinds.Volume
    → ((refusal ≡ NoMemory) ⊎ (((refusal ≡ NoSpace) × LacksRoom old new set birth copies (data_change change)) ⊎ IsChangeRefused old new [] set before birth (data_change change) refusal))
    → IsPlanRefused old new set before birth change refusal
objects_refused old new set before birth copies change refusal same (inl memory) = inl memory
objects_refused old new set before birth copies change refusal same (inr (inl lacks)) =
    inr (inl (lacks.0, inl (subst (λ (c : SetCopies). LacksRoom old new set birth c (data_change change)) same lacks.1)))
objects_refused old new set before birth copies change refusal same (inr (inr why)) = inr (inr why)

-- places that were taken behind reads
pub places_behind : (old mid new : Store) (volume : VolumeSet) (birth : ℕ) (set : ObjectSet) (blocks : Vec BlockWrite Global) → OnlyReadsBlocks old mid [] → IsVolumeFound old.spaces volume birth set
    → HasPlacesFor mid new set birth (Put blocks) → HasPlaces old new volume birth blocks
places_behind old mid new volume birth set blocks reads found places = (
  set,
  found,
  (
    places.0,
    subst (λ (spaces : List VdevSpace). HasSetDemands spaces set birth (Put blocks) places.0) (ap (λ store. store.spaces) reads.rest) places.1,
    subst (λ (spaces : List VdevSpace). HavePlaces spaces places.0 new.spaces) (ap (λ store. store.spaces) reads.rest) places.2,
  ),
)

pub found_behind : (old mid : Store) (volume : VolumeSet) (birth : ℕ) (set : ObjectSet) → OnlyReadsBlocks old mid [] → IsVolumeFound mid.spaces volume birth set → IsVolumeFound old.spaces volume birth set
found_behind old mid volume birth set reads found = subst (λ (spaces : List VdevSpace). IsVolumeFound spaces volume birth set) (ap (λ store. store.spaces) reads.rest) found

pub all_behind : (old mid new : Store) (volume : VolumeSet) (birth : ℕ) (blocks : Vec BlockWrite Global) → OnlyReadsBlocks old mid [] → HasPlaces mid new volume birth blocks → HasPlaces old new volume birth blocks
all_behind old mid new volume birth blocks reads places =
    places_behind old mid new volume birth places.0 blocks reads (found_behind old mid volume birth places.0 reads places.1) places.2
