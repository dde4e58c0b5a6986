-- Places for changes, and for the blocks of their dnodes.
use Rattle.std.proofs.Common.{◌≡◌, ◌⊎◌, inl, inr, ℕ, ◌+◌, ◌<◌, List, [], ◌∷◌, ◌++◌, length, map, take, drop, get_or, refl, sym, ap, subst, ◌∙◌}
use Rattle.std.proofs.lemmas.List.{take-append-drop, map-append}
use Rattle.block_store.specs.declared.refusal.Refusal.{Refusal}
use Rattle.block_store.specs.declared.refusal.Refusal.TheVariants.{NoMemory, NoSpace}
use Rattle.block_store.specs.Demands.{Demand, HavePlaces}
use Rattle.block_store.specs.Steps.{OnlyReadsAndPlans}
use Rattle.block_store.specs.Store.{Store}
use Rattle.block_store.proofs.Demands.{have_both, lack_later}
use Rattle.dnode.specs.declared.object_set.ObjectSet.{ObjectSet}
use Rattle.objset.specs.declared.node_writes.NodeWrite.{NodeWrite}
use Rattle.objset.specs.NodesRefused.{IsNodeWriteRefused}
use Rattle.objset.specs.NodeWrites.{AreNodeDemands, HaveNodePlaces, LackNodePlaces, numbers_of}
use Rattle.dnode_tree.specs.declared.writes.CopyCounts.{CopyCounts}
use Rattle.objset.specs.declared.changes.Changing.{Changing}
use Rattle.objset.specs.declared.changes.ObjectChange.{ObjectChange}
use Rattle.objset.specs.Changes.{dnode_copies}
use Rattle.objset.specs.Changing.{HavePlacesFor, LackPlacesFor, LacksRoomForFirst}
use Rattle.objset.specs.Demands.{HasDemands, LacksRoom}
use Rattle.objset.specs.declared.changes.SetCopies.{SetCopies}
use Rattle.objset.specs.Refused.{AreObjectsRefused, IsChangeRefused}
use Rattle.objset.proofs.Demands.{places_for_more, no_places_for_more, lacks_for_first}
use Rattle.objset.proofs.Numbers.{one_more}
use Rattle.objset.proofs.Refused.{change_refused_on, node_writes_refused_on, one_refused}

abbrev pub of_changes : List ObjectChange → List ℕ
of_changes changes = map (λ change. change.number) changes

-- for what these changes ask places are taken, and the dnodes that are to be written are theirs
pub record ArePlacedFor (this : Changing) (start now : Store) (set : ObjectSet) (changes : List ObjectChange) (writes : List NodeWrite) : Type 0 where
  pub have : HavePlacesFor this start now set changes
  pub numbers : numbers_of writes ≡ of_changes changes

pub placing_begins : (this : Changing) (start : Store) (set : ObjectSet) → ArePlacedFor this start start set [] []
placing_begins this start set = record { have = ([], refl, refl); numbers = refl }

-- the next change of several
module _ (this : Changing) (start now new : Store) (set : ObjectSet) (changes : List ObjectChange) (i : ℕ) (last : ObjectChange) (writes : List NodeWrite)
    (steps : OnlyReadsAndPlans start now this.missing.now) (so_far : ArePlacedFor this start now set (take i changes) writes) (low : i < length changes) (is : last ≡ get_or changes i last) where
  pub placing_goes_on : (write : NodeWrite) → write.number ≡ last.number → HavePlacesFor this now new set (last ∷ [])
      → ArePlacedFor this start new set (take (i + 1) changes) (writes ++ write ∷ [])
  placing_goes_on write same more =
      subst (λ (all : List ObjectChange). ArePlacedFor this start new set all (writes ++ write ∷ [])) (sym (one_more changes i last low is)) (record {
        have = places_for_more this start now new set (take i changes) (last ∷ []) steps.shapes so_far.have more;
        numbers = map-append (λ (w : NodeWrite). w.number) writes (write ∷ [])
            ∙ ap (λ (first : List ℕ). first ++ write.number ∷ []) so_far.numbers
            ∙ ap (λ n. of_changes (take i changes) ++ n ∷ []) same
            ∙ sym (map-append (λ (c : ObjectChange). c.number) (take i changes) (last ∷ []));
      })

  lacks_here : LackPlacesFor this now new set (last ∷ []) → LacksRoomForFirst this start new set changes
  lacks_here lack =
      lacks_for_first this start new set changes (take i changes ++ last ∷ []) (drop (i + 1) changes)
      (sym (take-append-drop (i + 1) changes) ∙ ap (λ (first : List ObjectChange). first ++ drop (i + 1) changes) (one_more changes i last low is))
      (no_places_for_more this start now new set (take i changes) (last ∷ []) steps.shapes so_far.have lack)

  pub placing_fails : (refusal : Refusal)
      → (refusal ≡ NoMemory)
      ⊎ (((refusal ≡ NoSpace) × LackPlacesFor this now new set (last ∷ [])) ⊎ AreObjectsRefused now new this.missing.now set this.birth (last ∷ []) refusal)
      → (refusal ≡ NoMemory)
      ⊎ (((refusal ≡ NoSpace) × LacksRoomForFirst this start new set changes) ⊎ AreObjectsRefused start new this.missing.now set this.birth changes refusal)
  placing_fails refusal (inl memory) = inl memory
  placing_fails refusal (inr (inl (space, lack))) = inr (inl (space, lacks_here lack))
  placing_fails refusal (inr (inr refused)) =
      inr (inr (one_refused start new this.missing.now set this.birth refusal changes i last low is
      (change_refused_on start now new this.missing.now steps set this.birth refusal (last ∷ []) refused)))

-- a lack of room for the first of the changes is one of room
pub objects_refused : (this : Changing) (old new : Store) (set : ObjectSet) (changes : List ObjectChange) (refusal : Refusal)
    → (refusal ≡ NoMemory)
    ⊎ (((refusal ≡ NoSpace) × LacksRoomForFirst this old new set changes) ⊎ AreObjectsRefused old new this.missing.now set this.birth changes refusal)
    → (refusal ≡ NoMemory)
    ⊎ (((refusal ≡ NoSpace) × LacksRoom old new set this.birth this.copies changes) ⊎ AreObjectsRefused old new this.missing.now set this.birth changes refusal)
objects_refused this old new set changes refusal (inl memory) = inl memory
objects_refused this old new set changes refusal (inr (inl (space, (demands, first, lack)))) = inr (inl (space, record { demands = demands; are = inl first; lack = lack }))
objects_refused this old new set changes refusal (inr (inr refused)) = inr (inr refused)

-- the blocks of the dnodes, behind those of all objects
module _ (this : Changing) (old mid new : Store) (set : ObjectSet) (changes : List ObjectChange) (numbers : List ℕ) (counts : CopyCounts)
    (numbers_are : numbers ≡ of_changes changes) (counts_are : counts ≡ dnode_copies this.copies) (have : HavePlacesFor this old mid set changes) where
  all_demands : (more : List Demand) → AreNodeDemands set counts numbers more → HasDemands old.spaces set this.birth this.copies changes (have.0 ++ more)
  all_demands more are = record {
    of_objects = have.0;
    are = have.1;
    of_dnodes = more;
    dnodes_are = subst (λ ns. AreNodeDemands set (dnode_copies this.copies) ns more) numbers_are (subst (λ copies. AreNodeDemands set copies numbers more) counts_are are);
    is = refl;
  }

  pub places_with_dnodes : HaveNodePlaces set counts numbers mid.spaces new.spaces
      → (demands : List Demand) × HasDemands old.spaces set this.birth this.copies changes demands × HavePlaces old.spaces demands new.spaces
  places_with_dnodes more = (have.0 ++ more.0, all_demands more.0 more.1, have_both old.spaces mid.spaces new.spaces have.0 more.0 have.2 more.2)

  pub dnodes_refused : (refusal : Refusal) → OnlyReadsAndPlans old mid this.missing.now
      → (refusal ≡ NoMemory)
      ⊎ (((refusal ≡ NoSpace) × LackNodePlaces set counts numbers mid.spaces new.spaces)
      ⊎ IsNodeWriteRefused mid new this.missing.now set this.birth numbers refusal)
      → (refusal ≡ NoMemory)
      ⊎ (((refusal ≡ NoSpace) × LacksRoom old new set this.birth this.copies changes) ⊎ AreObjectsRefused old new this.missing.now set this.birth changes refusal)
  dnodes_refused refusal steps (inl memory) = inl memory
  dnodes_refused refusal steps (inr (inl (space, (demands, are, lack)))) = inr (inl (
    space,
    record { demands = have.0 ++ demands; are = inr (all_demands demands are); lack = lack_later old.spaces mid.spaces new.spaces have.0 demands have.2 lack },
  ))
  dnodes_refused refusal steps (inr (inr refused)) =
      inr (inr (inl (subst (λ ns. IsNodeWriteRefused old new this.missing.now set this.birth ns refusal) numbers_are
      (node_writes_refused_on old mid new this.missing.now steps set this.birth refusal numbers refused))))

-- so it is of all changes of a set
pub set_refused : (old new : Store) (missing : List ℕ) (set : ObjectSet) (before birth : ℕ) (copies : SetCopies) (changes : List ObjectChange) (refusal : Refusal)
    → (refusal ≡ NoMemory) ⊎ (((refusal ≡ NoSpace) × LacksRoom old new set birth copies changes) ⊎ AreObjectsRefused old new missing set birth changes refusal)
    → (refusal ≡ NoMemory) ⊎ (((refusal ≡ NoSpace) × LacksRoom old new set birth copies changes) ⊎ IsChangeRefused old new missing set before birth changes refusal)
set_refused old new missing set before birth copies changes refusal (inl memory) = inl memory
set_refused old new missing set before birth copies changes refusal (inr (inl lacks)) = inr (inl lacks)
set_refused old new missing set before birth copies changes refusal (inr (inr why)) = inr (inr (inr why))
