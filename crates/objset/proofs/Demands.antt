-- What changes ask, one after the other.
use Rattle.std.proofs.Common.{◌≡◌, ℕ, List, [], ◌∷◌, ◌++◌, append_assoc, refl, sym, ap, subst, ◌∙◌}
use Rattle.std.proofs.lemmas.List.{append-nil}
use Rattle.block_store.specs.Spaces.{VdevSpace}
use Rattle.block_store.specs.Demands.{Demand}
use Rattle.block_store.specs.Places.{shapes_of}
use Rattle.block_store.specs.Store.{Store}
use Rattle.block_store.proofs.Demands.{have_both, lack_later}
use Rattle.dnode.specs.declared.dnode.Dnode.{Dnode}
use Rattle.dnode.specs.declared.object_set.ObjectSet.{ObjectSet}
use Rattle.objset.specs.Found.{IsDnodeFound}
use Rattle.objset.specs.declared.changes.Changing.{Changing}
use Rattle.objset.specs.declared.changes.ObjectChange.{ObjectChange}
use Rattle.objset.specs.declared.changes.SetCopies.{SetCopies}
use Rattle.objset.specs.Changing.{HavePlacesFor, LackPlacesFor, LacksRoomForFirst}
use Rattle.objset.specs.Demands.{FitsChange, demands_of_change, AreDemandsOf}
use Rattle.objset.proofs.Found.{dnode_found_in}

pub demands_of_one : (spaces : List VdevSpace) (set : ObjectSet) (birth : ℕ) (copies : SetCopies) (change : ObjectChange) (dnode : Dnode)
    → IsDnodeFound spaces set birth change.number dnode → FitsChange change.change dnode
    → AreDemandsOf spaces set birth copies (change ∷ []) (demands_of_change copies change.change dnode)
demands_of_one spaces set birth copies change dnode found fits =
    (dnode, [], found, fits, refl, sym (append-nil (demands_of_change copies change.change dnode)))

demands_both : (spaces : List VdevSpace) (set : ObjectSet) (birth : ℕ) (copies : SetCopies) (changes later : List ObjectChange) (demands more : List Demand)
    → AreDemandsOf spaces set birth copies changes demands → AreDemandsOf spaces set birth copies later more
    → AreDemandsOf spaces set birth copies (changes ++ later) (demands ++ more)
demands_both spaces set birth copies [] later demands more none are =
    subst (λ (first : List Demand). AreDemandsOf spaces set birth copies later (first ++ more)) (sym none) are
demands_both spaces set birth copies (change ∷ changes) later demands more (dnode, rest, found, fits, are, is) behind = (
  dnode,
  rest ++ more,
  found,
  fits,
  demands_both spaces set birth copies changes later rest more are behind,
  ap (λ (first : List Demand). first ++ more) is ∙ append_assoc (demands_of_change copies change.change dnode) rest more,
)

demands_in : (spaces others : List VdevSpace) (same : shapes_of others ≡ shapes_of spaces) (set : ObjectSet) (birth : ℕ) (copies : SetCopies) (changes : List ObjectChange) (demands : List Demand)
    → AreDemandsOf others set birth copies changes demands → AreDemandsOf spaces set birth copies changes demands
demands_in spaces others same set birth copies [] demands are = are
demands_in spaces others same set birth copies (change ∷ changes) demands (dnode, rest, found, fits, are, is) =
    (dnode, rest, dnode_found_in spaces others same set birth change.number dnode found, fits, demands_in spaces others same set birth copies changes rest are, is)

-- places for changes, and then for more or for none of them
module _ (this : Changing) (old mid new : Store) (set : ObjectSet) (changes later : List ObjectChange) (same : shapes_of mid.spaces ≡ shapes_of old.spaces)
    (have : HavePlacesFor this old mid set changes) where
  pub places_for_more : HavePlacesFor this mid new set later → HavePlacesFor this old new set (changes ++ later)
  places_for_more more = (
    have.0 ++ more.0,
    demands_both old.spaces set this.birth this.copies changes later have.0 more.0 have.1
        (demands_in old.spaces mid.spaces same set this.birth this.copies later more.0 more.1),
    have_both old.spaces mid.spaces new.spaces have.0 more.0 have.2 more.2,
  )

  pub no_places_for_more : LackPlacesFor this mid new set later → LackPlacesFor this old new set (changes ++ later)
  no_places_for_more lack = (
    have.0 ++ lack.0,
    demands_both old.spaces set this.birth this.copies changes later have.0 lack.0 have.1
        (demands_in old.spaces mid.spaces same set this.birth this.copies later lack.0 lack.1),
    lack_later old.spaces mid.spaces new.spaces have.0 lack.0 have.2 lack.2,
  )

-- a lack for the first of the changes
pub lacks_for_first : (this : Changing) (old new : Store) (set : ObjectSet) (changes first later : List ObjectChange) → changes ≡ first ++ later → LackPlacesFor this old new set first
    → LacksRoomForFirst this old new set changes
lacks_for_first this old new set changes first later is lack = (lack.0, record { first = first; later = later; changes_are = is; are = lack.1 }, lack.2)
