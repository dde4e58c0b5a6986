-- What is asked by one thing after the other, and in the spaces behind plans.
use Rattle.std.proofs.Common.{◌≡◌, ◌⊎◌, inl, inr, ℕ, List, [], ◌∷◌, ◌++◌, append_assoc, refl, sym, ap, ◌∙◌}
use Rattle.std.specs.Prelude.{◌≢◌}
use Rattle.std.proofs.lemmas.List.{append-nil}
use Rattle.block_pointer.specs.declared.block.Block.{Block}
use Rattle.block_store.proofs.Demands.{have_both}
use Rattle.block_store.proofs.Steps.{read_in}
use Rattle.block_store.specs.Spaces.{VdevSpace}
use Rattle.block_store.specs.Demands.{Demand, HavePlaces}
use Rattle.block_store.specs.Places.{shapes_of}
use Rattle.block_store.specs.Store.{Store}
use Rattle.dnode.specs.declared.object_set.ObjectSet.{ObjectSet}
use Rattle.objset.specs.Sets.{IsSetFound, asked_of_set}
use Rattle.dnode_tree.specs.declared.writes.BlockWrite.{BlockWrite}
use Rattle.objset.specs.NodesFound.{found_dnode}
use Rattle.objset.proofs.Found.{dnode_found_in, node_found_in}
use Rattle.objset.specs.declared.changes.Change.{Change}
use Rattle.objset.specs.declared.changes.ObjectChange.{ObjectChange}
use Rattle.objset.specs.declared.changes.SetCopies.{SetCopies}
use Rattle.objset.specs.Demands.{AreDemandsOf, HasDemands}
use Rattle.volume.specs.declared.volume.VolumeSet.{VolumeSet}
use Rattle.volume.specs.Demands.{HasPlaces, HasSetDemands}
use Rattle.volume.specs.Placing.{data_change}
use Rattle.volume.specs.Reading.{IsVolumeFound}
use Rattle.volume.specs.Volume.{block_of}
use Rattle.dataset_groups.specs.declared.writing.WrittenHead.{WrittenHead}
use Rattle.dataset_groups.specs.Demands.{AreAsked, HavePlacesFor, HasHeadDemands}
use Rattle.dnode.specs.declared.object_set.ObjectSetKind.TheVariants as kinds
use Rattle.objset.specs.Changes.{copies_of}

-- ---- one after the other

asked_more : {X : Type 0} (Asks : X → List Demand → Type 0) (xs : List X) (x : X) (demands more : List Demand) → AreAsked Asks xs demands → Asks x more
    → AreAsked Asks (xs ++ x ∷ []) (demands ++ more)
asked_more Asks [] x demands more none here =
    (more, [], here, refl, ap (λ (front : List Demand). front ++ more) none ∙ sym (append-nil more))
asked_more Asks (first ∷ xs) x demands more (front, rest, asks, later, is) here = (
  front,
  rest ++ more,
  asks,
  asked_more Asks xs x rest more later here,
  ap (λ (all : List Demand). all ++ more) is ∙ append_assoc front rest more,
)

pub no_places : {X : Type 0} (store : Store) (Asks : X → List Demand → Type 0) → HavePlacesFor store store Asks []
no_places store Asks = ([], refl, refl)

pub places_more : {X : Type 0} (old mid new : Store) (Asks : X → List Demand → Type 0) (xs : List X) (x : X) → HavePlacesFor old mid Asks xs
    → (demands : List Demand) × Asks x demands × HavePlaces mid.spaces demands new.spaces → HavePlacesFor old new Asks (xs ++ x ∷ [])
places_more old mid new Asks xs x have one = (
  have.0 ++ one.0,
  asked_more Asks xs x have.0 one.0 have.1 one.1,
  have_both old.spaces mid.spaces new.spaces have.0 one.0 have.2 one.2,
)

-- ---- only the shapes of the vdevs matter

module _ (spaces others : List VdevSpace) (same : shapes_of others ≡ shapes_of spaces) where
  set_in : (birth : ℕ) (block : Block) (set : ObjectSet) → IsSetFound others birth block set → IsSetFound spaces birth block set
  set_in birth block set found =
      record { bytes = found.bytes; read = read_in spaces others (asked_of_set birth) block found.bytes same found.read; spelled = found.spelled }

  volume_in : (volume : VolumeSet) (birth : ℕ) (set : ObjectSet) → IsVolumeFound others volume birth set → IsVolumeFound spaces volume birth set
  volume_in volume birth set found =
      let object = found.has_object in
      let found_in = node_found_in spaces others same set (block_of volume).birth 1 (found_dnode object.0 object.1) object.2 in
      record {
        is_set = set_in birth (block_of volume) set found.is_set;
        kind = found.kind;
        shape = found.shape;
        has_object = (object.0, object.1, found_in, object.3);
        is_data = found.is_data;
      }

  demands_in : (set : ObjectSet) (birth : ℕ) (copies : SetCopies) (changes : List ObjectChange) (demands : List Demand)
      → AreDemandsOf others set birth copies changes demands → AreDemandsOf spaces set birth copies changes demands
  demands_in set birth copies [] demands are = are
  demands_in set birth copies (change ∷ changes) demands (dnode, rest, found, fits, are, is) =
      (dnode, rest, dnode_found_in spaces others same set birth change.number dnode found, fits, demands_in set birth copies changes rest are, is)

  pub all_demands_in : (set : ObjectSet) (birth : ℕ) (copies : SetCopies) (changes : List ObjectChange) (demands : List Demand)
      → HasDemands others set birth copies changes demands → HasDemands spaces set birth copies changes demands
  all_demands_in set birth copies changes demands has = record {
    of_objects = has.of_objects;
    are = demands_in set birth copies changes has.of_objects has.are;
    of_dnodes = has.of_dnodes;
    dnodes_are = has.dnodes_are;
    is = has.is;
  }

  pub set_demands_in : (set : ObjectSet) (birth : ℕ) (change : Change) (demands : List Demand) → HasSetDemands others set birth change demands → HasSetDemands spaces set birth change demands
  set_demands_in set birth change demands has =
      record { of_objects = has.of_objects; are = all_demands_in set birth (copies_of kinds.Volume) (data_change change) has.of_objects has.are; is = has.is }

  pub volume_demands_in : (group : ℕ) (written : WrittenHead) (demands : List Demand) → HasHeadDemands others group written demands → HasHeadDemands spaces group written demands
  volume_demands_in group written demands (inl none) = inl none
  volume_demands_in group written demands (inr (some, has)) =
      inr (
        some,
        record {
          set = has.set;
          is_set = volume_in written.volume group has.set has.is_set;
          are = set_demands_in has.set group _ demands has.are;
        },
      )

-- ---- a volume's blocks, where there are some

nothing_or_some : (blocks : List BlockWrite) → (blocks ≡ []) ⊎ (blocks ≢ [])
nothing_or_some [] = inl refl
nothing_or_some (block ∷ blocks) = inr (λ none. absurd (cc))

pub volume_places : (old new : Store) (group : ℕ) (written : WrittenHead) → (written.blocks.items ≡ [] → new ≡ old)
    → (written.blocks.items ≢ [] → HasPlaces old new written.volume group written.blocks)
    → (demands : List Demand) × HasHeadDemands old.spaces group written demands × HavePlaces old.spaces demands new.spaces
volume_places old new group written idle places = elim (nothing_or_some written.blocks.items) [
  | inl none ↦ ([], inl (none, refl), ap (λ (store : Store). store.spaces) (idle none))
  | inr some ↦
      let has = places some in
      (has.2.0, inr (some, record { set = has.0; is_set = has.1; are = has.2.1 }), has.2.2)
]
