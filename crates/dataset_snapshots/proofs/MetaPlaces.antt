-- The blocks of the meta object set take places in the meta regions alone.
use Rattle.std.proofs.Common.{◌≡◌, ℕ, Bool, true, false, cond, List, [], ◌∷◌, refl, sym, subst}
use Rattle.std.specs.Prelude.{All, ◌==◌}
use Rattle.std.proofs.lemmas.List.Elements.{All-append, All-cons, All-head, All-nil, All-tail}
use Rattle.block_store.specs.Demands.{Demand, HavePlaces}
use Rattle.block_store.specs.Spaces.{VdevSpace}
use Rattle.block_store.specs.Steps.{HavePlaced, Placed}
use Rattle.block_store.specs.Store.{Store}
use Rattle.dnode.specs.declared.dnode.Dnode.{Dnode}
use Rattle.dnode.specs.declared.dnode.Dnode.TheVariants.{Free as NoObject, Object as Node}
use Rattle.dnode.specs.declared.node.ObjectNode.{ObjectNode}
use Rattle.dnode.specs.declared.object_set.ObjectSet.{ObjectSet}
use Rattle.dnode.specs.declared.object_set.ObjectSetKind.TheVariants as kinds
use Rattle.dnode_tree.specs.declared.writes.BlockWrite.{BlockWrite}
use Rattle.dnode_tree.specs.Spots.{Spot, demand_at, demands_at, demands_of, spots_of}
use Rattle.objset.specs.declared.changes.Change.{Change}
use Rattle.objset.specs.declared.changes.Change.TheVariants.{Create, Put, Free, Replace}
use Rattle.objset.specs.declared.changes.ObjectChange.{ObjectChange}
use Rattle.objset.specs.Changes.{copies_of, object_copies}
use Rattle.objset.specs.Demands.{AreDemandsOf, demands_of_change, empty_node}
use Rattle.pool_maps.proofs.Besides.{placed_in_meta}
use Rattle.pool_maps.specs.Beside.{AreSameBefore}
use Rattle.dataset_snapshots.specs.Demands.{HasRootPlaces, demand_of_root}

abbrev HasThree : Demand → Type 0
HasThree demand = demand.copies ≡ 3

-- ---- each block of it asks three copies

either : (test : Bool) → let three : ℕ = 3 in cond test three three ≡ three
either true = refl
either false = refl

at_spots : (node : ObjectNode) (spots : List Spot) → All HasThree (demands_at node (object_copies (copies_of kinds.Meta)) spots)
at_spots node [] = All-nil HasThree
at_spots node (spot ∷ spots) =
    All-cons HasThree (demand_at node (object_copies (copies_of kinds.Meta)) spot.level) (demands_at node (object_copies (copies_of kinds.Meta)) spots)
    (either (spot.level == 0)) (at_spots node spots)

of_writes : (node : ObjectNode) (writes : List BlockWrite) → All HasThree (demands_of node (object_copies (copies_of kinds.Meta)) writes)
of_writes node writes = at_spots node (spots_of node writes)

of_change : (change : Change) (dnode : Dnode) → All HasThree (demands_of_change (copies_of kinds.Meta) change dnode)
of_change (Create object_type sectors writes) dnode = of_writes (empty_node object_type sectors) writes.items
of_change (Put writes) (Node node) = of_writes node writes.items
of_change (Put writes) NoObject = All-nil HasThree
of_change (Replace writes) (Node node) = of_writes (empty_node node.object_type node.data_sectors) writes.items
of_change (Replace writes) NoObject = All-nil HasThree
of_change Free dnode = All-nil HasThree

of_changes : (spaces : List VdevSpace) (set : ObjectSet) (group : ℕ) (changes : List ObjectChange) (demands : List Demand)
    → AreDemandsOf spaces set group (copies_of kinds.Meta) changes demands → All HasThree demands
of_changes spaces set group [] demands are = subst (All HasThree) (sym are) (All-nil HasThree)
of_changes spaces set group (change ∷ changes) demands (dnode, rest, found, fits, later, is) =
    subst (All HasThree) (sym is)
    (All-append HasThree (demands_of_change (copies_of kinds.Meta) change.change dnode) rest (of_change change.change dnode) (of_changes spaces set group changes rest later))

-- ---- so they take nothing before the meta regions

-- the blocks that these places were taken for, each of three copies
placed_for : (before after : List VdevSpace) (demands : List Demand) → All HasThree demands → HavePlaces before demands after
    → (placed : List Placed) × All (λ (block : Placed). block.copies ≡ 3) placed × HavePlaced before placed after
placed_for before after [] three have = ([], All-nil (λ (block : Placed). block.copies ≡ 3), have)
placed_for before after (demand ∷ demands) three (places, mid, count, chosen, have) =
    let first = All-head HasThree demand demands three in
    let block : Placed = record { sectors = demand.sectors; copies = demand.copies; birth = 0; places = places } in
    let rest = placed_for mid after demands (All-tail HasThree demand demands three) have in
    (block ∷ rest.0, All-cons (λ (b : Placed). b.copies ≡ 3) block rest.0 first rest.1, (mid, chosen, rest.2))

pub root_places_same : (old new : Store) (set : ObjectSet) (group : ℕ) (changes : List ObjectChange) → HasRootPlaces old new set group changes → AreSameBefore old.spaces new.spaces
root_places_same old new set group changes (demands, asks, have) =
    let of_dnodes : List Demand = asks.are.of_dnodes in
    let three_dnodes = subst (All HasThree) (sym asks.are.dnodes_are.demands_are) (of_writes set.dnodes asks.are.dnodes_are.blocks) in
    let three_objects = subst (All HasThree) (sym asks.are.is)
    (All-append HasThree asks.are.of_objects of_dnodes (of_changes old.spaces set group changes asks.are.of_objects asks.are.are) three_dnodes) in
    let three = subst (All HasThree) (sym asks.is)
    (All-append HasThree asks.of_objects (demand_of_root ∷ []) three_objects (All-cons HasThree demand_of_root [] refl (All-nil HasThree))) in
    let placed = placed_for old.spaces new.spaces demands three have in
    placed_in_meta old.spaces new.spaces placed.0 placed.1 placed.2
