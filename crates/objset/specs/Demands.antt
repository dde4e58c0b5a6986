-- What changes of objects ask places for.
use Rattle.std.specs.Prelude.{ℕ, ◌≡◌, ◌≢◌, ◌⊎◌, List, [], ◌∷◌, ◌++◌, map, IsSomeAnd}
use Rattle.block_pointer.specs.declared.pointer.BlockPtr.TheVariants.{Hole}
use Rattle.block_store.specs.Spaces.{VdevSpace}
use Rattle.block_store.specs.Demands.{Demand, LackPlaces}
use Rattle.block_store.specs.Store.{Store}
use Rattle.dnode.specs.declared.dnode.Dnode.{Dnode}
use Rattle.dnode.specs.declared.dnode.Dnode.TheVariants.{Free as NoObject, Object as Node}
use Rattle.dnode.specs.declared.node.ObjectNode.{ObjectNode}
use Rattle.dnode.specs.declared.object_set.ObjectSet.{ObjectSet}
use Rattle.objset.specs.Found.{IsDnodeFound}
use Rattle.objset.specs.NodeWrites.{AreNodeDemands}
use Rattle.dnode_tree.specs.Spots.{demands_of}
use Rattle.objset.specs.declared.changes.Change.{Change}
use Rattle.objset.specs.declared.changes.Change.TheVariants.{Create, Put, Free, Replace}
use Rattle.objset.specs.declared.changes.ObjectChange.{ObjectChange}
use Rattle.objset.specs.declared.changes.SetCopies.{SetCopies}
use Rattle.objset.specs.Changes.{AreWhole, object_copies, dnode_copies}
use Rattle.objset.specs.Shapes.{shape_of_dnode}

-- The change may be made of what the dnode is in use for: an object is created where there is none,
-- and written (whole blocks), freed or replaced (by whole blocks) where there is one.
abbrev pub FitsChange : Change → Dnode → Type 0
FitsChange (Create object_type sectors writes) dnode = dnode ≡ NoObject
FitsChange (Put writes) dnode =
    IsSomeAnd (shape_of_dnode dnode) (λ shape. AreWhole shape.data_sectors writes.items)
FitsChange Free dnode = dnode ≢ NoObject
FitsChange (Replace writes) dnode =
    IsSomeAnd (shape_of_dnode dnode) (λ shape. AreWhole shape.data_sectors writes.items)

-- an object of that type and block size that has no block
abbrev pub empty_node : ℕ → ℕ → ObjectNode
empty_node object_type sectors =
    record { object_type = object_type; data_sectors = sectors; highest = 0; pointer = Hole }

-- what the blocks of an object ask that are planned anew by its change, from the dnode that it had
abbrev pub demands_of_change : SetCopies → Change → Dnode → List Demand
demands_of_change copies (Create object_type sectors writes) dnode =
    demands_of (empty_node object_type sectors) (object_copies copies) writes.items
demands_of_change copies (Put writes) (Node node) =
    demands_of node (object_copies copies) writes.items
demands_of_change copies (Replace writes) (Node node) =
    demands_of (empty_node node.object_type node.data_sectors) (object_copies copies) writes.items
demands_of_change copies change dnode = []

-- each of the changes fits the dnode that was found of its object, and these are asked by them, one
-- after the other
abbrev pub AreDemandsOf :
    List VdevSpace → ObjectSet → ℕ → SetCopies → List ObjectChange → List Demand → Type 0
AreDemandsOf spaces set birth copies [] demands = demands ≡ []
AreDemandsOf spaces set birth copies (change ∷ changes) demands =
    (dnode : Dnode) × (rest : List Demand)
    × IsDnodeFound spaces set birth change.number dnode × FitsChange change.change dnode
    × AreDemandsOf spaces set birth copies changes rest
    × (demands ≡ demands_of_change copies change.change dnode ++ rest)

-- what the changes ask, and then the blocks of the dnodes
pub record HasDemands (spaces : List VdevSpace) (set : ObjectSet) (birth : ℕ) (copies : SetCopies)
    (changes : List ObjectChange) (demands : List Demand) : Type 0 where
  pub of_objects : List Demand
  pub are : AreDemandsOf spaces set birth copies changes of_objects
  pub of_dnodes : List Demand
  pub dnodes_are : AreNodeDemands set (dnode_copies copies) (map (λ change. change.number) changes)
      of_dnodes
  pub is : demands ≡ of_objects ++ of_dnodes

-- what the first of the changes ask, where the dnodes of later ones were not read
pub record HasFirstDemands (spaces : List VdevSpace) (set : ObjectSet) (birth : ℕ)
    (copies : SetCopies) (changes : List ObjectChange) (demands : List Demand) : Type 0 where
  pub first : List ObjectChange
  pub later : List ObjectChange
  pub changes_are : changes ≡ first ++ later
  pub are : AreDemandsOf spaces set birth copies first demands

-- no free place was left for a copy of one of the blocks that are asked: of those of the first of
-- the changes, or of those of the dnodes, behind all of them
pub record LacksRoom (old new : Store) (set : ObjectSet) (birth : ℕ) (copies : SetCopies)
    (changes : List ObjectChange) : Type 0 where
  pub demands : List Demand
  pub are : HasFirstDemands old.spaces set birth copies changes demands
      ⊎ HasDemands old.spaces set birth copies changes demands
  pub lack : LackPlaces old.spaces demands new.spaces
