-- Why changes of objects are refused.
use Rattle.std.specs.Prelude.{ℕ, ◌≡◌, ◌⊎◌, List, map, Any}
use Rattle.block_store.specs.declared.refusal.Refusal.{Refusal}
use Rattle.block_store.specs.declared.refusal.Refusal.TheVariants.{BadPointer}
use Rattle.block_store.specs.Steps.{OnlyReadsAndPlans}
use Rattle.block_store.specs.Store.{Store}
use Rattle.dnode.specs.declared.dnode.Dnode.{Dnode}
use Rattle.dnode.specs.declared.dnode.Dnode.TheVariants.{Object as Node}
use Rattle.dnode.specs.declared.object_set.ObjectSet.{ObjectSet}
use Rattle.objset.specs.Found.{IsBornBy, IsDnodeFound, IsDnodeLate}
use Rattle.objset.specs.NodesRefused.{IsNodeWriteRefused}
use Rattle.dnode_tree.specs.Refused.{IsWriteRefused}
use Rattle.dnode_tree.specs.Tree.{property_of}
use Rattle.dnode_tree.specs.Ways.{root_of, IsWalkRefused}
use Rattle.objset.specs.declared.changes.Change.{Change}
use Rattle.objset.specs.declared.changes.Change.TheVariants.{Put, Free, Replace}
use Rattle.objset.specs.declared.changes.ObjectChange.{ObjectChange}
use Rattle.objset.specs.Demands.{FitsChange}

-- The object's tree was refused: the way to a block that is written, or the walk of an object that
-- goes. An object that is created has no tree yet.
abbrev pub IsTreeRefused : Store → Store → List ℕ → ℕ → Change → Dnode → Refusal → Type 0
IsTreeRefused old new missing birth (Put writes) (Node node) refusal =
    IsWriteRefused old new missing node birth writes.items refusal
IsTreeRefused old new missing birth Free (Node node) refusal =
    IsWalkRefused old new missing (property_of node) (root_of node birth) refusal
IsTreeRefused old new missing birth (Replace writes) (Node node) refusal =
    IsWalkRefused old new missing (property_of node) (root_of node birth) refusal
IsTreeRefused old new missing birth change dnode refusal = ⊥

-- the object's dnode was found, and the change doesn't fit it, or the object's tree was refused,
-- behind reads and blocks that were planned
pub record IsObjectRefused (old new : Store) (missing : List ℕ) (set : ObjectSet) (birth : ℕ)
    (change : ObjectChange) (refusal : Refusal) : Type 0 where
  pub dnode : Dnode
  pub found : IsDnodeFound old.spaces set birth change.number dnode
  pub mid : Store
  pub before : OnlyReadsAndPlans old mid missing
  pub why : ((refusal ≡ BadPointer) × ¬ FitsChange change.change dnode)
      ⊎ IsTreeRefused mid new missing birth change.change dnode refusal

-- a block of dnodes that one of the changed objects has its dnode in was refused, or one of the
-- changes was, or one of the objects was born after its dnode
abbrev pub AreObjectsRefused :
    Store → Store → List ℕ → ObjectSet → ℕ → List ObjectChange → Refusal → Type 0
AreObjectsRefused old new missing set birth changes refusal =
    IsNodeWriteRefused old new missing set birth (map (λ change. change.number) changes) refusal
    ⊎ (Any (λ change. IsObjectRefused old new missing set birth change refusal) changes
    ⊎ ((refusal ≡ BadPointer)
    × Any (λ change. IsDnodeLate old.spaces set birth change.number) changes))

-- what the set leads to was born after the block that leads to it, or that was refused
abbrev pub IsChangeRefused :
    Store → Store → List ℕ → ObjectSet → ℕ → ℕ → List ObjectChange → Refusal → Type 0
IsChangeRefused old new missing set before birth changes refusal =
    ((refusal ≡ BadPointer) × ¬ IsBornBy before set.dnodes.pointer)
    ⊎ AreObjectsRefused old new missing set birth changes refusal
