-- What was read of an object, whether or not the set is whole.
use Rattle.std.specs.Prelude.{ℕ, ◌≡◌, ◌⊎◌, ◌≤◌, List, Option}
use Rattle.block_pointer.specs.declared.pointer.BlockPtr.{BlockPtr}
use Rattle.block_pointer.specs.declared.pointer.BlockPtr.TheVariants.{Hole, Block as At}
use Rattle.block_store.specs.declared.refusal.Refusal.{Refusal}
use Rattle.block_store.specs.declared.refusal.Refusal.TheVariants.{BadPointer}
use Rattle.block_store.specs.Spaces.{VdevSpace}
use Rattle.block_store.specs.Steps.{OnlyReadsBlocks}
use Rattle.block_store.specs.Store.{Store}
use Rattle.dnode.specs.declared.dnode.Dnode.{Dnode}
use Rattle.dnode.specs.declared.dnode.Dnode.TheVariants.{Free, Object as Node}
use Rattle.dnode.specs.declared.node.ObjectNode.{ObjectNode}
use Rattle.dnode.specs.declared.object_set.ObjectSet.{ObjectSet}
use Rattle.dnode_tree.specs.Tree.{property_of}
use Rattle.dnode_tree.specs.Ways.{root_of, IsFound, IsRefused, IsWalkRefused}
use Rattle.objset.specs.NodesFound.{found_dnode, IsNodeFound, IsNodeRefused}

-- the pointer leads to nothing, or to a block that was born by then
abbrev pub IsBornBy : ℕ → BlockPtr → Type 0
IsBornBy birth Hole = Unit {0}
IsBornBy birth (At block) = block.birth ≤ birth

-- so it is of the root that a dnode leads to
abbrev pub IsDnodeBornBy : ℕ → Dnode → Type 0
IsDnodeBornBy birth Free = Unit {0}
IsDnodeBornBy birth (Node node) = IsBornBy birth node.pointer

-- the dnode was read, and what it leads to was born by the birth of its block
abbrev pub IsDnodeFound : List VdevSpace → ObjectSet → ℕ → ℕ → Dnode → Type 0
IsDnodeFound spaces set birth number dnode =
    (block_birth : ℕ) × IsNodeFound spaces set birth number (found_dnode dnode block_birth)
    × IsDnodeBornBy block_birth dnode

-- the dnode was read, and what it leads to was born after its block
abbrev pub IsDnodeLate : List VdevSpace → ObjectSet → ℕ → ℕ → Type 0
IsDnodeLate spaces set birth number =
    (dnode : Dnode) × (block_birth : ℕ)
    × IsNodeFound spaces set birth number (found_dnode dnode block_birth)
    × ¬ IsDnodeBornBy block_birth dnode

-- The object's dnode was read, and behind it the data block, or a hole. What the dnode points to was born by the birth of the dnode's block.
pub record IsDataFound (spaces : List VdevSpace) (set : ObjectSet) (birth number id : ℕ) (found : Option (List ℕ)) : Type 0 where
  pub node : ObjectNode
  pub block_birth : ℕ
  pub has_node : IsNodeFound spaces set birth number (found_dnode (Node node) block_birth)
  pub is : IsFound spaces node block_birth id found

-- the object's dnode was read, and the cause is on the way from it
pub record IsDataLost (old new : Store) (missing : List ℕ) (set : ObjectSet) (birth number id : ℕ) (refusal : Refusal) : Type 0 where
  pub node : ObjectNode
  pub block_birth : ℕ
  pub has_node : IsNodeFound old.spaces set birth number (found_dnode (Node node) block_birth)
  pub mid : Store
  pub before : OnlyReadsBlocks old mid missing
  pub why : IsRefused mid new missing node block_birth id refusal

-- why a data block of an object was not read: its dnode was not, or is free, or the cause is on the way from it
abbrev pub IsDataRefused : Store → Store → List ℕ → ObjectSet → ℕ → ℕ → ℕ → Refusal → Type 0
IsDataRefused old new missing set birth number id refusal =
    IsNodeRefused old new missing set birth number refusal
    ⊎ (((refusal ≡ BadPointer) × (block_birth : ℕ) × IsNodeFound old.spaces set birth number (found_dnode Free block_birth))
    ⊎ IsDataLost old new missing set birth number id refusal)

-- the object's dnode was read, and the walk from it was refused
pub record IsObjectWalkLost (old new : Store) (missing : List ℕ) (set : ObjectSet)
    (birth number : ℕ) (refusal : Refusal) : Type 0 where
  pub node : ObjectNode
  pub block_birth : ℕ
  pub has_node : IsNodeFound old.spaces set birth number (found_dnode (Node node) block_birth)
  pub mid : Store
  pub before : OnlyReadsBlocks old mid missing
  pub why : IsWalkRefused mid new missing (property_of node) (root_of node block_birth) refusal

-- why the blocks of an object were not walked: its dnode was not read, or is free, or the walk
-- from it was refused
abbrev pub IsObjectWalkRefused : Store → Store → List ℕ → ObjectSet → ℕ → ℕ → Refusal → Type 0
IsObjectWalkRefused old new missing set birth number refusal =
    IsNodeRefused old new missing set birth number refusal
    ⊎ (((refusal ≡ BadPointer) × (block_birth : ℕ)
    × IsNodeFound old.spaces set birth number (found_dnode Free block_birth))
    ⊎ IsObjectWalkLost old new missing set birth number refusal)
