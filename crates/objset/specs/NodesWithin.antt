-- All objects of a set, from so many blocks as may be read.
use Rattle.std.specs.Prelude.{ℕ, ◌≡◌, ◌⊎◌, ◌*◌, ◌<◌, ◌++◌, List, [], ◌∷◌, Some, Contains}
use Rattle.std.specs.List.{flat_map, range_with_len}
use Rattle.block_pointer.specs.declared.block.Block.{Block}
use Rattle.block_store.specs.declared.block.Asked.{Asked}
use Rattle.block_store.specs.declared.refusal.Refusal.{Refusal}
use Rattle.block_store.specs.declared.refusal.Refusal.TheVariants.{NoMemory, BadPointer}
use Rattle.block_store.specs.Spaces.{VdevSpace}
use Rattle.block_store.specs.Reading.{IsReadable, IsReadAs, IsLastFault}
use Rattle.block_store.specs.Steps.{OnlyReadsBlocks}
use Rattle.block_store.specs.Store.{Store, outs}
use Rattle.dnode.specs.declared.dnode.Dnode.{Dnode}
use Rattle.dnode.specs.declared.dnode.Dnode.TheVariants.{Free, Object}
use Rattle.dnode.specs.declared.object_set.ObjectSet.{ObjectSet}
use Rattle.dnode_tree.specs.Ways.{AreWalked}
use Rattle.dnode_tree.specs.Within.{IsWithinRefused}
use Rattle.objset.specs.declared.node_walks.FoundNode.{FoundNode}
use Rattle.objset.specs.Nodes.{IsNodeIn, birth_of}

-- the object that a dnode is in use for, with the birth of the dnode's block
abbrev pub used : Dnode → ℕ → List FoundNode
used Free birth = []
used (Object node) birth = record { node = node; birth = birth } ∷ []

-- the objects of so many numbers from the first on, in order
abbrev pub objects_from : (ℕ → Dnode) → (ℕ → ℕ → ℕ) → ℕ → ℕ → List FoundNode
objects_from nodes births first count =
    flat_map (λ number. used (nodes number) (birth_of births number)) (range_with_len first count)

-- all objects of a set
abbrev pub objects_of : ObjectSet → (ℕ → Dnode) → (ℕ → ℕ → ℕ) → List FoundNode
objects_of set nodes births = objects_from nodes births 0 set.objects

-- those of one block of dnodes
unfoldable pub objects_in : (ℕ → Dnode) → (ℕ → ℕ → ℕ) → ℕ → List FoundNode
objects_in nodes births id = objects_from nodes births (32 * id) 32

-- what a pointer to a block of dnodes is asked: its birth was judged before
abbrev pub asked_of_nodes : Block → Asked
asked_of_nodes block =
    record { property = record { level = 0; object_type = 10; sectors = 32 }; birth = block.birth }

-- the bytes that were read for the pointer spell no dnode at a place
pub record HasNoNode (spaces : List VdevSpace) (block : Block) : Type 0 where
  pub bytes : List ℕ
  pub read : IsReadAs spaces (asked_of_nodes block) block bytes
  pub place : ℕ
  pub low : place < 32
  pub none : (node : Dnode) → ¬ IsNodeIn (Some bytes) place node

-- the object's dnode is at a place of the bytes, and the birth is that of their block
pub record IsNodeAt (bytes : List ℕ) (birth : ℕ) (it : FoundNode) : Type 0 where
  pub place : ℕ
  pub low : place < 32
  pub is_in : IsNodeIn (Some bytes) place (Object it.node)
  pub born : it.birth ≡ birth

-- it is in the block, as that was read
pub record IsNodeFrom (spaces : List VdevSpace) (block : Block) (it : FoundNode) : Type 0 where
  pub bytes : List ℕ
  pub read : IsReadAs spaces (asked_of_nodes block) block bytes
  pub at : IsNodeAt bytes block.birth it

-- it is in one of the blocks
pub record IsNodeOfOne (spaces : List VdevSpace) (blocks : List Block) (it : FoundNode) : Type 0 where
  pub block : Block
  pub is_one : Contains blocks block
  pub from : IsNodeFrom spaces block it

-- why a block of dnodes was not read: no more may be, or its pointer may not be, or it spells no
-- dnode at a place, or its last copy was at fault
abbrev pub IsBlockRefused : Store → Store → List ℕ → Block → ℕ → Refusal → Type 0
IsBlockRefused old new missing block left refusal =
    (refusal ≡ NoMemory)
    ⊎ (((refusal ≡ BadPointer) × ((left ≡ 0)
    ⊎ ((¬ IsReadable old.spaces (asked_of_nodes block) block) ⊎ HasNoNode old.spaces block)))
    ⊎ IsLastFault old new (outs old ++ missing) block refusal)

-- the blocks of the dnodes were walked, and one of them was refused behind other reads
pub record IsOneRefused (old new : Store) (missing : List ℕ) (set : ObjectSet) (birth left : ℕ)
    (refusal : Refusal) : Type 0 where
  pub blocks : List Block
  pub walked : AreWalked old.spaces set.dnodes birth blocks
  pub block : Block
  pub is_one : Contains blocks block
  pub data_level : block.property.level ≡ 0
  pub mid : Store
  pub before : OnlyReadsBlocks old mid missing
  pub why : IsBlockRefused mid new missing block left refusal

-- why the objects of a set were not found: the walk over the blocks of the dnodes was refused, or
-- one of these
abbrev pub AreNodesRefused : Store → Store → List ℕ → ObjectSet → ℕ → ℕ → Refusal → Type 0
AreNodesRefused old new missing set birth left refusal =
    IsWithinRefused old new missing set.dnodes birth left refusal
    ⊎ IsOneRefused old new missing set birth left refusal
