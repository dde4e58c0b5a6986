-- All blocks of a set, of which so many may be read.
use Rattle.std.specs.Prelude.{ℕ, ◌≡◌, ◌⊎◌, ◌+◌, ◌++◌, List, length}
use Rattle.std.specs.List.{flat_map, range_with_len}
use Rattle.block_pointer.specs.declared.block.Block.{Block}
use Rattle.block_store.specs.declared.refusal.Refusal.{Refusal}
use Rattle.block_store.specs.declared.refusal.Refusal.TheVariants.{NoMemory, BadPointer}
use Rattle.block_store.specs.Spaces.{VdevSpace}
use Rattle.block_store.specs.Steps.{OnlyReadsBlocks}
use Rattle.block_store.specs.Store.{Store}
use Rattle.dnode.specs.declared.object_set.ObjectSet.{ObjectSet}
use Rattle.objset.specs.declared.node_walks.FoundNode.{FoundNode}
use Rattle.objset.specs.NodesWithin.{IsNodeOfOne, AreNodesRefused}
use Rattle.dnode_tree.specs.Rewriting.{AreDistinct}
use Rattle.dnode_tree.specs.Ways.{AreWalked}
use Rattle.dnode_tree.specs.Within.{indirect_count, IsWithinRefused}

-- the blocks of all objects of a set, by their numbers
abbrev pub blocks_of_objects : ObjectSet → (ℕ → List Block) → List Block
blocks_of_objects set blocks = flat_map blocks (range_with_len 0 set.objects)

-- all blocks of a set: first those of its dnodes
abbrev pub blocks_of_set : ObjectSet → List Block → (ℕ → List Block) → List Block
blocks_of_set set own blocks = own ++ blocks_of_objects set blocks

-- how many of them are read: those of the dnodes, and of the objects' those above the data
abbrev pub reads_of : List Block → List Block → ℕ
reads_of own below = length own + indirect_count below

-- the blocks of the dnodes were walked, and behind them others, by so many reads
pub record IsSetWalked (spaces : List VdevSpace) (set : ObjectSet) (birth before after : ℕ)
    (found : List Block) : Type 0 where
  pub own : List Block
  pub below : List Block
  pub are : found ≡ own ++ below
  pub walked : AreWalked spaces set.dnodes birth own
  pub count : before ≡ after + reads_of own below

-- the blocks of the dnodes were walked, and an object was found in one of them; the walk over it was
-- refused, behind other reads
pub record IsObjectWithinRefused (old new : Store) (missing : List ℕ) (set : ObjectSet)
    (birth left : ℕ) (refusal : Refusal) : Type 0 where
  pub own : List Block
  pub walked : AreWalked old.spaces set.dnodes birth own
  pub it : FoundNode
  pub from : IsNodeOfOne old.spaces own it
  pub mid : Store
  pub before : OnlyReadsBlocks old mid missing
  pub why : IsWithinRefused mid new missing it.node it.birth left refusal

-- some blocks were walked, and one is there twice
pub record IsSetTwice (spaces : List VdevSpace) (set : ObjectSet) (birth before after : ℕ) : Type 0 where
  pub found : List Block
  pub walked : IsSetWalked spaces set birth before after found
  pub twice : ¬ AreDistinct found

-- why a set was not walked, by what was left before and after: its dnodes were refused, or the walk
-- over an object, or a block is there twice
abbrev pub IsSetWalkRefused :
    Store → Store → List ℕ → ObjectSet → ℕ → ℕ → ℕ → Refusal → Type 0
IsSetWalkRefused old new missing set birth before after refusal =
    (refusal ≡ NoMemory)
    ⊎ (AreNodesRefused old new missing set birth after refusal
    ⊎ (IsObjectWithinRefused old new missing set birth after refusal
    ⊎ ((refusal ≡ BadPointer) × IsSetTwice old.spaces set birth before after)))
