-- The blocks of a set that were born after a transaction group, of which so many may be read.
use Rattle.std.specs.Prelude.{ℕ, ◌≡◌, ◌⊎◌, ◌+◌, ◌++◌, List}
use Rattle.block_pointer.specs.declared.block.Block.{Block}
use Rattle.block_store.specs.declared.refusal.Refusal.{Refusal}
use Rattle.block_store.specs.declared.refusal.Refusal.TheVariants.{NoMemory, BadPointer}
use Rattle.block_store.specs.Spaces.{VdevSpace}
use Rattle.block_store.specs.Steps.{OnlyReadsBlocks}
use Rattle.block_store.specs.Store.{Store}
use Rattle.dnode.specs.declared.object_set.ObjectSet.{ObjectSet}
use Rattle.objset.specs.declared.node_walks.FoundNode.{FoundNode}
use Rattle.objset.specs.NodesWithin.{IsNodeOfOne}
use Rattle.objset.specs.NodesYounger.{AreYoungerRefused}
use Rattle.dnode_tree.specs.Rewriting.{AreDistinct}
use Rattle.dnode_tree.specs.Younger.{is_younger, AreWalkedWhere, IsWithinRefusedWhere}
use Rattle.objset.specs.Within.{reads_of}

-- the younger blocks of the dnodes were walked, and behind them others, by so many reads
pub record IsYoungerSetWalked (since : ℕ) (spaces : List VdevSpace) (set : ObjectSet)
    (birth before after : ℕ) (found : List Block) : Type 0 where
  pub own : List Block
  pub below : List Block
  pub are : found ≡ own ++ below
  pub walked : AreWalkedWhere (is_younger since) spaces set.dnodes birth own
  pub count : before ≡ after + reads_of own below

-- the younger blocks of the dnodes were walked, and an object was found in one of them; the walk over
-- its younger blocks was refused, behind other reads
pub record IsYoungerObjectRefused (since : ℕ) (old new : Store) (missing : List ℕ) (set : ObjectSet)
    (birth left : ℕ) (refusal : Refusal) : Type 0 where
  pub own : List Block
  pub walked : AreWalkedWhere (is_younger since) old.spaces set.dnodes birth own
  pub it : FoundNode
  pub from : IsNodeOfOne old.spaces own it
  pub mid : Store
  pub before : OnlyReadsBlocks old mid missing
  pub why : IsWithinRefusedWhere (is_younger since) mid new missing it.node it.birth left refusal

-- some blocks were walked, and one is there twice
pub record IsYoungerSetTwice (since : ℕ) (spaces : List VdevSpace) (set : ObjectSet)
    (birth before after : ℕ) : Type 0 where
  pub found : List Block
  pub walked : IsYoungerSetWalked since spaces set birth before after found
  pub twice : ¬ AreDistinct found

-- why the younger blocks of a set were not walked, by what was left before and after: its dnodes were
-- refused, or the walk over an object, or a block is there twice
abbrev pub IsYoungerSetRefused :
    ℕ → Store → Store → List ℕ → ObjectSet → ℕ → ℕ → ℕ → Refusal → Type 0
IsYoungerSetRefused since old new missing set birth before after refusal =
    (refusal ≡ NoMemory)
    ⊎ (AreYoungerRefused since old new missing set birth after refusal
    ⊎ (IsYoungerObjectRefused since old new missing set birth after refusal
    ⊎ ((refusal ≡ BadPointer) × IsYoungerSetTwice since old.spaces set birth before after)))
