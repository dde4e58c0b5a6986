-- The objects of a set whose dnodes stand in blocks that were born after a transaction group.
use Rattle.std.specs.Prelude.{ℕ, ◌≡◌, ◌⊎◌, nat_lt, filter, List, Contains}
use Rattle.block_pointer.specs.declared.block.Block.{Block}
use Rattle.block_store.specs.declared.refusal.Refusal.{Refusal}
use Rattle.block_store.specs.Steps.{OnlyReadsBlocks}
use Rattle.block_store.specs.Store.{Store}
use Rattle.dnode.specs.declared.object_set.ObjectSet.{ObjectSet}
use Rattle.dnode_tree.specs.Younger.{is_younger, AreWalkedWhere, IsWithinRefusedWhere}
use Rattle.objset.specs.declared.node_walks.FoundNode.{FoundNode}
use Rattle.objset.specs.NodesWithin.{IsBlockRefused}

-- those of the objects whose dnode's block was born after the group
abbrev pub younger_nodes : ℕ → List FoundNode → List FoundNode
younger_nodes since nodes = filter (λ it. nat_lt since it.birth) nodes

-- the younger blocks of the dnodes were walked, and one of them was refused behind other reads
pub record IsOneYoungerRefused (since : ℕ) (old new : Store) (missing : List ℕ) (set : ObjectSet)
    (birth left : ℕ) (refusal : Refusal) : Type 0 where
  pub blocks : List Block
  pub walked : AreWalkedWhere (is_younger since) old.spaces set.dnodes birth blocks
  pub block : Block
  pub is_one : Contains blocks block
  pub data_level : block.property.level ≡ 0
  pub mid : Store
  pub before : OnlyReadsBlocks old mid missing
  pub why : IsBlockRefused mid new missing block left refusal

-- why the objects were not found: the walk over the younger blocks of the dnodes was refused, or one of
-- these
abbrev pub AreYoungerRefused : ℕ → Store → Store → List ℕ → ObjectSet → ℕ → ℕ → Refusal → Type 0
AreYoungerRefused since old new missing set birth left refusal =
    IsWithinRefusedWhere (is_younger since) old new missing set.dnodes birth left refusal
    ⊎ IsOneYoungerRefused since old new missing set birth left refusal
