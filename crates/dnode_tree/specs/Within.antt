-- Walks in which so many blocks may be read.
use Rattle.std.specs.Prelude.{ℕ, ◌≡◌, ◌⊎◌, ◌==◌, List, count_by, not}
use Rattle.block_pointer.specs.declared.block.Block.{Block}
use Rattle.block_store.specs.declared.refusal.Refusal.{Refusal}
use Rattle.block_store.specs.declared.refusal.Refusal.TheVariants.{BadPointer}
use Rattle.block_store.specs.Store.{Store}
use Rattle.dnode.specs.declared.node.ObjectNode.{ObjectNode}
use Rattle.dnode_tree.specs.Rewriting.{AreDistinct}
use Rattle.dnode_tree.specs.Tree.{property_of}
use Rattle.dnode_tree.specs.Ways.{root_of, AreWalked, IsWalkRefused}

-- how many of the blocks are above the data
abbrev pub indirect_count : List Block → ℕ
indirect_count blocks = count_by (λ block. not (block.property.level == 0)) blocks

-- why an object was not walked: as a walk is refused, or none was left to be read, or its blocks were walked and one is there twice
abbrev pub IsWithinRefused : Store → Store → List ℕ → ObjectNode → ℕ → ℕ → Refusal → Type 0
IsWithinRefused old new missing node birth left refusal =
    IsWalkRefused old new missing (property_of node) (root_of node birth) refusal
    ⊎ ((refusal ≡ BadPointer) × ((left ≡ 0) ⊎ ((blocks : List Block) × AreWalked old.spaces node birth blocks × ¬ AreDistinct blocks)))
