-- Blocks that one tree has and another hasn't.
use Rattle.std.specs.Prelude.{ℕ, ◌↔◌, List, Option, Contains}
use Rattle.block_pointer.specs.declared.block.Block.{Block}
use Rattle.dnode.specs.declared.node.ObjectNode.{ObjectNode}
use Rattle.block_store.specs.Blocks.{Contents, Extends}
use Rattle.dnode_tree.specs.declared.writes.CopyCounts.{CopyCounts}
use Rattle.dnode_tree.specs.declared.writes.Rewrite.{Rewrite}
use Rattle.dnode_tree.specs.Rewriting.{AreDistinct, IsRewritten}
use Rattle.dnode_tree.specs.Tree.{IsTree}

-- those blocks that are not among the others, each once
pub record AreOnlyIn (blocks others left : List Block) : Type 0 where
  pub which : (block : Block) → Contains left block ↔ (Contains blocks block × ¬ Contains others block)
  pub once : AreDistinct left

-- Where a tree has each block once, the blocks that a write names as replaced are those that the tree before has and the tree after
-- hasn't, and the tree after has each block once too.
abbrev pub ReplacedAreFreed : Type 0
ReplacedAreFreed =
    (copies : CopyCounts) (stored planned later : Contents) (bound birth : ℕ) (node : ObjectNode) (done : Rewrite) (array new_array : ℕ → Option (List ℕ)) (blocks : List Block)
    → IsTree stored bound node array blocks → Extends stored planned → AreDistinct blocks → (rewritten : IsRewritten copies planned later birth done new_array blocks)
    → AreOnlyIn blocks rewritten.blocks done.replaced.items × AreDistinct rewritten.blocks
