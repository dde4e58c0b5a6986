-- The tree of an object.
use Rattle.std.specs.Prelude.{ℕ, ◌≡◌, ◌-◌, ◌<◌, ◌==◌, cond, List, Option, None}
use Rattle.block_pointer.specs.declared.block.Block.{Block}
use Rattle.block_pointer.specs.declared.property.Property.{Property}
use Rattle.dnode.specs.declared.node.ObjectNode.{ObjectNode}
use Rattle.dnode.specs.Levels.{levels_of}
use Rattle.block_store.specs.Blocks.{Contents}
use Rattle.dnode_tree.specs.declared.subtree.Subtree.{Subtree}
use Rattle.dnode_tree.specs.Subtree.{IsSubtree}

-- the property of an object's blocks: data blocks at level 0, and indirect blocks above
abbrev pub property_of : ObjectNode → ℕ → Property
property_of node level =
    record { level = level; object_type = node.object_type; sectors = cond (level == 0) node.data_sectors 32 }

-- a part of the object's tree
abbrev pub IsPart : Contents → ObjectNode → ℕ → Subtree → (ℕ → Option (List ℕ)) → List Block → Type 0
IsPart stored node first part array blocks =
    IsSubtree stored (property_of node) part.level first part.birth part.pointer array blocks

-- The object's tree, born by then, reads as the array, and these are its blocks, each before those below it. What is behind the
-- highest id reads as nothing.
pub record IsTree (stored : Contents) (birth : ℕ) (node : ObjectNode) (array : ℕ → Option (List ℕ)) (blocks : List Block) : Type 0 where
  pub root : IsSubtree stored (property_of node) (levels_of node.highest - 1) 0 birth node.pointer array blocks
  pub behind : (id : ℕ) → node.highest < id → array id ≡ None
