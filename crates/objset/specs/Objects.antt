-- The objects of a set, by number.
use Rattle.std.specs.Prelude.{ℕ, ◌≡◌, ◌<◌, List, [], Option, Some, None}
use Rattle.block_pointer.specs.declared.block.Block.{Block}
use Rattle.block_store.specs.Blocks.{Contents}
use Rattle.dnode.specs.declared.dnode.Dnode.{Dnode}
use Rattle.dnode.specs.declared.dnode.Dnode.TheVariants.{Free, Object as Node}
use Rattle.dnode.specs.declared.object_set.ObjectSet.{ObjectSet}
use Rattle.objset.specs.Nodes.{HasNodes, birth_of}
use Rattle.dnode_tree.specs.Tree.{IsTree}

-- what an object reads as: its highest block id, and the bytes of each data block, none at a hole
pub record Object : Type 0 where
  pub object_type : ℕ
  pub data_sectors : ℕ
  pub highest : ℕ
  pub array : ℕ → Option (List ℕ)

-- the object reads as nothing behind its highest block id
abbrev pub EndsAt : Object → Type 0
EndsAt object = (id : ℕ) → object.highest < id → object.array id ≡ None

-- the dnode is that of the object, and these are the object's blocks; a free dnode has no object
abbrev pub IsObject : Contents → ℕ → Dnode → Option Object → List Block → Type 0
IsObject stored birth Free object blocks = (object ≡ None) × (blocks ≡ [])
IsObject stored birth (Node node) None blocks = ⊥
IsObject stored birth (Node node) (Some object) blocks =
    (object.object_type ≡ node.object_type) × (object.data_sectors ≡ node.data_sectors) × (object.highest ≡ node.highest)
    × IsTree stored birth node object.array blocks

-- The set's objects by number, the blocks of its dnodes, and the blocks of each object: these were born in the group of the block that has
-- its dnode, or before.
pub record AreObjects (stored : Contents) (birth : ℕ) (set : ObjectSet) (objects : ℕ → Option Object) (own : List Block) (blocks : ℕ → List Block) : Type 0 where
  pub nodes : ℕ → Dnode
  pub dnodes : HasNodes stored birth set nodes own
  pub each : (number : ℕ) → IsObject stored (birth_of dnodes.births number) (nodes number) (objects number) (blocks number)
