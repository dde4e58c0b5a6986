-- The 512 bytes of an object's dnode.
use Rattle.std.specs.Prelude.{◌≡◌, ◌==◌, ℕ, ◌+◌, ◌^◌, ◌<◌, ◌≤◌, cond, List, [], ◌∷◌, ◌++◌, replicate}
use Rattle.words.specs.Words.{word_bytes}
use Rattle.block_pointer.specs.declared.property.Property.{Property}
use Rattle.block_pointer.specs.declared.pointer.BlockPtr.{BlockPtr}
use Rattle.block_pointer.specs.declared.pointer.BlockPtr.TheVariants.{Hole, Block}
use Rattle.block_pointer.specs.Pointer.{Fits, spelling}
use Rattle.dnode.specs.declared.node.ObjectNode.{ObjectNode}
use Rattle.dnode.specs.Levels.{levels_of}

-- the size of the block that the tree begins at: a data block, or above the data an indirect one
abbrev pub root_sectors : ObjectNode → ℕ
root_sectors n = cond (levels_of n.highest == 1) n.data_sectors 32

-- a block with this property can be the one that the object's tree begins at
pub record IsRoot (n : ObjectNode) (p : Property) : Type 0 where
  pub level : p.level + 1 ≡ levels_of n.highest
  pub object_type : p.object_type ≡ n.object_type
  pub sectors : p.sectors ≡ root_sectors n

-- the pointer is a hole, or the block's property is one that the object's tree can begin at
abbrev pub PointsToRoot : ObjectNode → BlockPtr → Type 0
PointsToRoot n Hole = Unit {0}
PointsToRoot n (Block b) = IsRoot n b.property

-- the numbers are those of an object, and the pointer is that of its tree
pub record IsNode (n : ObjectNode) : Type 0 where
  pub used : 0 < n.object_type
  pub object_type : n.object_type < 2 ^ 8
  pub not_empty : 0 < n.data_sectors
  pub sectors : n.data_sectors ≤ 256
  pub highest : n.highest < 128 ^ 5
  pub root : PointsToRoot n n.pointer

-- what has a spelling
abbrev pub FitsNode : ObjectNode → Type 0
FitsNode n = IsNode n × Fits n.pointer

-- the type, the indirect block shift, the levels, the number of pointers, the bonus type, the
-- checksum, the compression, and zero
abbrev pub head_bytes : ObjectNode → List ℕ
head_bytes n = n.object_type ∷ 14 ∷ levels_of n.highest ∷ 1 ∷ 0 ∷ 8 ∷ 2 ∷ 0 ∷ []

-- the size of a data block with no bonus, the highest block id, no used space, and padding
abbrev pub node_words : ObjectNode → List ℕ
node_words n = n.data_sectors ∷ n.highest ∷ 0 ∷ 0 ∷ 0 ∷ 0 ∷ 0 ∷ []

-- the first 8 bytes, the words, the pointer, and zeros up to byte 512
abbrev pub node_bytes : ObjectNode → List ℕ
node_bytes n = head_bytes n ++ (word_bytes (node_words n) ++ (spelling n.pointer ++ replicate 320 0))

-- these bytes, and no others, spell the object's dnode
abbrev pub SpellsNode : List ℕ → ObjectNode → Type 0
SpellsNode bytes n = FitsNode n × (bytes ≡ node_bytes n)

-- the fields of a dnode are those of an object
pub record IsRead (head words : List ℕ) (pointer : BlockPtr) (n : ObjectNode) : Type 0 where
  pub node : IsNode n
  pub head_is : head ≡ head_bytes n
  pub words_are : words ≡ node_words n
  pub pointer_is : pointer ≡ n.pointer
