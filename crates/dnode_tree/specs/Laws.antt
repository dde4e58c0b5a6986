-- What follows from these definitions for those who have trees.
use Rattle.std.specs.Prelude.{ℕ, ◌≡◌, ◌≢◌, ◌^◌, ◌<◌, ◌≤◌, List, [], Option, Some, None, Contains}
use Rattle.block_pointer.specs.declared.block.Block.{Block}
use Rattle.block_pointer.specs.declared.pointer.BlockPtr.TheVariants.{Hole}
use Rattle.dnode.specs.declared.node.ObjectNode.{ObjectNode}
use Rattle.block_store.specs.Blocks.{Contents}
use Rattle.dnode_tree.specs.Births.{HasBirths}
use Rattle.dnode_tree.specs.Tree.{IsTree}

-- a tree keeps its array and its blocks where its own blocks stay known, whatever becomes of others
abbrev pub TreesStandOnTheirBlocks : Type 0
TreesStandOnTheirBlocks =
    (old new : Contents) (birth : ℕ) (node : ObjectNode) (array : ℕ → Option (List ℕ)) (blocks : List Block)
    → ((block : Block) (bytes : List ℕ) → Contains blocks block → old block ≡ Some bytes → new block ≡ Some bytes)
    → IsTree old birth node array blocks → IsTree new birth node array blocks

-- each block of a tree is known, and was born by then
abbrev pub BlocksOfTreesAreKnown : Type 0
BlocksOfTreesAreKnown =
    (stored : Contents) (birth : ℕ) (node : ObjectNode) (array : ℕ → Option (List ℕ)) (blocks : List Block) → IsTree stored birth node array blocks
    → (block : Block) → Contains blocks block → (block.birth ≤ birth) × (bytes : List ℕ) × (stored block ≡ Some bytes)

-- an object that begins at a hole is a tree that reads as nothing
abbrev pub HolesAreTrees : Type 0
HolesAreTrees = (stored : Contents) (birth : ℕ) (node : ObjectNode) → node.pointer ≡ Hole → IsTree stored birth node (λ id. None) []

-- so do the births of its blocks
abbrev pub BirthsStandOnTheirBlocks : Type 0
BirthsStandOnTheirBlocks =
    (old new : Contents) (birth : ℕ) (node : ObjectNode) (array : ℕ → Option (List ℕ)) (blocks : List Block) (births : ℕ → ℕ → ℕ)
    → ((block : Block) (bytes : List ℕ) → Contains blocks block → old block ≡ Some bytes → new block ≡ Some bytes)
    → IsTree old birth node array blocks → HasBirths old node births → HasBirths new node births

-- no data block of a tree was born after the tree
abbrev pub BirthsAreWithin : Type 0
BirthsAreWithin =
    (stored : Contents) (birth : ℕ) (node : ObjectNode) (array : ℕ → Option (List ℕ)) (blocks : List Block) (births : ℕ → ℕ → ℕ) → node.highest < 128 ^ 5
    → IsTree stored birth node array blocks → HasBirths stored node births → (id : ℕ) → array id ≢ None → births 0 id ≤ birth

-- a tree reads as one array, and has one list of blocks, whatever births are asked
abbrev pub TreesReadAsOne : Type 0
TreesReadAsOne =
    (stored : Contents) (birth later : ℕ) (node : ObjectNode) (array other : ℕ → Option (List ℕ)) (blocks others : List Block) → node.highest < 128 ^ 5
    → IsTree stored birth node array blocks → IsTree stored later node other others → (array ≡ other) × (blocks ≡ others)
