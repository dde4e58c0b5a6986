-- When the blocks of a tree were born, by their places in it.
use Rattle.std.specs.Prelude.{ℕ, zero, suc, ◌≡◌, ◌+◌, ◌-◌, ◌*◌, ◌^◌, ◌<◌, ◌&&◌, ◌==◌, nat_lt, Bool, true, false, if◌then◌else◌, List, [], ◌∷◌, slice_index_or, Some}
use Rattle.block_pointer.specs.declared.block.Block.{Block}
use Rattle.block_pointer.specs.declared.pointer.BlockPtr.{BlockPtr}
use Rattle.block_pointer.specs.declared.pointer.BlockPtr.TheVariants.{Hole, Block as At}
use Rattle.dnode.specs.declared.node.ObjectNode.{ObjectNode}
use Rattle.dnode.specs.Indirect.{SpellsIndirect}
use Rattle.dnode.specs.Levels.{levels_of}
use Rattle.block_store.specs.Blocks.{Contents}
use Rattle.dnode_tree.specs.declared.writes.BlockWrite.{BlockWrite}

-- the block's bytes spell 128 pointers, behind each of which there is what should be
pub record HasBelow (stored : Contents) (block : Block) (Below : ℕ → BlockPtr → Type 0) : Type 0 where
  pub bytes : List ℕ
  pub known : stored block ≡ Some bytes
  pub pointers : List BlockPtr
  pub spelled : SpellsIndirect bytes pointers
  pub below : (k : ℕ) → k < 128 → Below k (slice_index_or pointers k Hole)

-- The births of the blocks of a part of a tree: of each by how far above the data it stands, and the id of the first data block below it.
abbrev pub AreBirths : Contents → ℕ → ℕ → BlockPtr → (ℕ → ℕ → ℕ) → Type 0
AreBirths stored level first Hole births = Unit {0}
AreBirths stored zero first (At block) births = births 0 first ≡ block.birth
AreBirths stored (suc level) first (At block) births =
    (births (suc level) first ≡ block.birth) × HasBelow stored block (λ k pointer. AreBirths stored level (first + k * 128 ^ level) pointer births)

-- how far above the data the root of an object's tree stands
abbrev pub height_of : ObjectNode → ℕ
height_of node = levels_of node.highest - 1

-- the births of the blocks of an object
abbrev pub HasBirths : Contents → ObjectNode → (ℕ → ℕ → ℕ) → Type 0
HasBirths stored node births = AreBirths stored (height_of node) 0 node.pointer births

-- whether a write has its block in the part that far above the data, from that id on
abbrev pub reaches : List BlockWrite → ℕ → ℕ → Bool
reaches [] level first = false
reaches (write ∷ writes) level first =
    if nat_lt write.id first then reaches writes level first else (if nat_lt write.id (first + 128 ^ level) then true else reaches writes level first)

-- whether that is a root above the one that stood so high
abbrev pub is_above : ℕ → ℕ → ℕ → Bool
is_above height level first = nat_lt height level && (first == 0)

-- The births after writes in a group, where the root stood that high: each block with a write below it is new, and so is each root above
-- that one. All others are those that there were.
abbrev pub births_after : ℕ → List BlockWrite → ℕ → (ℕ → ℕ → ℕ) → ℕ → ℕ → ℕ
births_after height writes birth births level first =
    if is_above height level first then birth else (if reaches writes level first then birth else births level first)
