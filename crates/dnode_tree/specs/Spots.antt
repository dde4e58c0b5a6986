-- Which blocks of a tree are planned anew, and what they ask.
use Rattle.std.specs.Prelude.{ℕ, zero, suc, ◌+◌, ◌-◌, ◌*◌, ◌^◌, ◌||◌, Bool, true, false, if◌then◌else◌, List, [], ◌∷◌, ◌++◌, map}
use Rattle.block_pointer.specs.declared.pointer.BlockPtr.{BlockPtr}
use Rattle.block_pointer.specs.declared.pointer.BlockPtr.TheVariants.{Hole, Block as At}
use Rattle.block_store.specs.Demands.{Demand}
use Rattle.dnode.specs.declared.node.ObjectNode.{ObjectNode}
use Rattle.dnode_tree.specs.declared.writes.BlockWrite.{BlockWrite}
use Rattle.dnode_tree.specs.declared.writes.CopyCounts.{CopyCounts}
use Rattle.dnode_tree.specs.Births.{height_of, reaches}
use Rattle.dnode_tree.specs.Tree.{property_of}
use Rattle.dnode.specs.Levels.{levels_of}
use Rattle.dnode_tree.specs.Writes.{copies_at, highest_with}

-- a block of a tree by its place in it: how far it stands above the data, and the id of the first data block below it
pub record Spot : Type 0 where
  pub level : ℕ
  pub first : ℕ

-- the spots of so many parts, from one of them on
abbrev pub of_parts : (ℕ → List Spot) → ℕ → ℕ → List Spot
of_parts spots from zero = []
of_parts spots from (suc n) = of_parts spots from n ++ spots (from + n)

-- The blocks that writes reach in the part that far above the data, from that id on: each behind those below it.
abbrev pub spots_in : List BlockWrite → ℕ → ℕ → List Spot
spots_in writes zero first = if reaches writes 0 first then (record { level = 0; first = first }) ∷ [] else []
spots_in writes (suc level) first =
    if reaches writes (suc level) first
    then of_parts (λ k. spots_in writes level (first + k * 128 ^ level)) 0 128 ++ (record { level = suc level; first = first }) ∷ []
    else []

-- the blocks that writes reach in the parts below a root, from one of them on, and the root
abbrev pub spots_below : List BlockWrite → ℕ → ℕ → ℕ → ℕ → List Spot
spots_below writes level first from n =
    of_parts (λ k. spots_in writes level (first + k * 128 ^ level)) from n ++ (record { level = suc level; first = first }) ∷ []

-- Where the tree grows so many levels above that height: the blocks that writes reach, and the roots above the one that was there.
abbrev pub spots_raised : List BlockWrite → Bool → ℕ → ℕ → List Spot
spots_raised writes was_there height zero = spots_in writes height 0
spots_raised writes was_there height (suc n) =
    spots_raised writes was_there height n ++ (if was_there || reaches writes (suc (height + n)) 0 then spots_below writes (height + n) 0 1 127 else [])

-- whether there is a block at the pointer
abbrev pub is_there : BlockPtr → Bool
is_there Hole = false
is_there (At block) = true

-- whether there are writes
abbrev pub has_some : List BlockWrite → Bool
has_some [] = false
has_some (write ∷ writes) = true

-- the blocks that writes reach in the parts behind the first one below a root, and the root: where there is one, or any write
abbrev pub spots_of_raise : BlockPtr → List BlockWrite → ℕ → List Spot
spots_of_raise root writes level = if is_there root || has_some writes then spots_below writes level 0 1 127 else []

-- how many levels an object grows by
abbrev pub levels_more : ObjectNode → List BlockWrite → ℕ
levels_more node writes = levels_of (highest_with writes node.highest) - levels_of node.highest

-- the blocks of an object that are planned anew for writes
abbrev pub spots_of : ObjectNode → List BlockWrite → List Spot
spots_of node writes = spots_raised writes (is_there node.pointer) (height_of node) (levels_more node writes)

-- what a block of a level asks, as it is to be placed
abbrev pub demand_at : ObjectNode → CopyCounts → ℕ → Demand
demand_at node copies level = record { sectors = (property_of node level).sectors; copies = copies_at copies level }

-- what the blocks at these spots ask
abbrev pub demands_at : ObjectNode → CopyCounts → List Spot → List Demand
demands_at node copies spots = map (λ spot. demand_at node copies spot.level) spots

-- what the blocks of an object that are planned anew for writes ask
abbrev pub demands_of : ObjectNode → CopyCounts → List BlockWrite → List Demand
demands_of node copies writes = demands_at node copies (spots_of node writes)
