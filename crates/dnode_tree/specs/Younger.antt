-- Walks that look only for some blocks of a tree: those that were born after a transaction group.
use Rattle.std.specs.Prelude.{ℕ, zero, suc, ◌≡◌, ◌⊎◌, ◌/◌, ◌%◌, ◌^◌, ◌<◌, ◌-◌, nat_lt, cond, Bool, true, List, [], ◌∷◌, length, slice_index_or, filter, Option, Some, None}
use Rattle.block_pointer.specs.declared.block.Block.{Block}
use Rattle.block_pointer.specs.declared.pointer.BlockPtr.{BlockPtr}
use Rattle.block_pointer.specs.declared.pointer.BlockPtr.TheVariants.{Hole, Block as At}
use Rattle.block_pointer.specs.declared.property.Property.{Property}
use Rattle.block_store.specs.declared.refusal.Refusal.{Refusal}
use Rattle.block_store.specs.declared.refusal.Refusal.TheVariants.{BadPointer}
use Rattle.block_store.specs.Spaces.{VdevSpace}
use Rattle.block_store.specs.Reading.{Asks}
use Rattle.block_store.specs.Store.{Store}
use Rattle.dnode.specs.declared.node.ObjectNode.{ObjectNode}
use Rattle.dnode.specs.Levels.{levels_of}
use Rattle.dnode_tree.specs.Rewriting.{AreDistinct}
use Rattle.dnode_tree.specs.Subtree.{asked_of, joined}
use Rattle.dnode_tree.specs.Tree.{property_of}
use Rattle.dnode_tree.specs.Ways.{AreReadAs, Reached, reached, root_of, IsCause}

-- whether a block was born after the group
abbrev pub is_younger : ℕ → Block → Bool
is_younger since block = nat_lt since block.birth

-- those of the blocks that were born after the group, in order
abbrev pub younger : ℕ → List Block → List Block
younger since blocks = filter (is_younger since) blocks

-- what a walk that picks blocks sees of a pointer: a hole where the block isn't picked
abbrev pub seen : (Block → Bool) → BlockPtr → BlockPtr
seen picks Hole = Hole
seen picks (At block) = cond (picks block) (At block) Hole

-- A part was walked as `IsWalked` says, with each pointer as it is seen: a block that isn't picked is left out with all below it.
abbrev pub IsWalkedWhere : (Block → Bool) → List VdevSpace → (ℕ → Property) → ℕ → ℕ → BlockPtr → List Block → Type 0
IsWalkedWhere picks spaces property level birth Hole blocks = blocks ≡ []
IsWalkedWhere picks spaces property zero birth (At block) blocks = Asks (asked_of (property 0) birth) block × (blocks ≡ block ∷ [])
IsWalkedWhere picks spaces property (suc level) birth (At block) blocks =
    (pointers : List BlockPtr) × (parts : List (List Block)) × AreReadAs spaces (asked_of (property (suc level)) birth) block pointers × (length parts ≡ 128)
    × ((k : ℕ) → k < 128 → IsWalkedWhere picks spaces property level block.birth (seen picks (slice_index_or pointers k Hole)) (slice_index_or parts k []))
    × (blocks ≡ block ∷ joined parts)

-- all picked blocks of an object were walked
abbrev pub AreWalkedWhere : (Block → Bool) → List VdevSpace → ObjectNode → ℕ → List Block → Type 0
AreWalkedWhere picks spaces node birth blocks =
    IsWalkedWhere picks spaces (property_of node) (levels_of node.highest - 1) birth (seen picks node.pointer) blocks

-- the way comes to a pointer as `ComesTo` says, with each pointer as it is seen: through picked blocks alone
abbrev pub ComesWhere : (Block → Bool) → List VdevSpace → (ℕ → Property) → ℕ → ℕ → BlockPtr → ℕ → Reached → Type 0
ComesWhere picks spaces property zero birth pointer place there = there ≡ reached 0 pointer birth
ComesWhere picks spaces property (suc level) birth pointer place there =
    (there ≡ reached (suc level) pointer birth)
    ⊎ ((block : Block) × (pointers : List BlockPtr) × (pointer ≡ At block) × AreReadAs spaces (asked_of (property (suc level)) birth) block pointers
    × ComesWhere picks spaces property level block.birth (seen picks (slice_index_or pointers (place / 128 ^ level) Hole)) (place % 128 ^ level) there)

-- why a part was not walked: the cause is a picked block, on a way through picked blocks
pub record IsRefusedWhere (picks : Block → Bool) (old new : Store) (missing : List ℕ) (property : ℕ → Property) (here : Reached) (refusal : Refusal) : Type 0 where
  pub place : ℕ
  pub low : place < 128 ^ here.level
  pub there : Reached
  pub leads : ComesWhere picks old.spaces property here.level here.birth (seen picks here.pointer) place there
  pub fault : IsCause old new missing property there refusal

-- why an object was not walked: for such a cause, or none was left to be read, or its picked blocks were walked and one is there twice
abbrev pub IsWithinRefusedWhere : (Block → Bool) → Store → Store → List ℕ → ObjectNode → ℕ → ℕ → Refusal → Type 0
IsWithinRefusedWhere picks old new missing node birth left refusal =
    IsRefusedWhere picks old new missing (property_of node) (root_of node birth) refusal
    ⊎ ((refusal ≡ BadPointer) × ((left ≡ 0) ⊎ ((blocks : List Block) × AreWalkedWhere picks old.spaces node birth blocks × ¬ AreDistinct blocks)))

-- Only the crate's own functions say this: whether a block is looked for, one that was born after the group, or any where none is named.
abbrev pub is_picked : Option ℕ → Block → Bool
is_picked None block = true
is_picked (Some since) block = is_younger since block
