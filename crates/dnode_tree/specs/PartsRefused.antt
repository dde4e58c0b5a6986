-- Parts of a tree of which a rewrite is refused. Only the crate's own functions say these.
use Rattle.std.specs.Prelude.{ℕ, ◌≡◌, ◌⊎◌, ◌+◌, ◌-◌, ◌*◌, ◌^◌, ◌<◌, ◌≤◌, List, slice_index_or, Contains}
use Rattle.block_pointer.specs.declared.block.Block.{Block}
use Rattle.block_pointer.specs.declared.pointer.BlockPtr.TheVariants.{Hole, Block as At}
use Rattle.block_pointer.specs.declared.property.Property.{Property}
use Rattle.block_store.specs.declared.refusal.Refusal.{Refusal}
use Rattle.block_store.specs.declared.refusal.Refusal.TheVariants.{BadPointer}
use Rattle.block_store.specs.Spaces.{VdevSpace}
use Rattle.block_store.specs.Steps.{OnlyReadsAndPlans}
use Rattle.block_store.specs.Store.{Store}
use Rattle.dnode.specs.declared.node.ObjectNode.{ObjectNode}
use Rattle.dnode_tree.specs.declared.subtree.Parts.{Parts}
use Rattle.dnode_tree.specs.declared.subtree.Subtree.{Subtree}
use Rattle.dnode_tree.specs.declared.writes.BlockWrite.{BlockWrite}
use Rattle.dnode_tree.specs.Births.{height_of}
use Rattle.dnode_tree.specs.Refused.{IsOverfull, HasOverfull}
use Rattle.dnode_tree.specs.Subtree.{asked_of}
use Rattle.dnode_tree.specs.Tree.{property_of}
use Rattle.dnode_tree.specs.Ways.{AreReadAs, Reached, reached, IsRefusedBelow}
use Rattle.dnode_tree.specs.Writes.{IsForRoom}

-- the root of a part, as a pointer on a way
abbrev pub reached_part : Subtree → Reached
reached_part part = reached part.level part.pointer part.birth

-- one of the parts below a root
abbrev pub part_below : Parts → ℕ → Subtree
part_below parts k =
    record { level = parts.level; pointer = slice_index_or parts.pointers k Hole; birth = parts.birth }

-- the parts below the root of a part: holes, or the pointers that were read
abbrev pub ArePartsRead : List VdevSpace → (ℕ → Property) → Subtree → Parts → Type 0
ArePartsRead spaces property part parts =
    ((part.pointer ≡ Hole) × ((k : ℕ) → slice_index_or parts.pointers k Hole ≡ Hole))
    ⊎ ((block : Block) × (part.pointer ≡ At block) × (parts.birth ≡ block.birth)
    × AreReadAs spaces (asked_of (property part.level) part.birth) block parts.pointers)

-- a write is in the part, and an indirect block on the way to it has a fill count that can't be
pub record IsPartOverfull (spaces : List VdevSpace) (node : ObjectNode) (part : Subtree) (first : ℕ)
    (writes : List BlockWrite) : Type 0 where
  pub write : BlockWrite
  pub is_one : Contains writes write
  pub from : first ≤ write.id
  pub within : write.id < first + 128 ^ part.level
  pub has : HasOverfull spaces (property_of node) (reached_part part) (write.id - first)

-- a write is in the part, and a block on the way to it was not read, behind reads and plans
pub record IsPartUnread (old new : Store) (missing : List ℕ) (node : ObjectNode) (part : Subtree)
    (first : ℕ) (writes : List BlockWrite) (refusal : Refusal) : Type 0 where
  pub write : BlockWrite
  pub is_one : Contains writes write
  pub from : first ≤ write.id
  pub within : write.id < first + 128 ^ part.level
  pub mid : Store
  pub before : OnlyReadsAndPlans old mid missing
  pub why : IsRefusedBelow mid new missing (property_of node) (reached_part part)
      (write.id - first) refusal

-- why a part was not rewritten
abbrev pub IsPartRefused : Store → Store → List ℕ → ObjectNode → Subtree → ℕ → List BlockWrite → Refusal
    → Type 0
IsPartRefused old new missing node part first writes refusal =
    IsForRoom refusal
    ⊎ (IsPartUnread old new missing node part first writes refusal
    ⊎ ((refusal ≡ BadPointer) × IsPartOverfull old.spaces node part first writes))

-- one of the pointers has a fill count that can't be, or one on the way to a write, from that part on
abbrev pub ArePartsOverfull : List VdevSpace → ObjectNode → Parts → ℕ → ℕ → List BlockWrite → Type 0
ArePartsOverfull spaces node parts first from writes =
    ((k : ℕ) × IsOverfull parts.level (slice_index_or parts.pointers k Hole))
    ⊎ ((k : ℕ) × (from ≤ k) × (k < 128)
    × IsPartOverfull spaces node (part_below parts k) (first + k * 128 ^ parts.level) writes)

-- a block on the way to a write in such a part was not read
abbrev pub ArePartsUnread : Store → Store → List ℕ → ObjectNode → Parts → ℕ → ℕ → List BlockWrite → Refusal
    → Type 0
ArePartsUnread old new missing node parts first from writes refusal =
    (k : ℕ) × (from ≤ k) × (k < 128)
    × IsPartUnread old new missing node (part_below parts k) (first + k * 128 ^ parts.level) writes
    refusal

-- why the parts below a root were not rewritten
abbrev pub ArePartsRefused : Store → Store → List ℕ → ObjectNode → Parts → ℕ → ℕ → List BlockWrite → Refusal
    → Type 0
ArePartsRefused old new missing node parts first from writes refusal =
    IsForRoom refusal
    ⊎ (ArePartsUnread old new missing node parts first from writes refusal
    ⊎ ((refusal ≡ BadPointer) × ArePartsOverfull old.spaces node parts first from writes))

-- the root of the object's tree has a fill count that can't be, or a block on the way to a write
abbrev pub IsTreeOverfull : List VdevSpace → ObjectNode → Subtree → List BlockWrite → Type 0
IsTreeOverfull spaces node root writes =
    IsOverfull (height_of node) node.pointer ⊎ IsPartOverfull spaces node root 0 writes
