-- Why writes of data blocks are refused, whether or not the tree is whole.
use Rattle.std.specs.Prelude.{ℕ, suc, ◌≡◌, ◌⊎◌, ◌^◌, ◌<◌, List, slice_index_or, Contains}
use Rattle.block_pointer.specs.declared.block.Block.{Block}
use Rattle.block_pointer.specs.declared.pointer.BlockPtr.{BlockPtr}
use Rattle.block_pointer.specs.declared.pointer.BlockPtr.TheVariants.{Hole, Block as At}
use Rattle.block_pointer.specs.declared.property.Property.{Property}
use Rattle.block_store.specs.declared.refusal.Refusal.{Refusal}
use Rattle.block_store.specs.declared.refusal.Refusal.TheVariants.{BadPointer}
use Rattle.block_store.specs.Spaces.{VdevSpace}
use Rattle.block_store.specs.Steps.{OnlyReadsAndPlans}
use Rattle.block_store.specs.Store.{Store}
use Rattle.dnode.specs.Indirect.{fill_of}
use Rattle.dnode.specs.declared.node.ObjectNode.{ObjectNode}
use Rattle.dnode_tree.specs.declared.writes.BlockWrite.{BlockWrite}
use Rattle.dnode_tree.specs.Births.{height_of}
use Rattle.dnode_tree.specs.Tree.{property_of}
use Rattle.dnode_tree.specs.Ways.{AreReadAs, Reached, asked_there, LeadsTo, root_of, IsRefused}

-- the fill count of a pointer that far above the data is of more blocks than there can be below it
abbrev pub IsOverfull : ℕ → BlockPtr → Type 0
IsOverfull level pointer = 128 ^ level < fill_of pointer

-- an indirect block that was read on the way to a data block has such a pointer
pub record HasOverfull (spaces : List VdevSpace) (property : ℕ → Property)
    (here : Reached) (place : ℕ) : Type 0 where
  pub there : Reached
  pub leads : LeadsTo spaces property here place there
  pub level : ℕ
  pub level_is : there.level ≡ suc level
  pub block : Block
  pub is : there.pointer ≡ At block
  pub pointers : List BlockPtr
  pub read : AreReadAs spaces (asked_there property there) block pointers
  pub k : ℕ
  pub over : IsOverfull level (slice_index_or pointers k Hole)

-- the root is such a pointer, or an indirect block on the way has one
abbrev pub IsWayOverfull : List VdevSpace → ObjectNode → ℕ → ℕ → Type 0
IsWayOverfull spaces node birth id =
    IsOverfull (height_of node) node.pointer
    ⊎ HasOverfull spaces (property_of node) (root_of node birth) id

-- The way to a data block that is written was refused, behind reads and blocks that were planned:
-- a block on it could not be read, or it has a fill count that can't be.
pub record IsWriteRefused (old new : Store) (missing : List ℕ) (node : ObjectNode) (birth : ℕ)
    (writes : List BlockWrite) (refusal : Refusal) : Type 0 where
  pub write : BlockWrite
  pub is_one : Contains writes write
  pub mid : Store
  pub before : OnlyReadsAndPlans old mid missing
  pub why : IsRefused mid new missing node birth write.id refusal
      ⊎ ((refusal ≡ BadPointer) × IsWayOverfull mid.spaces node birth write.id)
