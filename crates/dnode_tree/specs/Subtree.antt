-- Parts of a tree, the arrays that they read as, and their blocks.
use Rattle.std.specs.Prelude.{ℕ, zero, suc, ◌≡◌, ◌+◌, ◌*◌, ◌^◌, ◌<◌, ◌≤◌, List, [], ◌∷◌, length, slice_index_or, Option, Some, None}
use Rattle.std.specs.List.{flat_map}
use Rattle.block_pointer.specs.declared.block.Block.{Block}
use Rattle.block_pointer.specs.declared.pointer.BlockPtr.{BlockPtr}
use Rattle.block_pointer.specs.declared.pointer.BlockPtr.TheVariants.{Hole, Block as At}
use Rattle.block_pointer.specs.declared.property.Property.{Property}
use Rattle.dnode.specs.Indirect.{SpellsIndirect, total_fill}
use Rattle.block_store.specs.declared.block.Asked.{Asked}
use Rattle.block_store.specs.Blocks.{Contents}
use Rattle.block_store.specs.Reading.{Asks}

-- what a pointer to a block is asked: a property, and the latest birth
abbrev pub asked_of : Property → ℕ → Asked
asked_of property birth = record { property = property; birth = birth }

-- the blocks of several parts, one part after the other
abbrev pub joined : List (List Block) → List Block
joined parts = flat_map (λ part. part) parts

-- the block is a data block with these bytes
pub record IsData (stored : Contents) (asked : Asked) (block : Block) (bytes : List ℕ) : Type 0 where
  pub asks : Asks asked block
  pub known : stored block ≡ Some bytes
  pub fill : block.fill ≡ 1

-- The block is an indirect block: its bytes spell 128 pointers, behind each of which there is what should be, with these blocks.
-- Its fill count is the number of data blocks below it, and its blocks are itself and those below it in order.
pub record IsIndirect (stored : Contents) (asked : Asked) (block : Block) (Below : ℕ → BlockPtr → List Block → Type 0) (blocks : List Block) : Type 0 where
  pub asks : Asks asked block
  pub bytes : List ℕ
  pub known : stored block ≡ Some bytes
  pub pointers : List BlockPtr
  pub spelled : SpellsIndirect bytes pointers
  pub fill : block.fill ≡ total_fill pointers
  pub parts : List (List Block)
  pub count : length parts ≡ 128
  pub below : (k : ℕ) → k < 128 → Below k (slice_index_or pointers k Hole) (slice_index_or parts k [])
  pub blocks_are : blocks ≡ block ∷ joined parts

-- no data block of a part, whose data blocks begin at the first
abbrev pub IsEmpty : ℕ → ℕ → (ℕ → Option (List ℕ)) → Type 0
IsEmpty level first array = (id : ℕ) → first ≤ id → id < first + 128 ^ level → array id ≡ None

-- The pointer is the root of a part of a tree that far above the data. From the first of its 128^level data blocks on they read as in
-- the array. All blocks of the part are known and listed, each before those below it, and none was born after the one that points to it.
abbrev pub IsSubtree : Contents → (ℕ → Property) → ℕ → ℕ → ℕ → BlockPtr → (ℕ → Option (List ℕ)) → List Block → Type 0
IsSubtree stored property level first birth Hole array blocks = IsEmpty level first array × (blocks ≡ [])
IsSubtree stored property zero first birth (At block) array blocks =
    (bytes : List ℕ) × IsData stored (asked_of (property 0) birth) block bytes × (array first ≡ Some bytes) × (blocks ≡ block ∷ [])
IsSubtree stored property (suc level) first birth (At block) array blocks =
    IsIndirect stored (asked_of (property (suc level)) birth) block
    (λ k pointer part. IsSubtree stored property level (first + k * 128 ^ level) block.birth pointer array part) blocks

-- the block at a pointer, none at a hole
abbrev pub blocks_at : BlockPtr → List Block
blocks_at Hole = []
blocks_at (At block) = block ∷ []

-- the pointers are those of an indirect block, with a part of a tree behind each
pub record AreParts (stored : Contents) (property : ℕ → Property) (level first birth : ℕ) (pointers : List BlockPtr) (array : ℕ → Option (List ℕ)) (parts : List (List Block)) : Type 0 where
  pub pointer_count : length pointers ≡ 128
  pub count : length parts ≡ 128
  pub each : (k : ℕ) → k < 128 → IsSubtree stored property level (first + k * 128 ^ level) birth (slice_index_or pointers k Hole) array (slice_index_or parts k [])

-- a block at the pointer has this property
abbrev pub HasProperty : Property → BlockPtr → Type 0
HasProperty property Hole = Unit {0}
HasProperty property (At block) = block.property ≡ property
