-- What was read on the way down a tree, whether or not the tree is whole.
use Rattle.std.specs.Option.{option_map}
use Rattle.std.specs.declared.alloc.Global.{Global}
use Rattle.std.specs.Prelude.{ℕ, Vec, zero, suc, ◌≡◌, ◌⊎◌, ◌/◌, ◌%◌, ◌^◌, ◌<◌, ◌≤◌, ◌++◌, ◌-◌, List, [], ◌∷◌, length, slice_index_or, Option, Some, None}
use Rattle.block_pointer.specs.declared.block.Block.{Block}
use Rattle.block_pointer.specs.declared.pointer.BlockPtr.{BlockPtr}
use Rattle.block_pointer.specs.declared.pointer.BlockPtr.TheVariants.{Hole, Block as At}
use Rattle.block_pointer.specs.declared.property.Property.{Property}
use Rattle.dnode.specs.declared.node.ObjectNode.{ObjectNode}
use Rattle.dnode.specs.Indirect.{SpellsIndirect}
use Rattle.dnode.specs.Levels.{levels_of}
use Rattle.block_store.specs.declared.block.Asked.{Asked}
use Rattle.block_store.specs.declared.refusal.Refusal.{Refusal}
use Rattle.block_store.specs.declared.refusal.Refusal.TheVariants.{NoMemory, DiskFault, NoSpace, BadPointer, BadDigest, BadConfig}
use Rattle.block_store.specs.Spaces.{VdevSpace}
use Rattle.block_store.specs.Reading.{Asks, IsReadable, IsReadAs, IsLastFault}
use Rattle.block_store.specs.Store.{Store, outs}
use Rattle.block_store.specs.Steps.{OnlyReadsBlocks}
use Rattle.dnode_tree.specs.declared.reading.DataBlock.{DataBlock}
use Rattle.dnode_tree.specs.Subtree.{asked_of, joined}
use Rattle.dnode_tree.specs.Tree.{property_of}

-- these pointers were read for the pointer
pub record AreReadAs (spaces : List VdevSpace) (asked : Asked) (block : Block) (pointers : List BlockPtr) : Type 0 where
  pub bytes : List ℕ
  pub read : IsReadAs spaces asked block bytes
  pub spelled : SpellsIndirect bytes pointers

-- a pointer on the way: how far above the data it points, and the latest birth that it may have
pub record Reached : Type 0 where
  pub level : ℕ
  pub pointer : BlockPtr
  pub birth : ℕ

-- the pointer that far above the data, with the latest birth that it may have
abbrev pub reached : ℕ → BlockPtr → ℕ → Reached
reached level pointer birth = record { level = level; pointer = pointer; birth = birth }

-- what a block that it points to is asked
abbrev pub asked_there : (ℕ → Property) → Reached → Asked
asked_there property here = asked_of (property here.level) here.birth

-- The way from a pointer that far above the data to one of the data blocks below it, by its place among them, comes to a pointer:
-- at once, or through indirect blocks that were read. What an indirect block points to was born by its own birth.
abbrev pub ComesTo : List VdevSpace → (ℕ → Property) → ℕ → ℕ → BlockPtr → ℕ → Reached → Type 0
ComesTo spaces property zero birth pointer place there = there ≡ reached 0 pointer birth
ComesTo spaces property (suc level) birth pointer place there =
    (there ≡ reached (suc level) pointer birth)
    ⊎ ((block : Block) × (pointers : List BlockPtr) × (pointer ≡ At block) × AreReadAs spaces (asked_of (property (suc level)) birth) block pointers
    × ComesTo spaces property level block.birth (slice_index_or pointers (place / 128 ^ level) Hole) (place % 128 ^ level) there)

-- the bytes of a block, if there is one
abbrev pub bytes_of : Option (Vec ℕ Global) → Option (List ℕ)
bytes_of found = option_map (λ bytes. bytes.items) found

-- the bytes of a data block, if there is one
abbrev pub bytes_in : Option DataBlock → Option (List ℕ)
bytes_in found = option_map (λ block. block.bytes.items) found

-- there is a data block with these bytes, or a hole and none
abbrev pub HasFound : List VdevSpace → (ℕ → Property) → Reached → Option (List ℕ) → Type 0
HasFound spaces property there None = there.pointer ≡ Hole
HasFound spaces property there (Some bytes) =
    (block : Block) × (there.level ≡ 0) × (there.pointer ≡ At block) × IsReadAs spaces (asked_there property there) block bytes

-- the bytes that were read for it spell no pointers
pub record SpellsNoPointers (spaces : List VdevSpace) (asked : Asked) (block : Block) : Type 0 where
  pub bytes : List ℕ
  pub read : IsReadAs spaces asked block bytes
  pub none : (pointers : List BlockPtr) → ¬ SpellsIndirect bytes pointers

-- why an indirect block was not read: its pointer may not be, or it spells no pointers, or its last copy was at fault
abbrev pub IsBlockFault : Store → Store → List ℕ → Asked → Block → Refusal → Type 0
IsBlockFault old new missing asked block refusal =
    (refusal ≡ NoMemory)
    ⊎ (((refusal ≡ BadPointer) × ((¬ IsReadable old.spaces asked block) ⊎ SpellsNoPointers old.spaces asked block))
    ⊎ IsLastFault old new (outs old ++ missing) block refusal)

-- the pointer may not be read, or leads to an indirect block that spells no pointers
pub record IsBad (spaces : List VdevSpace) (property : ℕ → Property) (there : Reached) : Type 0 where
  pub block : Block
  pub is : there.pointer ≡ At block
  pub why : (¬ IsReadable spaces (asked_there property there) block) ⊎ ((0 < there.level) × SpellsNoPointers spaces (asked_there property there) block)

-- the block was not read: the last of its copies was at fault, after other reads
pub record IsLost (old new : Store) (missing : List ℕ) (there : Reached) (refusal : Refusal) : Type 0 where
  pub block : Block
  pub is : there.pointer ≡ At block
  pub mid : Store
  pub before : OnlyReadsBlocks old mid missing
  pub fault : IsLastFault mid new (outs mid ++ missing) block refusal

-- why a pointer was not followed
abbrev pub IsCause : Store → Store → List ℕ → (ℕ → Property) → Reached → Refusal → Type 0
IsCause old new missing property there NoMemory = Unit {0}
IsCause old new missing property there BadPointer = IsBad old.spaces property there
IsCause old new missing property there DiskFault = IsLost old new missing there DiskFault
IsCause old new missing property there BadDigest = IsLost old new missing there BadDigest
IsCause old new missing property there NoSpace = ⊥
IsCause old new missing property there BadConfig = ⊥

-- the root of an object's tree
abbrev pub root_of : ObjectNode → ℕ → Reached
root_of node birth = reached (levels_of node.highest - 1) node.pointer birth

-- the way to a data block comes from a pointer to another
abbrev pub LeadsTo : List VdevSpace → (ℕ → Property) → Reached → ℕ → Reached → Type 0
LeadsTo spaces property here place there = ComesTo spaces property here.level here.birth here.pointer place there

-- what was found at that place below a pointer
pub record IsFoundBelow (spaces : List VdevSpace) (property : ℕ → Property) (here : Reached) (place : ℕ) (found : Option (List ℕ)) : Type 0 where
  pub there : Reached
  pub leads : LeadsTo spaces property here place there
  pub has : HasFound spaces property there found

-- the birth that is told of a data block is that of the pointer to it
abbrev pub HasBirthOf : BlockPtr → Option DataBlock → Type 0
HasBirthOf pointer None = Unit {0}
HasBirthOf pointer (Some found) = (block : Block) × (pointer ≡ At block) × (found.birth ≡ block.birth)

-- what was found there, with the birth of the pointer that the way came to
pub record IsBlockFoundBelow (spaces : List VdevSpace) (property : ℕ → Property) (here : Reached) (place : ℕ) (found : Option DataBlock) : Type 0 where
  pub below : IsFoundBelow spaces property here place (bytes_in found)
  pub born : HasBirthOf below.there.pointer found

-- why nothing was found there: the cause is on the way
pub record IsRefusedBelow (old new : Store) (missing : List ℕ) (property : ℕ → Property) (here : Reached) (place : ℕ) (refusal : Refusal) : Type 0 where
  pub there : Reached
  pub leads : LeadsTo old.spaces property here place there
  pub fault : IsCause old new missing property there refusal

-- what was found of a data block of an object: nothing behind the highest id
abbrev pub IsFound : List VdevSpace → ObjectNode → ℕ → ℕ → Option (List ℕ) → Type 0
IsFound spaces node birth id found =
    ((node.highest < id) × (found ≡ None)) ⊎ ((id ≤ node.highest) × IsFoundBelow spaces (property_of node) (root_of node birth) id found)

-- the same with its birth
abbrev pub IsBlockFound : List VdevSpace → ObjectNode → ℕ → ℕ → Option DataBlock → Type 0
IsBlockFound spaces node birth id found =
    ((node.highest < id) × (found ≡ None)) ⊎ ((id ≤ node.highest) × IsBlockFoundBelow spaces (property_of node) (root_of node birth) id found)

-- why a data block of an object was not read
abbrev pub IsRefused : Store → Store → List ℕ → ObjectNode → ℕ → ℕ → Refusal → Type 0
IsRefused old new missing node birth id refusal = IsRefusedBelow old new missing (property_of node) (root_of node birth) id refusal

-- A part was walked: each block is one that its parent may have, each indirect block was read, and these are the blocks of the part,
-- each before those below it.
abbrev pub IsWalked : List VdevSpace → (ℕ → Property) → ℕ → ℕ → BlockPtr → List Block → Type 0
IsWalked spaces property level birth Hole blocks = blocks ≡ []
IsWalked spaces property zero birth (At block) blocks = Asks (asked_of (property 0) birth) block × (blocks ≡ block ∷ [])
IsWalked spaces property (suc level) birth (At block) blocks =
    (pointers : List BlockPtr) × (parts : List (List Block)) × AreReadAs spaces (asked_of (property (suc level)) birth) block pointers × (length parts ≡ 128)
    × ((k : ℕ) → k < 128 → IsWalked spaces property level block.birth (slice_index_or pointers k Hole) (slice_index_or parts k []))
    × (blocks ≡ block ∷ joined parts)

-- why a part was not walked: the cause is on the way to one of its data blocks
abbrev pub IsWalkRefused : Store → Store → List ℕ → (ℕ → Property) → Reached → Refusal → Type 0
IsWalkRefused old new missing property here refusal = (place : ℕ) × (place < 128 ^ here.level) × IsRefusedBelow old new missing property here place refusal

-- all blocks of an object were walked
abbrev pub AreWalked : List VdevSpace → ObjectNode → ℕ → List Block → Type 0
AreWalked spaces node birth blocks = IsWalked spaces (property_of node) (levels_of node.highest - 1) birth node.pointer blocks
