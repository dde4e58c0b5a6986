-- Writes of data blocks.
use Rattle.std.specs.Prelude.{ℕ, ◌≡◌, ◌⊎◌, ◌*◌, ◌<◌, ◌≤◌, ◌==◌, cond, max, List, [], ◌∷◌, length, Option, Some, All, AllPairs, if◌then◌else◌}
use Rattle.dnode.specs.declared.node.ObjectNode.{ObjectNode}
use Rattle.block_store.specs.declared.refusal.Refusal.{Refusal}
use Rattle.block_store.specs.declared.refusal.Refusal.TheVariants.{NoMemory, NoSpace}
use Rattle.block_store.specs.Blocks.{count_of}
use Rattle.block_store.specs.Steps.{HasNoRoomFor}
use Rattle.block_store.specs.Store.{Store}
use Rattle.dnode_tree.specs.declared.writes.BlockWrite.{BlockWrite}
use Rattle.dnode_tree.specs.declared.writes.CopyCounts.{CopyCounts}
use Rattle.dnode_tree.specs.Tree.{property_of}

-- each id is written once, in ascending order
abbrev pub AreInOrder : List BlockWrite → Type 0
AreInOrder writes = AllPairs (λ write later. write.id < later.id) writes

-- their ids are from the first on and before the end
abbrev pub AreBetween : ℕ → ℕ → List BlockWrite → Type 0
AreBetween first end writes = All (λ write. (first ≤ write.id) × (write.id < end)) writes

-- each has the bytes of a data block
abbrev pub AreWholeBlocks : ObjectNode → List BlockWrite → Type 0
AreWholeBlocks node writes = All (λ write. length write.bytes.items ≡ node.data_sectors * 512) writes

-- the array with the blocks that are written
abbrev pub written : List BlockWrite → (ℕ → Option (List ℕ)) → ℕ → Option (List ℕ)
written [] array id = array id
written (write ∷ writes) array id = if write.id == id then Some write.bytes.items else written writes array id

-- the highest id of what is written, and of the one that there was
abbrev pub highest_with : List BlockWrite → ℕ → ℕ
highest_with [] highest = highest
highest_with (write ∷ writes) highest = highest_with writes (max highest write.id)

-- how many copies the blocks of a level have
abbrev pub copies_at : CopyCounts → ℕ → ℕ
copies_at copies level = cond (level == 0) (count_of copies.data) (count_of copies.indirect)

-- there was no room for a block of some level
abbrev pub HasNoRoom : Store → Store → List ℕ → ObjectNode → CopyCounts → Type 0
HasNoRoom old new missing node copies = (level : ℕ) × HasNoRoomFor old new missing (property_of node level).sectors (copies_at copies level)

-- there is not enough memory, or no room
abbrev pub IsForRoom : Refusal → Type 0
IsForRoom refusal = (refusal ≡ NoMemory) ⊎ (refusal ≡ NoSpace)
