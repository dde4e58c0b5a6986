-- A group's writes to a volume.
use Rattle.std.specs.Prelude.{ℕ, ◌≡◌, ◌+◌, ◌*◌, ◌/◌, ◌<◌, ◌≤◌, List, length, Any, All}
use Rattle.pool_model.specs.declared.item.Write.{Write}
use Rattle.dnode_tree.specs.declared.writes.BlockWrite.{BlockWrite}
use Rattle.dnode_tree.specs.Writes.{AreInOrder}
use Rattle.volume.specs.declared.volume.VolumeSet.{VolumeSet}
use Rattle.volume.specs.Volume.{size_of, block_size_of, part}

-- the write lies within a volume of that size, and has a byte in the block of that id
pub record Reaches (size block_size : ℕ) (write : Write) (id : ℕ) : Type 0 where
  pub within : write.offset + length write.bytes ≤ size
  pub some : 0 < length write.bytes
  pub begins : write.offset < id * block_size + block_size
  pub ends : id * block_size < write.offset + length write.bytes

-- one of the writes to the volume of that name has a byte in the block
abbrev pub IsChanged : VolumeSet → List ℕ → List Write → ℕ → Type 0
IsChanged volume name writes id = Any (λ write. (write.volume ≡ name) × Reaches volume.size volume.block_size write id) writes

-- the write lies within a volume of that size, and has every byte of the block of that id
pub record Covers (size block_size : ℕ) (write : Write) (id : ℕ) : Type 0 where
  pub within : write.offset + length write.bytes ≤ size
  pub some : 0 < length write.bytes
  pub begins : write.offset ≤ id * block_size
  pub ends : id * block_size + block_size ≤ write.offset + length write.bytes

-- one of the writes to the volume of that name has every byte of the block
abbrev pub IsCovered : VolumeSet → List ℕ → List Write → ℕ → Type 0
IsCovered volume name writes id =
    Any (λ write. (write.volume ≡ name) × Covers volume.size volume.block_size write id) writes

-- the writes change the block, and none of them has every byte of it
abbrev pub NeedsOldBytes : VolumeSet → List ℕ → List Write → ℕ → Type 0
NeedsOldBytes volume name writes id =
    IsChanged volume name writes id × ¬ IsCovered volume name writes id

-- one of the blocks has that id
abbrev pub HasId : List BlockWrite → ℕ → Type 0
HasId blocks id = Any (λ block. block.id ≡ id) blocks

-- whole blocks of the volume, each once, in the order of their ids
pub record AreBlocksOf (volume : VolumeSet) (blocks : List BlockWrite) : Type 0 where
  pub order : AreInOrder blocks
  pub ids : All (λ block. block.id < size_of volume / block_size_of volume) blocks
  pub whole : All (λ block. length block.bytes.items ≡ block_size_of volume) blocks

-- the array with these blocks in place of those that it had
pub record IsArrayWith (array : List ℕ) (block_size : ℕ) (blocks : List BlockWrite) (after : List ℕ) : Type 0 where
  pub size : length after ≡ length array
  pub put : All (λ block. block.bytes.items ≡ part after block_size block.id) blocks
  pub others : (id : ℕ) → id * block_size + block_size ≤ length array → ¬ HasId blocks id → part after block_size id ≡ part array block_size id
