-- A volume's data in an object set.
use Rattle.std.specs.Prelude.{ℕ, ◌≡◌, ◌≢◌, ◌+◌, ◌*◌, ◌/◌, ◌<◌, ◌≤◌, Option, Some, None, List, length, replicate, slice_range}
use Rattle.block_pointer.specs.declared.block.Block.{Block}
use Rattle.block_store.specs.Blocks.{Contents}
use Rattle.dnode.specs.declared.object_set.ObjectSet.{ObjectSet}
use Rattle.dnode.specs.declared.object_set.ObjectSetKind.TheVariants as kinds
use Rattle.objset.specs.Sets.{IsSetBlock}
use Rattle.objset.specs.Objects.{Object, AreObjects}
use Rattle.volume.specs.declared.volume.VolumeSet.{VolumeSet}

-- in bytes
abbrev pub size_of : VolumeSet → ℕ
size_of volume = volume.size

-- in bytes
abbrev pub block_size_of : VolumeSet → ℕ
block_size_of volume = volume.block_size

-- the block of the object set
abbrev pub block_of : VolumeSet → Block
block_of volume = volume.block

-- the volume has this size and this block size, in bytes
abbrev pub HasShape : VolumeSet → ℕ → ℕ → Type 0
HasShape volume size block_size = (volume.size ≡ size) × (volume.block_size ≡ block_size)

-- the part of the array that the block of that id has
abbrev pub part : List ℕ → ℕ → ℕ → List ℕ
part array block_size id = slice_range array (id * block_size) (id * block_size + block_size)

-- the bytes of a data block, zeros at a hole
abbrev pub HasBytes : ℕ → Option (List ℕ) → List ℕ → Type 0
HasBytes block_size (Some known) bytes = known ≡ bytes
HasBytes block_size None bytes = bytes ≡ replicate block_size 0

-- The objects have the data of a volume: object 1 alone, of type 23, with blocks of the volume's
-- size, each with its part of the array, and no block id behind the volume's last.
pub record IsData (size block_size : ℕ) (objects : ℕ → Option Object) (array : List ℕ) : Type 0 where
  pub others : (number : ℕ) → number ≢ 1 → objects number ≡ None
  pub there : Object
  pub there_is : objects 1 ≡ Some there
  pub object_type : there.object_type ≡ 23
  pub sectors : there.data_sectors ≡ block_size / 512
  pub highest : there.highest < size / block_size
  pub size_is : length array ≡ size
  pub blocks : (id : ℕ) → id < size / block_size → HasBytes block_size (there.array id) (part array block_size id)
  pub behind : (id : ℕ) → size / block_size ≤ id → there.array id ≡ None

-- the set, born by then, has such objects
pub record HasData (stored : Contents) (birth : ℕ) (set : ObjectSet) (size block_size : ℕ) (array : List ℕ) : Type 0 where
  pub objects : ℕ → Option Object
  pub own : List Block
  pub blocks : ℕ → List Block
  pub are : AreObjects stored birth set objects own blocks
  pub data_is : IsData size block_size objects array

-- The block, born by then, spells a volume's object set, whose data read as the array; what is behind the block was born by its own birth.
pub record IsVolume (stored : Contents) (birth : ℕ) (block : Block) (size block_size : ℕ) (array : List ℕ) : Type 0 where
  pub set : ObjectSet
  pub is_set : IsSetBlock stored birth block set
  pub kind : set.kind ≡ kinds.Volume
  pub has : HasData stored block.birth set size block_size array

-- the volume reads as the array
abbrev pub Spells : Contents → ℕ → VolumeSet → List ℕ → Type 0
Spells stored birth volume array = IsVolume stored birth (block_of volume) (size_of volume) (block_size_of volume) array
