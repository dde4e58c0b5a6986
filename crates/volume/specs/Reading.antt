-- Reads of a volume, whether or not its object set is whole.
use Rattle.std.specs.Prelude.{ℕ, ◌≡◌, ◌≢◌, ◌⊎◌, ◌+◌, ◌*◌, ◌/◌, ◌<◌, Option, Some, List, length, IsSomeAnd}
use Rattle.block_store.specs.declared.refusal.Refusal.{Refusal}
use Rattle.block_store.specs.declared.refusal.Refusal.TheVariants.{BadPointer}
use Rattle.block_store.specs.Spaces.{VdevSpace}
use Rattle.block_store.specs.Steps.{OnlyReadsBlocks}
use Rattle.block_store.specs.Store.{Store}
use Rattle.dnode.specs.declared.object_set.ObjectSet.{ObjectSet}
use Rattle.dnode.specs.declared.object_set.ObjectSetKind.TheVariants as kinds
use Rattle.objset.specs.NodesFound.{IsNodeRefused}
use Rattle.objset.specs.Sets.{IsSetFound, IsSetRefused}
use Rattle.objset.specs.declared.shape.ObjectShape.{ObjectShape}
use Rattle.objset.specs.Found.{IsDataFound, IsDataRefused}
use Rattle.objset.specs.Shapes.{IsShapeFound}
use Rattle.volume.specs.declared.volume.VolumeSet.{VolumeSet}
use Rattle.volume.specs.Volume.{size_of, block_of, block_size_of}

-- the shape of the volume's data: type 23, blocks of the volume's size, and none behind its last
pub record IsDataShape (volume : VolumeSet) (shape : ObjectShape) : Type 0 where
  pub object_type : shape.object_type ≡ 23
  pub sectors : shape.data_sectors ≡ block_size_of volume / 512
  pub highest : shape.highest < size_of volume / block_size_of volume

-- what was found of the set's object 1: its shape, or none
abbrev pub IsObjectFound : List VdevSpace → VolumeSet → ObjectSet → Option ObjectShape → Type 0
IsObjectFound spaces volume set shape = IsShapeFound spaces set (block_of volume).birth 1 shape

-- the set was read and judged: it is of a volume, and its object 1 has the shape of the data
pub record IsVolumeFound (spaces : List VdevSpace) (volume : VolumeSet) (birth : ℕ)
    (set : ObjectSet) : Type 0 where
  pub is_set : IsSetFound spaces birth (block_of volume) set
  pub kind : set.kind ≡ kinds.Volume
  pub shape : ObjectShape
  pub has_object : IsObjectFound spaces volume set (Some shape)
  pub is_data : IsDataShape volume shape

-- the set was read: it is of another kind, or its object 1 is none, or has another shape
pub record IsNoVolume (spaces : List VdevSpace) (volume : VolumeSet) (birth : ℕ) : Type 0 where
  pub set : ObjectSet
  pub is_set : IsSetFound spaces birth (block_of volume) set
  pub why : (set.kind ≢ kinds.Volume) ⊎ ((found : Option ObjectShape)
      × IsObjectFound spaces volume set found × ¬ IsSomeAnd found (IsDataShape volume))

-- the set was read, and then the dnode of its object 1 was refused
pub record IsObjectUnread (old new : Store) (missing : List ℕ) (volume : VolumeSet) (birth : ℕ)
    (refusal : Refusal) : Type 0 where
  pub set : ObjectSet
  pub is_set : IsSetFound old.spaces birth (block_of volume) set
  pub mid : Store
  pub before : OnlyReadsBlocks old mid missing
  pub why : IsNodeRefused mid new missing set (block_of volume).birth 1 refusal

-- why the volume's set was not judged to be one: it was not read, or is none, or it can't be told
abbrev pub IsVolumeRefused : Store → Store → List ℕ → VolumeSet → ℕ → Refusal → Type 0
IsVolumeRefused old new missing volume birth refusal =
    IsSetRefused old new missing birth (block_of volume) refusal
    ⊎ (((refusal ≡ BadPointer) × IsNoVolume old.spaces volume birth)
    ⊎ IsObjectUnread old new missing volume birth refusal)

-- the block of that id lies partly in the range
abbrev pub LiesIn : VolumeSet → ℕ → ℕ → ℕ → Type 0
LiesIn volume offset end id = (offset < id * block_size_of volume + block_size_of volume) × (id * block_size_of volume < end)

-- what was found of a block of data
abbrev pub IsFound : List VdevSpace → VolumeSet → ObjectSet → ℕ → Option (List ℕ) → Type 0
IsFound spaces volume set id found = IsDataFound spaces set (block_of volume).birth 1 id found

-- the bytes of a block of data were read, and have another size than the volume's blocks
abbrev pub HasOtherSize : List VdevSpace → VolumeSet → ObjectSet → ℕ → Type 0
HasOtherSize spaces volume set id = (bytes : List ℕ) × IsFound spaces volume set id (Some bytes) × (length bytes ≢ block_size_of volume)

-- why a block of data has no bytes of the volume
abbrev pub IsBlockRefused : Store → Store → List ℕ → VolumeSet → ObjectSet → ℕ → Refusal → Type 0
IsBlockRefused old new missing volume set id refusal =
    IsDataRefused old new missing set (block_of volume).birth 1 id refusal ⊎ ((refusal ≡ BadPointer) × HasOtherSize old.spaces volume set id)

-- one of the blocks that are wanted was read last, after other reads, and was refused
pub record IsUnread (old new : Store) (missing : List ℕ) (volume : VolumeSet) (set : ObjectSet) (Wanted : ℕ → Type 0) (refusal : Refusal) : Type 0 where
  pub id : ℕ
  pub is_wanted : Wanted id
  pub mid : Store
  pub before : OnlyReadsBlocks old mid missing
  pub why : IsBlockRefused mid new missing volume set id refusal

-- the object set was read and judged, and then one of its blocks that are wanted was refused
pub record IsUnreadIn (old new : Store) (missing : List ℕ) (volume : VolumeSet) (birth : ℕ) (Wanted : ℕ → Type 0) (refusal : Refusal) : Type 0 where
  pub set : ObjectSet
  pub is_set : IsVolumeFound old.spaces volume birth set
  pub mid : Store
  pub before : OnlyReadsBlocks old mid missing
  pub unread : IsUnread mid new missing volume set Wanted refusal

-- why blocks that are wanted were not read: the object set was not, or is no volume's, or one of
-- them was not
abbrev pub IsReadRefused : Store → Store → List ℕ → VolumeSet → ℕ → (ℕ → Type 0) → Refusal → Type 0
IsReadRefused old new missing volume birth Wanted refusal =
    IsVolumeRefused old new missing volume birth refusal
    ⊎ IsUnreadIn old new missing volume birth Wanted refusal

-- the way to a block of data was read: the object set, which was judged, and what it has of it
abbrev pub IsWayRead : List VdevSpace → VolumeSet → ℕ → ℕ → Type 0
IsWayRead spaces volume birth id =
    (set : ObjectSet) × IsVolumeFound spaces volume birth set
    × (found : Option (List ℕ)) × IsFound spaces volume set id found
