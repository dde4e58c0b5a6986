-- Vdevs of a pool that is to be made.
use Rattle.std.specs.Prelude.{ℕ, ◌≡◌, ◌+◌, ◌-◌, ◌*◌, ◌/◌, ◌<◌, ◌≤◌, ◌^◌, List, [], ◌∷◌, length}
use Rattle.model_disk.specs.Joint.{bytes_of}
use Rattle.block_store.specs.declared.create.VdevConfig.{VdevConfig}
use Rattle.block_store.specs.declared.shape.VdevShape.{VdevShape}
use Rattle.block_store.specs.Shapes.{metaslabs, HasRegions}

-- how many bytes of a disk of that size are used: a multiple of 256 KiB
abbrev pub used_bytes : ℕ → ℕ
used_bytes size = size / 0x40000 * 0x40000

-- at least 8 MiB of them, and at most 2^43 bytes
pub record IsAllowedSize (size : ℕ) : Type 0 where
  pub least : 0x800000 ≤ used_bytes size
  pub most : used_bytes size ≤ 2 ^ 43

-- how many sectors a disk of that size has for blocks: 4 MiB before them and 512 KiB behind them are for labels
abbrev pub sectors_of : ℕ → ℕ
sectors_of size = (used_bytes size - 0x480000) / 512

-- how many bytes that disk has: 0 where no disk has that number
abbrev pub size_of : List (List ℕ) → ℕ → ℕ
size_of starts disk = length (bytes_of starts disk)

-- each disk from the first on and before the end is of an allowed size
abbrev pub AreAllowedSizes : List (List ℕ) → ℕ → ℕ → Type 0
AreAllowedSizes starts first end = (disk : ℕ) → first ≤ disk → disk < end → IsAllowedSize (size_of starts disk)

-- each of them has so many sectors for blocks, and one of them no more
pub record IsLeastOf (starts : List (List ℕ)) (first end sectors : ℕ) : Type 0 where
  pub least : (disk : ℕ) → first ≤ disk → disk < end → sectors ≤ sectors_of (size_of starts disk)
  pub one : (disk : ℕ) × (first ≤ disk) × (disk < end) × (sectors ≡ sectors_of (size_of starts disk))

-- The vdev that was asked for, with that disk as its first child. A `VdevShape` has no metaslab_shift but from 12 to 20.
pub record IsShapeOf (starts : List (List ℕ)) (first : ℕ) (config : VdevConfig) (shape : VdevShape) : Type 0 where
  pub geometry : shape.vdev.geometry ≡ config.geometry
  pub first_is : shape.vdev.first ≡ first
  pub shift : shape.metaslab_shift ≡ config.metaslab_shift
  pub meta_slabs : shape.meta_slabs ≡ config.meta_slabs
  pub disks : first + config.geometry.children ≤ length starts
  pub sizes : AreAllowedSizes starts first (first + config.geometry.children)
  pub sectors : IsLeastOf starts first (first + config.geometry.children) shape.child_sectors
  pub regions : HasRegions shape
  pub few : metaslabs shape ≤ 1024

-- the vdevs that were asked for, which take the disks from that one on in order, and all of them
abbrev pub AreShapes : List (List ℕ) → ℕ → List VdevConfig → List VdevShape → Type 0
AreShapes starts first [] [] = first ≡ length starts
AreShapes starts first [] (shape ∷ shapes) = ⊥
AreShapes starts first (config ∷ configs) [] = ⊥
AreShapes starts first (config ∷ configs) (shape ∷ shapes) =
    IsShapeOf starts first config shape × AreShapes starts (first + config.geometry.children) configs shapes

-- no shapes are what was asked for
abbrev pub HaveNoShapes : List (List ℕ) → List VdevConfig → Type 0
HaveNoShapes starts configs = (shapes : List VdevShape) → ¬ AreShapes starts 0 configs shapes

-- a pool has from 1 to 8 vdevs
pub record IsFewVdevs (configs : List VdevConfig) : Type 0 where
  pub some : 1 ≤ length configs
  pub few : length configs ≤ 8

-- no store may have these vdevs on these disks: there are too few of them or too many, or they have no shapes
abbrev pub MakeNoStore : List (List ℕ) → List VdevConfig → Type 0
MakeNoStore starts configs = (shapes : List VdevShape) → ¬ (IsFewVdevs configs × AreShapes starts 0 configs shapes)
