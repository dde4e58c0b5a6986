-- The vdevs of a configuration, as a store divides them.
use Rattle.std.specs.Prelude.{ℕ, ◌≡◌, ◌+◌, List, [], ◌∷◌, length}
use Rattle.block_store.specs.declared.shape.VdevShape.{VdevShape}
use Rattle.vdev_label.specs.Plain.{PlainVdev}

-- what the configuration says of the vdev, with that disk as its first child
pub record IsShapeOf (v : PlainVdev) (first : ℕ) (shape : VdevShape) : Type 0 where
  pub first_is : shape.vdev.first ≡ first
  pub children : shape.vdev.geometry.children ≡ length v.children
  pub parity : shape.vdev.geometry.parity ≡ v.parity
  pub sectors : shape.child_sectors ≡ v.child_sectors
  pub shift : shape.metaslab_shift ≡ v.slab_shift
  pub meta : shape.meta_slabs ≡ v.meta_slabs

-- the vdevs take the disks from that one on in order
abbrev pub AreShapesOf : List PlainVdev → ℕ → List VdevShape → Type 0
AreShapesOf [] first [] = Unit {0}
AreShapesOf [] first (shape ∷ shapes) = ⊥
AreShapesOf (v ∷ vdevs) first [] = ⊥
AreShapesOf (v ∷ vdevs) first (shape ∷ shapes) = IsShapeOf v first shape × AreShapesOf vdevs (first + length v.children) shapes
