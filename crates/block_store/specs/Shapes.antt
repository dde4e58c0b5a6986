-- The parts of a vdev.
use Rattle.std.specs.Prelude.{ℕ, ◌≡◌, ◌≢◌, ◌+◌, ◌-◌, ◌*◌, ◌/◌, ◌%◌, ◌<◌, ◌≤◌, ◌^◌}
use Rattle.block_pointer.specs.declared.dva.Dva.{Dva}
use Rattle.raidz_map.specs.Layout.{asize}
use Rattle.block_store.specs.declared.shape.VdevShape.{VdevShape}

-- how many sectors a vdev has, and each of its metaslabs; and how many metaslabs it has
abbrev pub vdev_sectors : VdevShape → ℕ
vdev_sectors shape = shape.vdev.geometry.children * shape.child_sectors

-- how many sectors of 512 bytes each metaslab of the vdev has
abbrev pub metaslab_sectors : VdevShape → ℕ
metaslab_sectors shape = 2 ^ shape.metaslab_shift

-- how many metaslabs the vdev has: sectors at its end that fill none are in no metaslab
abbrev pub metaslabs : VdevShape → ℕ
metaslabs shape = vdev_sectors shape / metaslab_sectors shape

-- which metaslab a copy begins in, and at which of its sectors
abbrev pub metaslab_of : VdevShape → Dva → ℕ
metaslab_of shape place = place.offset / metaslab_sectors shape

-- at which sector of its metaslab a copy begins
abbrev pub sector_of : VdevShape → Dva → ℕ
sector_of shape place = place.offset % metaslab_sectors shape

-- a copy of a block of so many sectors may lie there: it has the size that it must have, and is in one metaslab
pub record IsPlace (shape : VdevShape) (sectors : ℕ) (place : Dva) : Type 0 where
  pub allocated : place.allocated ≡ asize shape.vdev.geometry sectors
  pub metaslab : metaslab_of shape place < metaslabs shape
  pub one : sector_of shape place + place.allocated ≤ metaslab_sectors shape

-- The last metaslabs of a vdev, from this one on, are its meta region.
abbrev pub first_meta : VdevShape → ℕ
first_meta shape = metaslabs shape - shape.meta_slabs

-- the vdev has a meta region, and metaslabs before it
pub record HasRegions (shape : VdevShape) : Type 0 where
  pub meta : 1 ≤ shape.meta_slabs
  pub others : shape.meta_slabs < metaslabs shape

-- The metaslab is in the region for a block of so many copies: blocks of the meta object set, which alone have three, go to the meta
-- region, and all others to the metaslabs before it.
pub record IsInRegion (shape : VdevShape) (copies metaslab : ℕ) : Type 0 where
  pub meta : copies ≡ 3 → first_meta shape ≤ metaslab
  pub others : copies ≢ 3 → metaslab < first_meta shape
