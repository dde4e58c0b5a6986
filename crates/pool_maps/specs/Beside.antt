-- What is planned and given back in the meta regions, beside what the space maps are of.
use Rattle.std.specs.Prelude.{ℕ, ◌≡◌, ◌<◌, ◌≤◌, Some, List, slice_get, All}
use Rattle.block_pointer.specs.declared.block.Block.{Block}
use Rattle.block_store.specs.Places.{planned, shapes_of}
use Rattle.block_store.specs.Releases.{CopyAt, copies_of_all}
use Rattle.block_store.specs.Shapes.{first_meta, metaslab_of}
use Rattle.block_store.specs.Spaces.{VdevSpace}

-- with the plan the metaslabs before the meta regions are the same
pub record AreSameBefore (spaces after : List VdevSpace) : Type 0 where
  pub shapes : shapes_of after ≡ shapes_of spaces
  pub same : (vdev metaslab : ℕ) (space new : VdevSpace) → slice_get spaces vdev ≡ Some space → slice_get after vdev ≡ Some new
      → metaslab < first_meta space.shape → slice_get (planned new) metaslab ≡ slice_get (planned space) metaslab

-- the copy lies in the meta region of its vdev, where there is such a vdev
abbrev pub IsInMeta : List VdevSpace → CopyAt → Type 0
IsInMeta spaces copy =
    (space : VdevSpace) → slice_get spaces copy.place.vdev ≡ Some space → first_meta space.shape ≤ metaslab_of space.shape copy.place

-- the copy lies before the meta region of its vdev, where there is such a vdev
abbrev pub IsBeforeMeta : List VdevSpace → CopyAt → Type 0
IsBeforeMeta spaces copy =
    (space : VdevSpace) → slice_get spaces copy.place.vdev ≡ Some space → metaslab_of space.shape copy.place < first_meta space.shape

-- all copies of these blocks lie in the meta regions
abbrev pub LieInMeta : List VdevSpace → List Block → Type 0
LieInMeta spaces blocks = All (IsInMeta spaces) (copies_of_all blocks)

-- all copies of these blocks lie before the meta regions
abbrev pub LieBeforeMeta : List VdevSpace → List Block → Type 0
LieBeforeMeta spaces blocks = All (IsBeforeMeta spaces) (copies_of_all blocks)
