-- The space of a vdev.
use Rattle.std.specs.Prelude.{ℕ, ◌≡◌, List, length, All}
use Rattle.metaslab.specs.Space.{Space, sectors_of}
use Rattle.block_store.specs.declared.shape.VdevShape.{VdevShape}
use Rattle.block_store.specs.Shapes.{metaslab_sectors, metaslabs}

-- a vdev, its metaslabs as the last committed group left them and as the plan of the next one has them, and the groups that are pinned
pub record VdevSpace : Type 0 where
  pub shape : VdevShape
  pub kept : List Space
  pub planned : List Space
  pub pins : List ℕ

-- there are as many metaslabs as the vdev has, and each has as many sectors
abbrev pub AreMetaslabsOf : VdevShape → List Space → Type 0
AreMetaslabsOf shape spaces = (length spaces ≡ metaslabs shape) × All (λ space. sectors_of space ≡ metaslab_sectors shape) spaces

-- so it is of the metaslabs as the last committed group left them, and as the plan has them
pub record IsSpace (space : VdevSpace) : Type 0 where
  pub kept : AreMetaslabsOf space.shape space.kept
  pub planned : AreMetaslabsOf space.shape space.planned
