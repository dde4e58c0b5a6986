-- Words of a pool that is opened.
use Rattle.std.specs.Prelude.{ℕ, ◌+◌, ◌*◌, ◌-◌, ◌^◌, List, [], ◌∷◌, map, min}
use Rattle.block_store.specs.declared.shape.VdevShape.{VdevShape}
use Rattle.pool_core.specs.Config.{shown}
use Rattle.pool_core.specs.Stamp.{Stamp}
use Rattle.pool_model.specs.View.{Vdev}
use Rattle.uberblock_ring.specs.declared.uberblock.Uberblock.{Uberblock}

-- the machine's vdevs of these shapes
abbrev pub vdevs_in : List VdevShape → List Vdev
vdevs_in shapes = map (λ shape. shown shape.vdev) shapes

-- how many sectors of 512 bytes for blocks the vdevs of these shapes have, over all their children
abbrev pub sectors_in : List VdevShape → ℕ
sectors_in [] = 0
sectors_in (shape ∷ shapes) = shape.child_sectors * shape.vdev.geometry.children + sectors_in shapes

-- how many blocks of a meta object set an open walks at most: each has a sector
abbrev pub most_blocks : List VdevShape → ℕ
most_blocks shapes = min (sectors_in shapes) (2 ^ 64 - 1)

-- what the uberblocks have that follow this one under its claim
abbrev pub stamp_of : Uberblock → Stamp
stamp_of u = record { guid_sum = u.guid_sum; claim = u.claim; config_digest = u.config_digest }
