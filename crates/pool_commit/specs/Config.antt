-- The vdevs of a pool that is to be made.
use Rattle.std.specs.Prelude.{ℕ, ◌+◌, List, [], ◌∷◌, map}
use Rattle.block_store.specs.declared.create.VdevConfig.{VdevConfig}
use Rattle.raidz_io.specs.declared.vdev.Vdev.{Vdev as VdevOnDisks}
use Rattle.block_store.specs.Spaces.{VdevSpace}
use Rattle.block_store.specs.Places.{shapes_of}
use Rattle.pool_model.specs.View.{Vdev}

-- a vdev as the machine knows it
abbrev pub shown : VdevOnDisks → Vdev
shown vdev = record { first = vdev.first; children = vdev.geometry.children; parity = vdev.geometry.parity }

-- the vdevs of a store, as the machine knows them
abbrev pub vdevs_of : List VdevSpace → List Vdev
vdevs_of spaces = map (λ shape. shown shape.vdev) (shapes_of spaces)

-- the vdevs that were asked for take the disks in order, from that one on
abbrev pub vdevs_from : ℕ → List VdevConfig → List Vdev
vdevs_from first [] = []
vdevs_from first (config ∷ configs) =
    record { first = first; children = config.geometry.children; parity = config.geometry.parity } ∷ vdevs_from (first + config.geometry.children) configs
