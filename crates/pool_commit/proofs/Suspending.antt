-- What leaves a pool suspended, or not.
use Rattle.std.proofs.Common.{◌≡◌, sym}
use Rattle.std.specs.Prelude.{map, not}
use Rattle.block_store.specs.declared.shape.VdevShape.{VdevShape}
use Rattle.block_store.specs.Places.{shapes_of}
use Rattle.block_store.specs.Store.{Store, is_out}
use Rattle.pool_model.specs.View.{is_tolerable}
use Rattle.pool_commit.specs.Config.{shown}
use Rattle.pool_commit.specs.Suspension.{lacks_disks}

-- as long as the same disks of the same vdevs are out
pub still : (old new : Store) → new.out ≡ old.out → shapes_of new.spaces ≡ shapes_of old.spaces → lacks_disks old ≡ lacks_disks new
still old new out shapes = sym (λ i. not (is_tolerable (map (λ (shape : VdevShape). shown shape.vdev) (shapes i)) (is_out (out i))))
