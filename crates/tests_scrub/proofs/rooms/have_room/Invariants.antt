use Rattle.std.proofs.Common.{ℕ, ◌≡◌, ◌<◌, Some, slice_get}
use Rattle.block_store.specs.declared.shape.VdevShape.{VdevShape}
use Rattle.raidz_io.specs.Places.{HasRoom}
use Rattle.tests_scrub.proofs.rooms.have_room.Given as goal

abbrev pub invariant-loop-vdev : goal.invariant-loop-vdev
invariant-loop-vdev g l =
    (v : ℕ) (shape : VdevShape) → v < l.vdev → slice_get l.fn.shapes v ≡ Some shape
    → HasRoom shape.vdev shape.child_sectors l.fn.disks.starts
