use Rattle.std.proofs.Common.{ℕ, ◌+◌, ◌<◌, ◌≤◌, length}
use Rattle.model_disk.specs.Joint.{bytes_of}
use Rattle.raidz_io.specs.Places.{offset_of_sector}
use Rattle.tests_scrub.proofs.rooms.has_room.Given as goal

abbrev pub invariant-loop-child : goal.invariant-loop-child
invariant-loop-child g l =
    (k : ℕ) → k < l.child → offset_of_sector l.fn.shape.child_sectors ≤ length (bytes_of l.fn.disks.starts (l.fn.shape.vdev.first + k))
