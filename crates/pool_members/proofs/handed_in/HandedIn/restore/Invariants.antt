use Rattle.std.proofs.Common.{◌≡◌, ◌≤◌, ◌+◌, ◌++◌, length, vec_capacity}
use Rattle.std.specs.VecDeque.{deque_len}
use Rattle.pool_members.specs.HandedIn.{AreEachOfOne, disks_back}
use Rattle.pool_members.proofs.handed_in.HandedIn.restore.Given as goal

-- what came back, and what is left
abbrev pub invariant-restoring : goal.invariant-restoring
invariant-restoring g l =
    record {
      back : l.disks.items ++ disks_back l.members.items l.left.items ≡ disks_back l.fn.members.items l.fn.self;
      once : AreEachOfOne l.left.items;
      room : length l.disks.items + length l.left.items ≤ vec_capacity l.disks;
    }

abbrev pub decreases-restoring : goal.decreases-restoring
decreases-restoring g l = deque_len l.left
