use Rattle.std.proofs.Common.{◌≡◌, ◌≤◌, length, take, vec_capacity}
use Rattle.pool_members.specs.HandedIn.{places_of_disks}
use Rattle.pool_members.proofs.Members.{AreMembers}
use Rattle.pool_members.proofs.arranging.arrange.Given as goal

-- the disks so far
abbrev pub invariant-loop-place : goal.invariant-loop-place
invariant-loop-place g l =
    record {
      members : AreMembers g.D.Disk (take (length l.yielded) l.fn.disks.items) l.children l.members.items;
      places : l.places.items ≡ places_of_disks (take (length l.yielded) l.fn.disks.items) l.namers.items;
      room : length l.fn.disks.items ≤ vec_capacity l.places;
    }
