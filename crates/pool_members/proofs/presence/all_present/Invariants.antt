use Rattle.std.proofs.Common.{◌≡◌, ◌≤◌, Some, length, map, take, vec_capacity}
use Rattle.model_disk.specs.Member.{start_of, calls_of, disk_of}
use Rattle.pool_members.specs.HandedIn.{own_places}
use Rattle.pool_members.proofs.presence.all_present.Given as goal

-- the disks so far
abbrev pub invariant-loop-place : goal.invariant-loop-place
invariant-loop-place g l =
    let front = take (length l.yielded) l.fn.disks.items in
    record {
      disks : map disk_of l.members.items ≡ map Some front;
      starts : map (start_of g.D.Disk) l.members.items ≡ map g.D.Disk.start front;
      calls : map (calls_of g.D.Disk) l.members.items ≡ map g.D.Disk.calls front;
      places : l.places.items ≡ own_places (length front);
      room : length l.fn.disks.items ≤ vec_capacity l.places;
      enough : length l.fn.disks.items ≤ vec_capacity l.members;
    }
