use Rattle.std.proofs.Common.{◌≡◌, length, min}
use Rattle.programs.specs.DisksKept.{put_back as put}
use Rattle.programs.proofs.disks_kept.put_back.Given as goal

-- the disks of those so far
abbrev pub invariant-loop-member : goal.invariant-loop-member
invariant-loop-member l =
    (l.disks.items ≡ put l.fn.disks.items l.yielded) × (length l.disks.items ≡ length l.fn.disks.items) × (l.number ≡ min (length l.yielded) (length l.fn.disks.items))
