use Rattle.std.proofs.Common.{◌≡◌, [], None, map, replicate, take}
use Rattle.model_disk.specs.Member.{start_of, calls_of, disk_of}
use Rattle.pool_members.proofs.arranging.stand_ins.Given as goal

-- the children so far
abbrev pub invariant-loop-child : goal.invariant-loop-child
invariant-loop-child g l =
    record {
      disks : map disk_of l.members.items ≡ map (λ _. None) (take l.child-index l.children);
      starts : map (start_of g.D.Disk) l.members.items ≡ map (λ child. replicate child.size 0) (take l.child-index l.children);
      calls : map (calls_of g.D.Disk) l.members.items ≡ map (λ _. []) (take l.child-index l.children);
    }
