use Rattle.std.proofs.Common.{◌≡◌, take}
use Rattle.disk_set.specs.Outs.{outs_from}
use Rattle.disk_set.proofs.set.DiskSet.absent.Given as goal

abbrev pub invariant-loop-disk : goal.invariant-loop-disk
invariant-loop-disk g l = l.absent.items ≡ outs_from 0 (take l.disk l.self.out)
