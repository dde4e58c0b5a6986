use Rattle.std.proofs.Common.{◌≡◌, ◌++◌, take}
use Rattle.disk_set.specs.Outs.{stale_from}
use Rattle.disk_set.proofs.set.DiskSet.add_stale.Given as goal

abbrev pub invariant-loop-disk : goal.invariant-loop-disk
invariant-loop-disk g l = l.absent.items ≡ l.initial.absent.items ++ stale_from 0 (take l.disk l.self.spans.stale) l.birth
