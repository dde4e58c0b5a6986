use Rattle.std.proofs.Common.{◌≡◌, ◌++◌, drop}
use Rattle.file_pools.specs.Telling.{disk_rows}
use Rattle.file_pools.proofs.telling.disks_of.Given as goal

abbrev pub invariant-loop-guid : goal.invariant-loop-guid
invariant-loop-guid l = l.disks.items ++ disk_rows l.number (drop l.guid-index l.guids) l.fn.out l.fn.spans ≡ disk_rows l.fn.first l.fn.guids l.fn.out l.fn.spans
