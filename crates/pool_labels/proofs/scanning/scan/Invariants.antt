use Rattle.pool_labels.proofs.ScanSteps.{ScanTo}
use Rattle.pool_labels.proofs.scanning.scan.Given as goal

abbrev pub invariant-loop-which : goal.invariant-loop-which
invariant-loop-which g l = ScanTo l.fn.disks l.disks l.which l.scan.disks.items l.scan.labels.items l.scan.slots.items
