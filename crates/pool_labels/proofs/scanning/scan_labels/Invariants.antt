use Rattle.pool_labels.proofs.FourLabels.{FourTo}
use Rattle.pool_labels.proofs.scanning.scan_labels.Given as goal

abbrev pub invariant-loop-number : goal.invariant-loop-number
invariant-loop-number g l = FourTo l.fn.disks l.disks l.which l.number l.labels.items
