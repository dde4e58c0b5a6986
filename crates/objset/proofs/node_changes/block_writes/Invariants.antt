use Rattle.std.proofs.Common.{length}
use Rattle.objset.proofs.ChangedBlocks.{IsChanging}
use Rattle.objset.proofs.node_changes.block_writes.Given as goal

abbrev pub invariant-loop-first : goal.invariant-loop-first
invariant-loop-first g l = IsChanging l.set l.fn.store l.store l.missing l.birth l.writes l.rest l.changed.items

abbrev pub decreases-loop-first : goal.decreases-loop-first
decreases-loop-first g l = length l.rest
