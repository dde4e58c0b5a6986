use Rattle.std.proofs.Common.{take}
use Rattle.dataset_snapshots.specs.Chaining.{AreCountsOf}
use Rattle.dataset_snapshots.proofs.chaining.count_behind.Given as goal

-- the counts are those of the records so far
abbrev pub invariant-loop-one : goal.invariant-loop-one
invariant-loop-one l = AreCountsOf (take l.one-index l.records) l.counts
