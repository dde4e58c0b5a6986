use Rattle.std.proofs.Common.{take}
use Rattle.dataset_snapshots.specs.Chaining.{IsIndexOf}
use Rattle.dataset_snapshots.proofs.chaining.index_of.Given as goal

-- the index is that of the records so far
abbrev pub invariant-loop-one : goal.invariant-loop-one
invariant-loop-one l = IsIndexOf (take l.one-index l.records) l.index
