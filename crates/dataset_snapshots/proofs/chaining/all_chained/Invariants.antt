use Rattle.std.proofs.Common.{ℕ, ◌<◌, get_or}
use Rattle.dataset_snapshots.specs.declared.chaining.RowRecord.{RowRecord}
use Rattle.dataset_snapshots.specs.Chaining.{IsChained}
use Rattle.dataset_snapshots.proofs.chaining.all_chained.Given as goal

-- the records so far fit the others
abbrev pub invariant-loop-one : goal.invariant-loop-one
invariant-loop-one l = (k : ℕ) (d : RowRecord) → k < l.one-index → IsChained l.records (get_or l.records k d)
