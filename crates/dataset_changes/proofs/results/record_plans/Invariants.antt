use Rattle.std.specs.BTreeMap.{btree_map_len}
use Rattle.dataset_changes.proofs.Emptying.{RecordsSoFar}
use Rattle.dataset_changes.proofs.results.record_plans.Given as goal

abbrev pub invariant-loop-number : goal.invariant-loop-number
invariant-loop-number l = RecordsSoFar l.fn.records l.rest l.plans

abbrev pub decreases-loop-number : goal.decreases-loop-number
decreases-loop-number l = btree_map_len l.rest
