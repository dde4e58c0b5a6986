use Rattle.std.specs.BTreeMap.{btree_map_len}
use Rattle.dataset_changes.proofs.Emptying.{ListsSoFar}
use Rattle.dataset_changes.proofs.results.plan_lists.Given as goal

abbrev pub invariant-loop-number : goal.invariant-loop-number
invariant-loop-number l = ListsSoFar l.fn.lists l.rest l.fn.plans l.plans

abbrev pub decreases-loop-number : goal.decreases-loop-number
decreases-loop-number l = btree_map_len l.rest
