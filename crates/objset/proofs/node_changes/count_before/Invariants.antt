use Rattle.std.proofs.Common.{ℕ, ◌<◌, get_or}
use Rattle.objset.specs.declared.node_writes.NodeWrite.{NodeWrite}
use Rattle.objset.proofs.node_changes.count_before.Given as goal

abbrev pub invariant-loop-i : goal.invariant-loop-i
invariant-loop-i l = (k : ℕ) (write : NodeWrite) → k < l.i → (get_or l.writes k write).number < l.end
