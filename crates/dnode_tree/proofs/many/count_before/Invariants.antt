use Rattle.std.proofs.Common.{ℕ, ◌<◌, get_or}
use Rattle.dnode_tree.proofs.many.count_before.Given as goal

abbrev pub invariant-loop-i : goal.invariant-loop-i
invariant-loop-i l = (k d : ℕ) → k < l.i → get_or l.ids k d < l.end
