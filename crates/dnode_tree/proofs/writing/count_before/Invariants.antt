use Rattle.std.proofs.Common.{ℕ, ◌<◌, get_or}
use Rattle.dnode_tree.specs.declared.writes.BlockWrite.{BlockWrite}
use Rattle.dnode_tree.proofs.writing.count_before.Given as goal

abbrev pub invariant-loop-i : goal.invariant-loop-i
invariant-loop-i l = (k : ℕ) (write : BlockWrite) → k < l.i → (get_or l.writes k write).id < l.end
