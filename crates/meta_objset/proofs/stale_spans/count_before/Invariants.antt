use Rattle.std.proofs.Common.{ℕ, ◌<◌, get_or}
use Rattle.meta_objset.specs.declared.stale_spans.StaleSpan.{StaleSpan}
use Rattle.meta_objset.proofs.stale_spans.count_before.Given as goal

abbrev pub invariant-loop-i : goal.invariant-loop-i
invariant-loop-i l = (k : ℕ) (other : StaleSpan) → k < l.i → (get_or l.spans k other).disk < l.disk
