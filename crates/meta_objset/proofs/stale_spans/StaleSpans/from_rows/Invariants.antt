use Rattle.std.proofs.Common.{length}
use Rattle.meta_objset.specs.StaleSpans.{FitsSpan, span_bytes}
use Rattle.meta_objset.proofs.Ordered.{AreReadInOrder}
use Rattle.meta_objset.proofs.Spans.{Earlier}
use Rattle.meta_objset.proofs.stale_spans.StaleSpans.from_rows.Given as goal

abbrev pub invariant-loop-rest : goal.invariant-loop-rest
invariant-loop-rest l = AreReadInOrder span_bytes FitsSpan Earlier l.bytes l.rest l.rows.items

abbrev pub decreases-loop-rest : goal.decreases-loop-rest
decreases-loop-rest l = length l.rest
