use Rattle.std.proofs.Common.{◌≡◌, take}
use Rattle.meta_objset.specs.StaleSpans.{spans_bytes}
use Rattle.meta_objset.proofs.stale_spans.StaleSpans.to_rows.Given as goal

abbrev pub invariant-loop-span : goal.invariant-loop-span
invariant-loop-span l = l.bytes.items ≡ spans_bytes (take l.span-index l.span-items)
