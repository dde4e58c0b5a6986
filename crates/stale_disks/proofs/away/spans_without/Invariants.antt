use Rattle.std.proofs.Common.{◌≡◌, true}
use Rattle.meta_objset.specs.declared.stale_spans.StaleSpan.{StaleSpan}
use Rattle.stale_disks.specs.Rules.{IsOfDisk}
use Rattle.stale_disks.proofs.Steps.{AreMade}
use Rattle.stale_disks.proofs.away.spans_without.Given as goal

abbrev pub invariant-loop-index : goal.invariant-loop-index
invariant-loop-index l = AreMade (λ row span. (¬ IsOfDisk l.guids l.marks true row.disk) × (span ≡ row)) l.index l.rows l.spans
