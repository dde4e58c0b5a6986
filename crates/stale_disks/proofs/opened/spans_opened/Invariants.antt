use Rattle.stale_disks.specs.Rules.{OpensAs}
use Rattle.stale_disks.proofs.Steps.{AreMade}
use Rattle.stale_disks.proofs.opened.spans_opened.Given as goal

abbrev pub invariant-loop-index : goal.invariant-loop-index
invariant-loop-index l = AreMade (OpensAs l.guids l.out l.group) l.index l.rows l.spans
