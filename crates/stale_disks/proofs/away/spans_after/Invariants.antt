use Rattle.stale_disks.proofs.Steps.{AreAway}
use Rattle.stale_disks.proofs.away.spans_after.Given as goal

abbrev pub invariant-loop-disk : goal.invariant-loop-disk
invariant-loop-disk l = AreAway l.disk l.guids l.out l.group l.before l.after
