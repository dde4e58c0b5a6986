use Rattle.stale_disks.specs.Rules.{IsOfFirst}
use Rattle.stale_disks.proofs.disks.has_disk.Given as goal

abbrev pub invariant-loop-disk : goal.invariant-loop-disk
invariant-loop-disk l = ¬ IsOfFirst l.disk l.guids l.out l.is l.guid
