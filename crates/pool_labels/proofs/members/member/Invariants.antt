use Rattle.pool_labels.specs.Choices.{IsPresentAs}
use Rattle.pool_labels.proofs.Lists.{NoneTo}
use Rattle.pool_labels.proofs.members.member.Given as goal

abbrev pub invariant-loop-label : goal.invariant-loop-label
invariant-loop-label l = NoneTo (λ s. IsPresentAs l.scan.disks.items l.sectors l.guid s.disk s.reading) l.scan.labels.items l.label-index
