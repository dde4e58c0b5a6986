use Rattle.pool_labels.proofs.MemberLemmas.{MembersTo}
use Rattle.pool_labels.proofs.members.members.Given as goal

abbrev pub invariant-loop-i : goal.invariant-loop-i
invariant-loop-i l = MembersTo l.scan l.vdev.child_sectors l.vdev.children.items l.i l.found.items
