use Rattle.std.proofs.Common.{map}
use Rattle.vdev_label.specs.Plain.{vdev_view}
use Rattle.pool_labels.proofs.MemberLemmas.{AllMembersTo}
use Rattle.pool_labels.proofs.members.all_members.Given as goal

abbrev pub invariant-loop-i : goal.invariant-loop-i
invariant-loop-i l = AllMembersTo l.scan (map vdev_view l.vdevs) l.i l.all.items
