use Rattle.std.proofs.Common.{map}
use Rattle.vdev_label.specs.Plain.{vdev_view}
use Rattle.pool_labels.proofs.MemberLemmas.{EnoughTo}
use Rattle.pool_labels.proofs.members.are_enough.Given as goal

abbrev pub invariant-loop-i : goal.invariant-loop-i
invariant-loop-i l = EnoughTo (map vdev_view l.vdevs) l.all l.i
