use Rattle.std.proofs.Common.{sym}
use Rattle.objset.proofs.set_blocks.plan_set.Goals as goal

pub returns-clause-copies : goal.returns-clause-copies
returns-clause-copies g c = rw (sym c.of_kind-copies.ensures.are) c.plan_set.ensures.copies

pub returns-clause-no_room : goal.returns-clause-no_room
returns-clause-no_room g c = rw (sym c.of_kind-copies.ensures.are) c.plan_set.ensures.no_room

pub returns-clause-places : goal.returns-clause-places
returns-clause-places g c = rw (sym c.of_kind-copies.ensures.are) c.plan_set.ensures.places
