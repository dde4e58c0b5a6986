use Rattle.std.proofs.Common.{take}
use Rattle.objset.proofs.Placing.{ArePlacedFor}
use Rattle.objset.proofs.Underway.{IsUnderway}
use Rattle.objset.proofs.changes.Changing.change_each.Given as goal

abbrev pub invariant-loop-change : goal.invariant-loop-change
invariant-loop-change g l =
    IsUnderway l.self.copies l.fn.store l.store l.self.missing.now l.set l.self.birth (take l.change-index l.changes) l.writes.items l.fn.replaced.items l.replaced.items
    × ArePlacedFor l.self l.fn.store l.store l.set (take l.change-index l.changes) l.writes.items
