use Rattle.std.proofs.Common.{◌≤◌, ◌*◌}
use Rattle.pool_open.proofs.Lists.{AreShapesBefore}
use Rattle.pool_open.proofs.shapes.shapes_of.Given as goal

abbrev pub invariant-loop-i : goal.invariant-loop-i
invariant-loop-i l = AreShapesBefore l.config.vdevs.items l.i l.first l.shapes.items × (l.first ≤ 32 * l.i)
