use Rattle.std.proofs.Common.{◌≡◌}
use Rattle.disk_set.specs.Making.{AreRowsOf}
use Rattle.disk_set.proofs.making.give_rows.Given as goal

abbrev pub invariant-loop-row : goal.invariant-loop-row
invariant-loop-row l = record {
  same : l.due.items ≡ l.fn.due.items;
  rows : AreRowsOf l.fn.due.items l.rows.items;
}

abbrev pub decreases-loop-row : goal.decreases-loop-row
decreases-loop-row l = goal.left-loop-row l
