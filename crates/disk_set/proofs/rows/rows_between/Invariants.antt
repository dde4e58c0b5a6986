use Rattle.disk_set.specs.Making.{AreRowsOf}
use Rattle.disk_set.proofs.rows.rows_between.Given as goal

abbrev pub invariant-loop-place : goal.invariant-loop-place
invariant-loop-place l = AreRowsOf l.due.items l.rows.items
