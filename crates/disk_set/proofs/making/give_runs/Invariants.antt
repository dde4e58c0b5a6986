use Rattle.std.proofs.Common.{◌≡◌, All, Vec, Global}
use Rattle.disk_set.specs.declared.rows.MadeRow.{MadeRow}
use Rattle.disk_set.specs.Making.{AreRowsOf}
use Rattle.disk_set.proofs.making.give_runs.Given as goal

abbrev pub invariant-loop-rows : goal.invariant-loop-rows
invariant-loop-rows l = record {
  same : l.due.items ≡ l.fn.due.items;
  runs : All (λ (rows : Vec MadeRow Global). AreRowsOf l.fn.due.items rows.items) l.runs.items;
}

abbrev pub decreases-loop-rows : goal.decreases-loop-rows
decreases-loop-rows l = goal.left-loop-rows l
