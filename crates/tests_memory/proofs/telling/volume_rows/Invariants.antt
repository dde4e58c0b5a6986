use Rattle.std.proofs.Common.{◌≡◌, map, take}
use Rattle.commands.specs.Rows.{listed}
use Rattle.tests_memory.specs.Telling.{listed_at}
use Rattle.tests_memory.proofs.telling.volume_rows.Given as goal

abbrev pub invariant-loop-row : goal.invariant-loop-row
invariant-loop-row l = map listed l.told.items ≡ map listed_at (take l.row-index l.rows)
