use Rattle.std.proofs.Common.{◌≡◌, ◌++◌}
use Rattle.std.specs.BTreeMap.{btree_map_len}
use Rattle.volume_rules.specs.Shapes.{rows_in}
use Rattle.volume_rules.proofs.index.into_rows.Given as goal

-- the rows so far and those of what is left are all rows
abbrev pub invariant-loop-key : goal.invariant-loop-key
invariant-loop-key l = l.rows.items ++ rows_in l.rest.entries ≡ rows_in l.fn.shapes.entries

abbrev pub decreases-loop-key : goal.decreases-loop-key
decreases-loop-key l = btree_map_len l.rest
