use Rattle.std.proofs.Common.{take}
use Rattle.dead_list.specs.Rows.{SpellsRows}
use Rattle.dead_list.proofs.rows.rows_of.Given as goal

abbrev pub invariant-loop-block : goal.invariant-loop-block
invariant-loop-block l = SpellsRows l.bytes.items (take l.block-index l.blocks)
