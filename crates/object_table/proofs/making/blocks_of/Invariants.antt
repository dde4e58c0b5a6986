use Rattle.object_table.specs.Made.{AreBlocksOf}
use Rattle.object_table.proofs.making.blocks_of.Given as goal

abbrev pub invariant-loop-place : goal.invariant-loop-place
invariant-loop-place l = AreBlocksOf l.fn.first l.bytes l.place l.writes.items
