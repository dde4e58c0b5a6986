use Rattle.std.proofs.Common.{take}
use Rattle.std.specs.Prelude.{IsPermutation}
use Rattle.dead_list_objects.proofs.making.list_of.Given as goal

abbrev pub invariant-loop-block : goal.invariant-loop-block
invariant-loop-block l = IsPermutation (take l.block-index l.blocks) l.list
