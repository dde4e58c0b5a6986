use Rattle.std.proofs.Common.{◌++◌, IsPermutation, take}
use Rattle.dataset_changes.proofs.lists.pushed.Given as goal

abbrev pub invariant-loop-block : goal.invariant-loop-block
invariant-loop-block l = IsPermutation (l.fn.list ++ take l.block-index l.added) l.list
