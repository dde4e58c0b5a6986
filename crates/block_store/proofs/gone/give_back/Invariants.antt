use Rattle.std.proofs.Common.{drop}
use Rattle.block_store.specs.Releases.{copies_of_all}
use Rattle.block_store.proofs.Giving.{GivesUpTo}
use Rattle.block_store.proofs.gone.give_back.Given as goal

-- the copies of the blocks that are left are left
abbrev pub invariant-loop-block : goal.invariant-loop-block
invariant-loop-block l = GivesUpTo l.at (copies_of_all l.gone) (copies_of_all (drop l.block-index l.gone)) l.fn.free l.free
