use Rattle.std.proofs.Common.{[]}
use Rattle.block_store.specs.Steps.{OnlyReadsBlocks}
use Rattle.dataset_snapshots.specs.Numbering.{AreUnused}
use Rattle.dataset_snapshots.proofs.numbering.are_unused.Given as goal

-- the numbers so far are unused
abbrev pub invariant-loop-number : goal.invariant-loop-number
invariant-loop-number g l = record {
  reads : OnlyReadsBlocks l.fn.store l.store [];
  unused : AreUnused l.fn.store l.store l.set l.birth l.fn.run.first l.number;
}
