use Rattle.std.proofs.Common.{All, ◌≡◌, ◌+◌, ◌++◌, ◌<◌, ◌≤◌, List, take}
use Rattle.block_pointer.specs.declared.block.Block.{Block}
use Rattle.block_store.specs.Blocks.{Contents}
use Rattle.block_store.specs.Steps.{OnlyReadsBlocks, AnswersTell}
use Rattle.block_store.specs.Store.{Holds}
use Rattle.dnode_tree.specs.Subtree.{joined}
use Rattle.dnode_tree.specs.Within.{indirect_count}
use Rattle.objset.proofs.WithinLemmas.{HaveTrees}
use Rattle.objset.proofs.YoungerLemmas.{younger_parts}
use Rattle.objset.proofs.within.walk_younger.Given as goal

abbrev pub invariant-loop-it : goal.invariant-loop-it
invariant-loop-it g l = record {
  reads : OnlyReadsBlocks l.initial.store l.store l.missing;
  fewer : l.left ≤ l.initial.left;
  below : List Block;
  are : l.found.items ≡ l.initial.found.items ++ below;
  young : All (λ block. l.since < block.birth) l.found.items;
  count : l.initial.left ≡ l.left + indirect_count below;
  value : (stored : Contents) (parts : List (List Block)) → Holds l.initial.store stored → HaveTrees stored l.it-items parts → AnswersTell l.initial.store l.store l.missing
      → below ≡ joined (take l.it-index (younger_parts l.since parts));
}
