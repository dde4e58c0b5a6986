use Rattle.std.proofs.Common.{ℕ, ◌≡◌, ◌+◌, ◌≤◌, List, Option, All, take}
use Rattle.std.specs.List.{flat_map}
use Rattle.block_store.specs.Blocks.{Contents}
use Rattle.block_store.specs.Steps.{OnlyReadsBlocks, AnswersTell}
use Rattle.block_store.specs.Store.{Holds}
use Rattle.dnode.specs.Node.{FitsNode}
use Rattle.dnode.specs.declared.dnode.Dnode.{Dnode}
use Rattle.dnode_tree.proofs.Ids.{HaveIds, at_id}
use Rattle.dnode_tree.specs.Within.{indirect_count}
use Rattle.objset.specs.Nodes.{AreNodesOf}
use Rattle.objset.specs.NodesWithin.{objects_in, IsNodeOfOne}
use Rattle.objset.proofs.node_walks.nodes_younger.Given as goal

abbrev pub invariant-loop-block : goal.invariant-loop-block
invariant-loop-block g l = record {
  reads : OnlyReadsBlocks l.initial.store l.store l.missing;
  fewer : l.left ≤ l.initial.left;
  count : l.initial.left + indirect_count (take l.block-index l.block-items) ≡ l.left + l.block-index;
  fits : All (λ it. FitsNode it.node) l.nodes.items;
  from : All (IsNodeOfOne l.initial.store.spaces l.block-items) l.nodes.items;
  value : (stored : Contents) (array : ℕ → Option (List ℕ)) (nodes : ℕ → Dnode) (births : ℕ → ℕ → ℕ) (ids : List (Option ℕ)) → Holds l.initial.store stored
      → AreNodesOf array nodes → HaveIds stored l.set.dnodes array births l.block-items ids → AnswersTell l.initial.store l.store l.missing
      → l.nodes.items ≡ flat_map (at_id (objects_in nodes births)) (take l.block-index ids);
}
