use Rattle.std.proofs.Common.{ℕ, List, ◌≡◌, ◌*◌, ◌++◌, All}
use Rattle.dnode.specs.Node.{FitsNode}
use Rattle.dnode.specs.declared.dnode.Dnode.{Dnode}
use Rattle.objset.specs.declared.node_walks.FoundNode.{FoundNode}
use Rattle.objset.specs.NodeSlots.{HasSlots}
use Rattle.objset.specs.NodesWithin.{objects_from, IsNodeAt}
use Rattle.objset.proofs.node_walks.add_nodes.Given as goal

abbrev pub invariant-loop-place : goal.invariant-loop-place
invariant-loop-place l = record {
  fits : All (λ it. FitsNode it.node) l.initial.nodes.items → All (λ it. FitsNode it.node) l.nodes.items;
  added : List FoundNode;
  added_are : l.nodes.items ≡ l.initial.nodes.items ++ added;
  at : All (IsNodeAt l.bytes l.birth) added;
  value : (id : ℕ) (dnodes : ℕ → Dnode) (births : ℕ → ℕ → ℕ) → HasSlots l.bytes id dnodes → births 0 id ≡ l.birth
      → l.nodes.items ≡ l.initial.nodes.items ++ objects_from dnodes births (32 * id) l.place;
}
