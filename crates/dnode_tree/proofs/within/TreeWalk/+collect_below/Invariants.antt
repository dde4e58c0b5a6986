use Rattle.std.proofs.Common.{◌≡◌, ◌≤◌, ◌+◌, ◌-◌}
use Rattle.dnode_tree.proofs.Picking.{IsPicking}
use Rattle.dnode_tree.proofs.WalksWhere.{HaveWalkedWhere}
use Rattle.dnode_tree.specs.Tree.{property_of}
use Rattle.dnode_tree.specs.Within.{indirect_count}
use Rattle.dnode_tree.specs.Younger.{is_picked}
use Rattle.dnode_tree.proofs.within.TreeWalk.+collect_below.Given as goal

abbrev pub decreases-collect_below : goal.decreases-collect_below
decreases-collect_below g l = l.part.level

abbrev pub invariant-loop-pointer : goal.invariant-loop-pointer
invariant-loop-pointer g l = record {
  picking : IsPicking (is_picked l.self.since) l.initial.store l.store l.self.missing.now l.self.node.now (l.part.level - 1) l.block.birth l.pointer-items l.pointer-index l.initial.found.items l.found.items;
  walked : HaveWalkedWhere (is_picked l.self.since) l.initial.store.spaces (property_of l.self.node.now) (l.part.level - 1) l.block.birth l.pointer-items l.pointer-index l.initial.found.items l.found.items;
  count : l.initial.left + indirect_count l.initial.found.items ≡ l.left + indirect_count l.found.items;
  fewer : l.left ≤ l.initial.left;
}
