use Rattle.dnode_tree.proofs.Getting.{IsGetting}
use Rattle.dnode_tree.proofs.many.TreeReading.+add_below.Given as goal

abbrev pub decreases-add_below : goal.decreases-add_below
decreases-add_below g l = l.part.level

abbrev pub invariant-loop-place : goal.invariant-loop-place
invariant-loop-place g l =
    IsGetting l.fn.store l.initial.store l.store l.self.missing.now l.self.node.now l.fn.part l.first l.level l.block.birth l.children-inside.pointers.items l.ids l.rest l.place l.initial.found.items l.found.items
