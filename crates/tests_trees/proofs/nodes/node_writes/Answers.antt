use Rattle.std.proofs.Common.{◌<◌, ◌+◌, List, All, slice_index_or, sym, subst, arith}
use Rattle.objset.specs.declared.node_writes.NodeWrite.{NodeWrite}
use Rattle.objset.specs.NodeWrites.{AreNodeWrites, FitsWrite}
use Rattle.tests_trees.proofs.Pushed.{pushed}
use Rattle.tests_trees.proofs.nodes.node_writes.Goals as goal

pub loop-pair-preserved : goal.loop-pair-preserved
loop-pair-preserved c =
    let write : NodeWrite = record { number = slice_index_or c.in-Some.pair.now 0 0; node = c.dnode_of-node.result } in
    let (some, below, good) = c.loop-pair.invariant in
    let fits : FitsWrite write =
    record {
      some = omega (arith, some, c.if-number-next.false);
      number = omega (arith, c.if-number-ge-NUMBERS_END.false);
      node = c.dnode_of-node.ensures;
    } in
    let both = pushed c.loop-pair.writes.items c.loop-pair.next write (omega (arith, c.if-number-next.false)) fits below good in
    subst (λ (items : List NodeWrite). (0 < write.number + 1) × All (λ it. it.number < write.number + 1) items × AreNodeWrites items)
    (sym c.in_ok-push.ensures.items)
    (omega arith, both.0, both.1)
