use Rattle.dnode_tree.proofs.PutRefused.{IsGrowing}
use Rattle.dnode_tree.proofs.Raised.{HaveRaised}
use Rattle.dnode_tree.proofs.WholeTree.{IsRaising}
use Rattle.dnode_tree.proofs.putting.put_many.Given as goal

abbrev pub invariant-loop-level : goal.invariant-loop-level
invariant-loop-level g l =
    IsRaising l.rewriting.copies l.fn.store l.store l.rewriting.missing.now l.rewriting.node.now l.level l.rewriting.birth l.pointer l.writes l.rest l.replaced.items
    × HaveRaised l.rewriting.node.now l.rewriting.copies l.fn.store.spaces l.store.spaces l.level l.pointer l.writes l.rest
    × IsGrowing l.fn.store.spaces l.rewriting.node.now l.rewriting.birth l.level l.pointer l.writes l.rest
