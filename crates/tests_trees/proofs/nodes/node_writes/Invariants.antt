use Rattle.std.proofs.Common.{◌<◌, All}
use Rattle.objset.specs.NodeWrites.{AreNodeWrites}
use Rattle.tests_trees.proofs.nodes.node_writes.Given as goal

-- the writes so far are of numbers below the next one
abbrev pub invariant-loop-pair : goal.invariant-loop-pair
invariant-loop-pair l = (0 < l.next) × All (λ write. write.number < l.next) l.writes.items × AreNodeWrites l.writes.items
