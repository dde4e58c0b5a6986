use Rattle.std.proofs.Common.{◌≡◌, ◌<◌, ◌^◌, All, length}
use Rattle.dnode_tree.specs.Writes.{AreInOrder}
use Rattle.tests_trees.proofs.trees.blocks_at.Given as goal

-- the blocks so far lie before the next one
abbrev pub invariant-loop : goal.invariant-loop
invariant-loop l =
    All (λ write. write.id < l.id) l.writes.items × All (λ write. write.id < 128 ^ 5) l.writes.items × AreInOrder l.writes.items
    × All (λ write. length write.bytes.items ≡ 512) l.writes.items
