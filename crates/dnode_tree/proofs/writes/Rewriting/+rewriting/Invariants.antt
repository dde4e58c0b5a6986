use Rattle.std.proofs.Common.{◌+◌, ◌*◌}
use Rattle.dnode_tree.proofs.Overfull.{AreFollowed}
use Rattle.dnode_tree.proofs.WritingParts.{IsWritingParts}
use Rattle.dnode_tree.proofs.writes.Rewriting.+rewriting.Given as goal

abbrev pub decreases-write_part : goal.decreases-write_part
decreases-write_part g l = 2 * l.part.level

abbrev pub decreases-write_parts : goal.decreases-write_parts
decreases-write_parts g l = 2 * l.parts.level + 1

abbrev pub invariant-write_parts-loop-place : goal.invariant-write_parts-loop-place
invariant-write_parts-loop-place g l =
    AreFollowed l.initial.store.spaces l.self.node.now l.level l.first l.bound l.from l.initial.pointers l.pointers l.writes l.rest l.place
    × IsWritingParts l.self.copies l.initial.store l.store l.self.missing.now l.self.node.now l.level l.first l.bound l.self.birth l.from l.initial.pointers l.pointers l.writes l.rest l.place l.initial.replaced.items l.replaced.items
