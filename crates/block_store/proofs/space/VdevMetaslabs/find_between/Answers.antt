use Rattle.std.proofs.Common.{ℕ, ◌≤◌, sym, subst, arith}
use borrow.Author.Count.{below_more}
use Rattle.block_store.specs.declared.shape.VdevShape.{VdevShape}
use Rattle.block_store.specs.Places.{HasRoomIn, MayTake}
use Rattle.block_store.specs.Shapes.{IsInRegion}
use Rattle.block_store.proofs.Items.{never}
use Rattle.block_store.proofs.space.VdevMetaslabs.find_between.Goals as goal
use Rattle.block_store.proofs.space.VdevMetaslabs.find_between.Goals.{else-is_in_region-via-then-is_in_region+then-may_take+else-has_room, else-is_in_region-via-then-is_in_region+else-may_take, else-is_in_region-via-else-is_in_region}

pub loop-metaslab-preserved : goal.loop-metaslab-preserved
loop-metaslab-preserved c =
    let at = c.loop-metaslab.metaslab in
    below_more
    (λ (m : ℕ). c.args.first ≤ m → HasRoomIn c.args.self.now m c.args.wanted.sectors → IsInRegion c.args.self.now.shape c.args.wanted.copies m → ¬ MayTake c.args.self.now.shape c.args.taken.now c.args.vdev m c.args.wanted.spread)
    at c.loop-metaslab.invariant
    (λ from room region may. elim c.else-is_in_region.branch [
      | else-is_in_region-via-then-is_in_region+else-may_take w ↦
          never w.may_take.result
          (w.may_take.ensures.1 (subst (λ (s : VdevShape). MayTake s c.args.taken.now c.args.vdev at c.args.wanted.spread) (sym c.shape-shape.ensures) may))
          w.if-may_take.false
      | else-is_in_region-via-then-is_in_region+then-may_take+else-has_room w ↦ never w.has_room.result (w.has_room.ensures.1 room) w.if-has_room.false
      | else-is_in_region-via-else-is_in_region w ↦
          never c.is_in_region.result (c.is_in_region.ensures.1 (subst (λ (s : VdevShape). IsInRegion s c.args.wanted.copies at) (sym c.shape-shape.ensures) region))
          w.if-is_in_region.false
    ])

pub returns-then-has_room-clause-room : goal.returns-then-has_room-clause-room
returns-then-has_room-clause-room c = c.has_room.ensures.0 c.if-has_room.true

pub returns-clause-none : goal.returns-clause-none
returns-clause-none c m from there = c.loop-metaslab.invariant m (omega (arith, there, c.loop-metaslab-test.false)) from
