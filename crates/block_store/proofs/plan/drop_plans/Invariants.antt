use Rattle.std.proofs.Common.{◌≡◌, length}
use Rattle.block_store.specs.Places.{shapes_of, filled, planned, HaveMarks}
use Rattle.block_store.proofs.Planning.{HaveMarksBelow}
use Rattle.block_store.proofs.plan.drop_plans.Given as goal

-- of the vdevs so far what is planned is what was filled, and all else is as it was
abbrev pub invariant-loop-vdev : goal.invariant-loop-vdev
invariant-loop-vdev l =
    (length l.spaces.items ≡ length l.fn.spaces.items) × (shapes_of l.spaces.items ≡ shapes_of l.fn.spaces.items)
    × HaveMarks l.fn.spaces.items filled l.spaces.items filled × HaveMarksBelow l.fn.spaces.items filled l.spaces.items planned l.vdev
