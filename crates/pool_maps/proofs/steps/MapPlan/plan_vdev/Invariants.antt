use Rattle.std.proofs.Common.{◌≡◌, ◌+◌, ◌<◌, ◌≤◌}
use Rattle.pool_maps.proofs.Underway.{Underway}
use Rattle.pool_maps.proofs.steps.MapPlan.plan_vdev.Given as goal

-- the maps of the vdev's first metaslabs were planned, and each took one number at most
abbrev pub invariant-loop-index : goal.invariant-loop-index
invariant-loop-index g l =
    Underway l.fn.store l.store l.set l.birth l.gone (λ place. (place.vdev ≡ l.vdev) × (place.index < l.index)) l.fn.self l.self × (l.self.next ≤ l.fn.self.next + l.index)
