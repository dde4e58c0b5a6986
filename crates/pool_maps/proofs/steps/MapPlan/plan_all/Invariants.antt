use Rattle.std.proofs.Common.{◌+◌, ◌<◌, ◌≤◌}
use Rattle.pool_maps.proofs.Numbers.{places_before}
use Rattle.pool_maps.proofs.Underway.{Underway}
use Rattle.pool_maps.proofs.steps.MapPlan.plan_all.Given as goal

-- the maps of the first vdevs were planned, and each took one number at most
abbrev pub invariant-loop-vdev : goal.invariant-loop-vdev
invariant-loop-vdev g l =
    Underway l.fn.store l.store l.set l.birth l.gone (λ place. place.vdev < l.vdev) l.fn.self l.self × (l.self.next ≤ l.fn.self.next + places_before l.fn.store.spaces l.vdev)
