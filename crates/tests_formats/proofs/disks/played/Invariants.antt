use Rattle.std.proofs.Common.{◌≡◌, length}
use Rattle.pool_slots.specs.Slots.{HaveLabels}
use Rattle.tests_formats.proofs.disks.played.Given as goal

abbrev pub invariant-loop-step : goal.invariant-loop-step
invariant-loop-step l =
    (goal.iterator-loop-step).can_next l.step-iterator ×
    (goal.iterator-loop-step).is_finite l.step-iterator ×
    (length l.disks.starts ≡ 3) × HaveLabels l.disks.starts
