use Rattle.std.proofs.Common.{◌-◌, ◌≤◌}
use Rattle.space_map.specs.Sectors.{contains}
use Rattle.space_map.specs.Stretches.{AreAhead}
use Rattle.space_map.proofs.Updates.{IsUpdated}
use Rattle.space_map.proofs.updating.append_update.Given as goal

abbrev pub invariant-loop-at : goal.invariant-loop-at
invariant-loop-at l = record {
  within : l.at ≤ l.sectors;
  olds : AreAhead l.sectors l.old.runs l.at l.old_rest;
  news : AreAhead l.sectors l.new.runs l.at l.new_rest;
  updated : IsUpdated l.sectors l.at (contains l.old.runs) (contains l.new.runs) l.initial.out.items l.out.items;
}

abbrev pub decreases-loop-at : goal.decreases-loop-at
decreases-loop-at l = l.sectors - l.at
