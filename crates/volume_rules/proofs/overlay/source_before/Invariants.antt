use Rattle.std.proofs.Common.{◌≡◌, ◌≤◌, length}
use Rattle.std.specs.Option.{option_copied}
use Rattle.volume_rules.specs.Sources.{source_before}
use Rattle.volume_rules.proofs.overlay.source_before.Given as goal

-- the actions that are left are looked at from the source so far
abbrev pub invariant-loop-actions : goal.invariant-loop-actions
invariant-loop-actions l = record {
  few : length l.actions ≤ length l.items.actions;
  same : source_before l.items.actions (option_copied l.name) ≡ source_before l.actions (option_copied l.source);
}

abbrev pub decreases-loop-actions : goal.decreases-loop-actions
decreases-loop-actions l = length l.actions
