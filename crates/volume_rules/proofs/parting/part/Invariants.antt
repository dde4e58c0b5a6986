use Rattle.std.proofs.Common.{◌≡◌, take}
use Rattle.volume_rules.specs.Parting.{parted_of}
use Rattle.volume_rules.proofs.parting.part.Given as goal

-- the actions so far are parted
abbrev pub invariant-loop-action : goal.invariant-loop-action
invariant-loop-action l = record { destroyed = l.parted.destroyed; made = l.parted.made } ≡ parted_of (take l.action-index l.actions)
