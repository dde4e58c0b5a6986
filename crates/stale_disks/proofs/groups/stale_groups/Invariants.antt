use Rattle.std.proofs.Common.{◌≡◌, take}
use Rattle.stale_disks.specs.Rules.{stale_groups}
use Rattle.stale_disks.proofs.groups.stale_groups.Given as goal

abbrev pub invariant-loop-guid : goal.invariant-loop-guid
invariant-loop-guid l = l.stale.items ≡ stale_groups l.spans (take l.guid-index l.guids)
