use Rattle.std.proofs.Common.{◌≡◌, ◌≤◌, length}
use Rattle.pool_slots.specs.Present.{GoOut}
use Rattle.pool_slots.proofs.Absence.{outs}
use Rattle.pool_slots.proofs.present.survey_present.Given as goal

-- each turn has put a disk out
abbrev pub invariant-loop : goal.invariant-loop
invariant-loop g l = record {
  count : length l.out.items ≡ length l.fn.disks.starts;
  gone : GoOut l.fn.out.items l.out.items l.fn.disks l.disks;
  many : l.counter ≤ outs l.out.items;
}
