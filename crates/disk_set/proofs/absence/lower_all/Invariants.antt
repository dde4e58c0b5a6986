use Rattle.std.proofs.Common.{◌≡◌, ◌++◌, length, map, take, drop}
use Rattle.std.specs.Prelude.{min}
use Rattle.disk_set.proofs.absence.lower_all.Given as goal

-- the first ones are lowered, and the others as they were
abbrev pub invariant-loop-disk : goal.invariant-loop-disk
invariant-loop-disk l = record {
  count : length l.since.items ≡ length l.fn.since.items;
  items : l.since.items ≡ map (min l.group) (take l.disk l.fn.since.items) ++ drop l.disk l.fn.since.items;
}
