use Rattle.std.proofs.Common.{◌≡◌, take, false}
use Rattle.programs.specs.OnDisks.{names_no_disk as names}
use Rattle.programs.proofs.pool_on_disks.names_no_disk.Given as goal

abbrev pub invariant-loop-i : goal.invariant-loop-i
invariant-loop-i l = names (take l.i l.numbers) l.fn.count ≡ false
