use Rattle.std.proofs.Common.{◌≡◌, take, false}
use Rattle.programs.specs.Stops.{is_left_out as left_out}
use Rattle.programs.proofs.stopping.is_left_out.Given as goal

abbrev pub invariant-loop-i : goal.invariant-loop-i
invariant-loop-i l = left_out (take l.i l.absent) l.fn.number ≡ false
