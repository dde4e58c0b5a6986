use Rattle.std.proofs.Common.{ℕ, ◌<◌}
use Rattle.pool_slots.specs.Present.{is_out}
use Rattle.pool_export.proofs.exporting.check_left.Given as goal

abbrev pub invariant-loop-which : goal.invariant-loop-which
invariant-loop-which l = (disk : ℕ) → disk < l.which → is_out l.out disk
