use Rattle.std.proofs.Common.{◌≡◌, map, take}
use Rattle.raidz_io.specs.Stripe.{number_of}
use Rattle.raidz_io.proofs.rebuild.numbers_of.Given as goal

abbrev pub invariant-loop-column : goal.invariant-loop-column
invariant-loop-column l = l.numbers.items ≡ map (number_of l.parity l.data_count) (take l.column-index l.columns)
