use Rattle.std.proofs.Common.{◌≡◌, ◌++◌, take}
use Rattle.raidz_parity.specs.Layout.{joined}
use Rattle.raidz_parity.specs.Stored.{parity_columns}
use Rattle.raidz_io.proofs.choice.add_parity.Given as goal

abbrev pub invariant-loop-row : goal.invariant-loop-row
invariant-loop-row l = l.whole.items ≡ l.fn.whole.items ++ joined (take l.row (parity_columns l.parity))
