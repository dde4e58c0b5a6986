use Rattle.std.proofs.Common.{arith}
use Rattle.std.proofs.lemmas.Bool.Decides.{nat_tests}
use Rattle.metaslab.proofs.sharing.overlaps.Goals as goal

pub returns-then-one-other-clause-yes : goal.returns-then-one-other-clause-yes
returns-then-one-other-clause-yes c = λ near some others.
    let from = c.if-one-other.true in
    (c.args.other.start, grind (arith, nat_tests), grind (arith, nat_tests))

pub returns-else-one-other-clause-yes : goal.returns-else-one-other-clause-yes
returns-else-one-other-clause-yes c = λ near some others.
    let from = c.if-one-other.false in
    (c.args.one.start, grind (arith, nat_tests), grind (arith, nat_tests))
