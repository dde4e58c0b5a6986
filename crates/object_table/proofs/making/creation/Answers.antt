use Rattle.std.proofs.Common.{refl, arith}
use Rattle.object_table.proofs.making.creation.Goals as goal

pub returns-clause-good : goal.returns-clause-good
returns-clause-good c = (c.in_ok-writes_of.ensures.made.good, c.requires.used, omega arith, omega arith, c.in_ok-writes_of.ensures.made.whole)

pub returns-clause-made : goal.returns-clause-made
returns-clause-made c = record { there = _; is = refl; of_kind = (refl, refl); table = c.in_ok-writes_of.ensures.made.table }
