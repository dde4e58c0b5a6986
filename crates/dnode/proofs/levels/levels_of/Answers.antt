use Rattle.std.proofs.Common.{arith}
use Rattle.dnode.proofs.LevelLemmas.{least_from}
use Rattle.dnode.proofs.levels.levels_of.Goals as goal

pub returns-in-128-to-16383-clause-least : goal.returns-in-128-to-16383-clause-least
returns-in-128-to-16383-clause-least c = least_from c.args.highest 3 (omega arith) (omega arith) (λ more. omega arith)

pub returns-in-16384-to-2097151-clause-least : goal.returns-in-16384-to-2097151-clause-least
returns-in-16384-to-2097151-clause-least c = least_from c.args.highest 4 (omega arith) (omega arith) (λ more. omega arith)

pub returns-in-2097152-to-268435455-clause-least : goal.returns-in-2097152-to-268435455-clause-least
returns-in-2097152-to-268435455-clause-least c = least_from c.args.highest 5 (omega arith) (omega arith) (λ more. omega arith)

pub returns-in_default-clause-least : goal.returns-in_default-clause-least
returns-in_default-clause-least c = least_from c.args.highest 6 (omega arith) (omega arith) (λ more. omega arith)
