use Rattle.std.specs.Prelude.{length}
use Rattle.pool_core.proofs.Telling.{truth_tells}
use Rattle.pool_core.specs.State.{disks_of}
use Rattle.pool_core.specs.StateOf.{state_of}
use Rattle.pool_core.proofs.pool.Core.answers_are_true.Goals as goal

pub returns-clause-truly : goal.returns-clause-truly
returns-clause-truly g c n = c.answers_are_true.ensures n

pub returns-clause-tell : goal.returns-clause-tell
returns-clause-tell g c old = truth_tells old (state_of c.args.self.now) (c.answers_are_true.ensures (length (disks_of old).calls))
