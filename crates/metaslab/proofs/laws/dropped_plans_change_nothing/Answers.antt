use Rattle.metaslab.proofs.Accounts.{dropped, early}
use Rattle.metaslab.proofs.laws.dropped_plans_change_nothing.Goals as goal

pub returns-clause-dropped : goal.returns-clause-dropped
returns-clause-dropped c = dropped

pub returns-clause-early : goal.returns-clause-early
returns-clause-early c = early
