use Rattle.metaslab.proofs.Accounts.{run_snoc, after_snoc}
use Rattle.metaslab.proofs.laws.steps_follow_runs.Goals as goal

pub returns-clause-run : goal.returns-clause-run
returns-clause-run c = run_snoc

pub returns-clause-after : goal.returns-clause-after
returns-clause-after c = after_snoc
