use Rattle.metaslab.proofs.Cuts.{whole_ends}
use Rattle.metaslab.proofs.free_runs.FreeRuns.whole_at.Goals as goal

pub returns-clause-end : goal.returns-clause-end
returns-clause-end c = rw (← c.self.view_is) (whole_ends c.self.inside.by_place c.runs.result.now c.run_at-run.result c.runs.ensures.runs c.runs.ensures.apart c.run_at-run.ensures.whole)
