use Rattle.dead_list.proofs.WholeRuns.{run_from_empty, run_frees}
use Rattle.dead_list.proofs.laws.runs_free_what_nothing_reaches.Goals as goal

pub returns-clause-sound : goal.returns-clause-sound
returns-clause-sound c = run_from_empty

pub returns-clause-freed : goal.returns-clause-freed
returns-clause-freed c = run_frees
