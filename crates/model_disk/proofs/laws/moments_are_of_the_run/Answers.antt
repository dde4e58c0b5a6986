use Rattle.model_disk.proofs.RunLemmas.{moments_are_of_the_run, crashes_are_at_moments}
use Rattle.model_disk.proofs.laws.moments_are_of_the_run.Goals as goal

pub returns-clause-moments : goal.returns-clause-moments
returns-clause-moments c = moments_are_of_the_run

pub returns-clause-crashes : goal.returns-clause-crashes
returns-clause-crashes c = crashes_are_at_moments
