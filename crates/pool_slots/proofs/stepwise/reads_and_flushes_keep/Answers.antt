use Rattle.pool_slots.proofs.PhaseSteps as steps
use Rattle.pool_slots.proofs.stepwise.reads_and_flushes_keep.Goals as goal

pub returns : goal.returns
returns c = steps.reads_and_flushes_keep
