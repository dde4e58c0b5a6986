use Rattle.pool_slots.proofs.PhaseSteps as steps
use Rattle.pool_slots.proofs.stepwise.relabels_go_on.Goals as goal

pub returns : goal.returns
returns c = steps.relabels_go_on
