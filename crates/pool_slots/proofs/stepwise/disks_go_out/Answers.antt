use Rattle.pool_slots.proofs.PhaseSteps as steps
use Rattle.pool_slots.proofs.stepwise.disks_go_out.Goals as goal

pub returns : goal.returns
returns c = steps.disks_go_out
