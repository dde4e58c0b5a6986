use Rattle.pool_slots.proofs.Writing as steps
use Rattle.pool_slots.proofs.stepwise.flush_settles.Goals as goal

pub returns : goal.returns
returns c = steps.flush_settles
