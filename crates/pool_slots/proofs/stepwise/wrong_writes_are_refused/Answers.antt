use Rattle.pool_slots.proofs.Refusing as steps
use Rattle.pool_slots.proofs.stepwise.wrong_writes_are_refused.Goals as goal

pub returns : goal.returns
returns c = steps.wrong_writes_are_refused
