use Rattle.pool_slots.proofs.PhaseSteps as steps
use Rattle.pool_slots.proofs.stepwise.slots_stand_in_turn.Goals as goal

pub returns : goal.returns
returns c = steps.slots_stand_in_turn
