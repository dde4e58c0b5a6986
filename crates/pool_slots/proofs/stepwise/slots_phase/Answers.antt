use Rattle.pool_slots.proofs.PhaseSteps as steps
use Rattle.pool_slots.proofs.stepwise.slots_phase.Goals as goal

pub returns-clause-begins : goal.returns-clause-begins
returns-clause-begins c = steps.slots_begin

pub returns-clause-goes_on : goal.returns-clause-goes_on
returns-clause-goes_on c = steps.slots_go_on

pub returns-clause-ends : goal.returns-clause-ends
returns-clause-ends c = steps.slots_end

pub returns-clause-unflushed : goal.returns-clause-unflushed
returns-clause-unflushed c = steps.unflushed_is_slots

pub returns-clause-tree : goal.returns-clause-tree
returns-clause-tree c = steps.slots_keep_tree
