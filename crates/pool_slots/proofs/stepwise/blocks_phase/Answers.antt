use Rattle.pool_slots.proofs.PhaseSteps as steps
use Rattle.pool_slots.proofs.stepwise.blocks_phase.Goals as goal

pub returns-clause-begins : goal.returns-clause-begins
returns-clause-begins c = steps.blocks_begin

pub returns-clause-goes_on : goal.returns-clause-goes_on
returns-clause-goes_on c = steps.blocks_go_on

pub returns-clause-ends : goal.returns-clause-ends
returns-clause-ends c = steps.blocks_end

pub returns-clause-unflushed : goal.returns-clause-unflushed
returns-clause-unflushed c = steps.unflushed_is_free

pub returns-clause-unseen : goal.returns-clause-unseen
returns-clause-unseen c = steps.next_is_unseen

pub returns-clause-tree : goal.returns-clause-tree
returns-clause-tree c = steps.last_tree_stands
