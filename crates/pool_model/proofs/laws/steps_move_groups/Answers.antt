use Rattle.pool_model.proofs.Counting.{group_step}
use Rattle.pool_model.proofs.Sounds.{flow_step}
use Rattle.pool_model.proofs.laws.steps_move_groups.Goals as goal

pub returns : goal.returns
returns c = record { flow = flow_step; counters = group_step }
