use Rattle.std.proofs.Common.{ap}
use Rattle.pool_model.specs.Machine.{without_plan}
use Rattle.pool_model.proofs.Answering.{stays_unplanned, flow_dropped, counters_dropped}
use Rattle.pool_model.proofs.laws.dropped_plans_leave_their_groups.Goals as goal

pub returns : goal.returns
returns c = record {
  stays = λ v disk e. stays_unplanned v.sync e;
  unplanned = λ v disk calls e. ap without_plan e;
  flow = flow_dropped;
  counters = counters_dropped;
}
