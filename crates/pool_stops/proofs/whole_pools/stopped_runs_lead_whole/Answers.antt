use Rattle.pool_stops.proofs.WholeStops.{stopped_runs_lead_whole as law}
use Rattle.pool_stops.proofs.whole_pools.stopped_runs_lead_whole.Goals as goal

pub returns : goal.returns
returns c = law c.stopped_runs_show_config.ensures
