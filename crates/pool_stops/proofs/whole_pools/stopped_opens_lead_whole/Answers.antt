use Rattle.pool_stops.proofs.WholeStops.{stopped_opens_lead_whole as law}
use Rattle.pool_stops.proofs.whole_pools.stopped_opens_lead_whole.Goals as goal

pub returns : goal.returns
returns c = law c.stopped_opens_show_config.ensures
