use Rattle.pool_stops.proofs.WholeStops.{stopped_exports_lead_whole as law}
use Rattle.pool_stops.proofs.whole_pools.stopped_exports_lead_whole.Goals as goal

pub returns : goal.returns
returns c = law c.blocks_phase.ensures.ends c.stopped_exports_show_config.ensures
