use Rattle.pool_stops.proofs.Reopening.{stopped_exports_lead as law}
use Rattle.pool_stops.proofs.laws.stopped_exports_lead.Goals as goal

pub returns : goal.returns
returns c = law c.blocks_phase.ensures.ends
