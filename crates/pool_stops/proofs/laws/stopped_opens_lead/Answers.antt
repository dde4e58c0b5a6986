use Rattle.pool_stops.proofs.Reopening.{stopped_opens_lead as law}
use Rattle.pool_stops.proofs.laws.stopped_opens_lead.Goals as goal

pub returns : goal.returns
returns c = law
