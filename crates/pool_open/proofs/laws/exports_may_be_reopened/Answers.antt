use Rattle.pool_open.proofs.ExportStops.{exports_may_be_reopened as reopened}
use Rattle.pool_open.proofs.laws.exports_may_be_reopened.Goals as goal

pub returns : goal.returns
returns c = reopened
