use Rattle.pool_stops.proofs.OneConfigs.{stopped_opens_show_config as law}
use Rattle.pool_stops.proofs.configured.stopped_opens_show_config.Goals as goal

pub returns : goal.returns
returns c = law
