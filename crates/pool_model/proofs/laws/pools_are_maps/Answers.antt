use Rattle.pool_model.proofs.Places.{volume_written, volume_more, volume_without}
use Rattle.pool_model.proofs.laws.pools_are_maps.Goals as goal

pub returns-clause-written : goal.returns-clause-written
returns-clause-written c = volume_written

pub returns-clause-more : goal.returns-clause-more
returns-clause-more c = volume_more

pub returns-clause-without : goal.returns-clause-without
returns-clause-without c = volume_without
