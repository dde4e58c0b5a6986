use Rattle.pool_maps.proofs.Reaching.{lie_before_meta, lie_in_meta}
use Rattle.pool_maps.proofs.laws.blocks_lie_by_their_copies.Goals as goal

pub returns-clause-meta : goal.returns-clause-meta
returns-clause-meta c = lie_in_meta

pub returns-clause-others : goal.returns-clause-others
returns-clause-others c = lie_before_meta
