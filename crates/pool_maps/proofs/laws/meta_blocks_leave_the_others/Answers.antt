use Rattle.pool_maps.proofs.Besides.{placed_in_meta}
use Rattle.pool_maps.proofs.laws.meta_blocks_leave_the_others.Goals as goal

pub returns : goal.returns
returns c = placed_in_meta
