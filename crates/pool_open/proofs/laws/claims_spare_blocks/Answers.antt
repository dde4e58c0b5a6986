use Rattle.pool_open.proofs.Claiming.{claims_spare_blocks as spare}
use Rattle.pool_open.proofs.laws.claims_spare_blocks.Goals as goal

pub returns : goal.returns
returns c = spare
