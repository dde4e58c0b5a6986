use Rattle.block_store.proofs.Sectors.{lie_in_sectors}
use Rattle.block_store.proofs.laws.blocks_lie_in_sectors.Goals as goal

pub returns : goal.returns
returns c = lie_in_sectors
