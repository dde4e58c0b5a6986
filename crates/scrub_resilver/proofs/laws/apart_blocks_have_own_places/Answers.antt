use Rattle.scrub_resilver.proofs.Once.{own_places}
use Rattle.scrub_resilver.proofs.laws.apart_blocks_have_own_places.Goals as goal

pub returns : goal.returns
returns c = own_places
