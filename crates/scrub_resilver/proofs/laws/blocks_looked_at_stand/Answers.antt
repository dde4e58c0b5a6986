use Rattle.scrub_resilver.proofs.Own.{looked_at_stand}
use Rattle.scrub_resilver.proofs.laws.blocks_looked_at_stand.Goals as goal

pub returns : goal.returns
returns c = looked_at_stand
