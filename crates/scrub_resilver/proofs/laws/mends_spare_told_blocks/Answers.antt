use Rattle.scrub_resilver.proofs.Spared.{mends_spare_told}
use Rattle.scrub_resilver.proofs.laws.mends_spare_told_blocks.Goals as goal

pub returns : goal.returns
returns c = mends_spare_told c.child_holds_one_column.ensures
