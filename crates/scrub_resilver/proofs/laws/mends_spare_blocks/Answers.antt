use Rattle.scrub_resilver.proofs.Spared.{mends_spare}
use Rattle.scrub_resilver.proofs.laws.mends_spare_blocks.Goals as goal

pub returns : goal.returns
returns c = mends_spare c.stands_while_kept.ensures c.child_holds_one_column.ensures
