use Rattle.raidz_io.proofs.Pigeons.{few_are_not_more}
use Rattle.raidz_io.proofs.laws.few_are_not_more.Goals as goal

pub returns : goal.returns
returns c = few_are_not_more
