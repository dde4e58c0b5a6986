use Rattle.raidz_io.proofs.Kept.{writes_apart}
use Rattle.raidz_io.proofs.laws.writes_are_apart.Goals as goal

pub returns : goal.returns
returns c = writes_apart c.child_holds_one_column.ensures
