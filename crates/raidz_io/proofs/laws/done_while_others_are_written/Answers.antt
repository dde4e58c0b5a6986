use Rattle.raidz_io.proofs.Kept.{done_kept}
use Rattle.raidz_io.proofs.laws.done_while_others_are_written.Goals as goal

pub returns : goal.returns
returns c = done_kept
