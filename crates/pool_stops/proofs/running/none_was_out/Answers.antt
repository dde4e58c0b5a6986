use Rattle.pool_stops.proofs.Runs.{none_before as law}
use Rattle.pool_stops.proofs.running.none_was_out.Goals as goal

pub returns : goal.returns
returns c = λ old new v w steps givens replies chain none. law old v steps givens replies new w chain none
