use Rattle.std.specs.Prelude.{[]}
use Rattle.pool_model.specs.View.{started}
use Rattle.tests_threads.proofs.made.fresh.Goals as goal

pub new-requires-clause-sound : goal.new-requires-clause-sound
new-requires-clause-sound g c = λ truly. (started [], c.create.ensures)
