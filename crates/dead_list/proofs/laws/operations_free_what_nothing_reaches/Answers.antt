use Rattle.dead_list.proofs.Steps.{stays_sound, frees}
use Rattle.dead_list.proofs.laws.operations_free_what_nothing_reaches.Goals as goal

pub returns-clause-sound : goal.returns-clause-sound
returns-clause-sound c = stays_sound

pub returns-clause-freed : goal.returns-clause-freed
returns-clause-freed c = frees
