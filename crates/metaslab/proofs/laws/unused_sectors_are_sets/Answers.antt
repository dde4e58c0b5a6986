use Rattle.metaslab.proofs.Unused.{set_of_unused, unused_of_set, loaded_is_unused}
use Rattle.metaslab.proofs.laws.unused_sectors_are_sets.Goals as goal

pub returns-clause-set : goal.returns-clause-set
returns-clause-set c = set_of_unused

pub returns-clause-only : goal.returns-clause-only
returns-clause-only c = unused_of_set

pub returns-clause-loaded : goal.returns-clause-loaded
returns-clause-loaded c = loaded_is_unused
