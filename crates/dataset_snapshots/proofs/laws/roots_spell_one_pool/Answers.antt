use Rattle.dataset_snapshots.proofs.Readings.{roots_spell_one_pool}
use Rattle.dataset_snapshots.proofs.laws.roots_spell_one_pool.Goals as goal

pub returns : goal.returns
returns c = roots_spell_one_pool
