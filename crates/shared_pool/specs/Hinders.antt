-- Why a step is not taken, or a record not sealed.
use Rattle.std.specs.Prelude.{◌≡◌, ◌+◌, ◌^◌, ◌<◌, ◌≤◌, length, true}
use Rattle.pool_model.specs.declared.step.Step.{Step}
use Rattle.pool_model.specs.Refusals.{takes_memory}
use Rattle.shared_pool.specs.declared.refusal.Refusal.{Refusal}
use Rattle.shared_pool.specs.declared.refusal.Refusal.TheVariants.{NoMemory, RecordFull}
use Rattle.shared_pool.specs.History.{History}
use Rattle.shared_pool.specs.Weights.{writers_steps}

-- the record is full; memory may only run out where it isn't, and of a step that takes some
abbrev pub HindersStep : {C : Type 0} → Step → Refusal → History C → Type 0
HindersStep step RecordFull h = length h.entries ≡ 65536
HindersStep step NoMemory h = (length h.entries < 65536) × (takes_memory step ≡ true)

-- the sealed steps of writers would pass 2^62; memory may only run out where they don't
abbrev pub HindersSeal : {C : Type 0} → Refusal → History C → Type 0
HindersSeal RecordFull h = 2 ^ 62 < h.sealed + writers_steps h.entries
HindersSeal NoMemory h = h.sealed + writers_steps h.entries ≤ 2 ^ 62
