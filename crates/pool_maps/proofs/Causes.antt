-- Causes of what the space maps' plan is refused for.
use Rattle.std.proofs.Common.{ℕ, List, Result, Ok, Err}
use Rattle.std.specs.Result.{IfErr}
use Rattle.block_store.specs.Causes.{IsCaused}
use Rattle.block_store.specs.declared.refusal.Refusal.{Refusal}
use Rattle.block_store.specs.Store.{Store}
use Rattle.space_map_objects.specs.declared.refusal.Refusal.{Refusal as MapRefusal}
use Rattle.space_map_objects.specs.declared.refusal.Refusal.TheVariants.{NoMemory as NoMapMemory, BadMap, Unread}
use Rattle.space_map_objects.specs.Causes.{IsCausedOf}
use Rattle.pool_maps.specs.Refused.{of_map}

-- of a map that was not read
pub map_is_caused : (old new : Store) (missing : List ℕ) (refusal : MapRefusal) → IsCausedOf old new missing refusal → IsCaused old new missing (of_map refusal)
map_is_caused old new missing NoMapMemory cause = tt
map_is_caused old new missing BadMap cause = tt
map_is_caused old new missing (Unread why) cause = cause

-- one clause from another
pub caused_from : {T E : Type 0} (result : Result T E) (P Q : E → Type 0) → IfErr result P → ((refusal : E) → P refusal → Q refusal) → IfErr result Q
caused_from (Ok made) P Q why further = tt
caused_from (Err refusal) P Q why further = further refusal why
