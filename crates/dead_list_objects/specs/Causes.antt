-- Why a list is not read: the cause in the store's calls.
use Rattle.std.specs.Prelude.{ℕ, List}
use Rattle.block_store.specs.Causes.{IsCaused}
use Rattle.block_store.specs.Store.{Store}
use Rattle.dead_list_objects.specs.declared.refusal.Refusal.{Refusal}
use Rattle.dead_list_objects.specs.declared.refusal.Refusal.TheVariants.{Unread}

-- that of the rows that were not read; the other refusals have none
abbrev pub IsCausedOf : Store → Store → List ℕ → Refusal → Type 0
IsCausedOf old new missing (Unread cause) = IsCaused old new missing cause
IsCausedOf old new missing refusal = Unit {0}
