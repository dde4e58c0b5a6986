-- Causes of dead lists that are not read.
use Rattle.std.proofs.Common.{◌≡◌, ℕ, List, sym, subst}
use Rattle.block_store.specs.Causes.{IsCaused}
use Rattle.block_store.specs.Store.{Store}
use Rattle.block_store.specs.declared.refusal.Refusal.{Refusal}
use Rattle.dead_list_objects.specs.Causes.{IsCausedOf}
use Rattle.dead_list_objects.specs.declared.refusal.Refusal.{Refusal as ListRefusal}
use Rattle.dead_list_objects.specs.declared.refusal.Refusal.TheVariants as of_lists
use Rattle.dataset_changes.specs.Refused.{of_list}

as_of_list : (old new : Store) (missing : List ℕ) (why : ListRefusal) → IsCausedOf old new missing why → IsCaused old new missing (of_list why)
as_of_list old new missing of_lists.NoMemory cause = tt
as_of_list old new missing of_lists.BadList cause = tt
as_of_list old new missing (of_lists.Unread why) cause = cause

pub of_list_caused : (old new : Store) (missing : List ℕ) (why : ListRefusal) (refusal : Refusal) → refusal ≡ of_list why → IsCausedOf old new missing why → IsCaused old new missing refusal
of_list_caused old new missing why refusal is cause = subst (λ (r : Refusal). IsCaused old new missing r) (sym is) (as_of_list old new missing why cause)
