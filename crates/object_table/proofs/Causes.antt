-- Causes of refusals of what was read.
use Rattle.std.proofs.Common.{ℕ, ◌≡◌, ◌⊎◌, inl, inr, List, sym, subst}
use Rattle.block_store.specs.Causes.{IsCaused}
use Rattle.block_store.specs.declared.refusal.Refusal.{Refusal}
use Rattle.block_store.specs.declared.refusal.Refusal.TheVariants.{NoMemory, BadPointer}
use Rattle.block_store.specs.Store.{Store}

-- bytes that are judged have none
pub judged_is_caused : (old new : Store) (missing : List ℕ) (Bad : Type 0) (refusal : Refusal) → (refusal ≡ NoMemory) ⊎ ((refusal ≡ BadPointer) × Bad) → IsCaused old new missing refusal
judged_is_caused old new missing Bad refusal (inl memory) = subst (λ (cause : Refusal). IsCaused old new missing cause) (sym memory) tt
judged_is_caused old new missing Bad refusal (inr bad) = subst (λ (cause : Refusal). IsCaused old new missing cause) (sym bad.0) tt
