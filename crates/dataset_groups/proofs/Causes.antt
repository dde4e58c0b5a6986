-- Causes of what is not made.
use Rattle.std.proofs.Common.{ℕ, ◌≡◌, ◌⊎◌, ◌+◌, ◌*◌, ◌<◌, ◌≤◌, inl, inr, List, [], length, get_or, ap, sym, subst, ◌∙◌, arith}
use Rattle.block_store.specs.Causes.{IsCaused}
use Rattle.block_store.specs.declared.refusal.Refusal.{Refusal}
use Rattle.block_store.specs.declared.refusal.Refusal.TheVariants.{NoMemory, BadConfig}
use Rattle.block_store.specs.Store.{Store}
use Rattle.pool_model.specs.declared.item.Action.{Action}
use Rattle.dataset_groups.specs.Causes.{IsCloning, LacksNumbers}
use Rattle.dataset_groups.specs.declared.datasets.GroupDatasets.{GroupDatasets}
use Rattle.dataset_groups.specs.declared.datasets.NumberBounds.{NumberBounds}

-- a name or a size that can't be
pub caused_by_name : (store : Store) (Bad : Type 0) (refusal : Refusal) → (refusal ≡ NoMemory) ⊎ ((refusal ≡ BadConfig) × Bad) → IsCaused store store [] refusal
caused_by_name store Bad refusal (inl memory) = subst (λ (cause : Refusal). IsCaused store store [] cause) (sym memory) tt
caused_by_name store Bad refusal (inr bad) = subst (λ (cause : Refusal). IsCaused store store [] cause) (sym bad.0) tt

-- one of the actions lacks numbers, behind those before it
pub lacks_of : (old mid : GroupDatasets) (actions : List Action) (i : ℕ) (action : Action) → mid.bounds ≡ old.bounds → mid.next ≤ old.next + 2 * i → i < length actions
    → action ≡ get_or actions i action → (mid.bounds.end < mid.next + 2) ⊎ IsCloning action.change → LacksNumbers old.next old.bounds.end actions 0
lacks_of old mid actions i action same next low is (inl few) =
    let ends : mid.bounds.end ≡ old.bounds.end = ap (λ (b : NumberBounds). b.end) same in
    inl (omega (arith, ends, next, low, few))
lacks_of old mid actions i action same next low is (inr cloning) = inr (i, action, low, sym is, cloning)

-- nothing was made where no number was taken
pub idle_on : (old mid new : GroupDatasets) → old.next ≤ mid.next → mid.next ≤ new.next → (mid.next ≡ old.next → mid ≡ old) → (new.next ≡ mid.next → new ≡ mid) → new.next ≡ old.next → new ≡ old
idle_on old mid new first second one two same = two (omega (arith, first, second, same)) ∙ one (omega (arith, first, second, same))
