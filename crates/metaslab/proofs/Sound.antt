-- What holds of the space of a pool after any steps.
use Rattle.std.proofs.Common.{◌≡◌, ℕ, suc, ◌≤◌, ◌⊎◌, true, false, Some}
use Rattle.metaslab.specs.State.{Free, InUse, Released}
use Rattle.metaslab.specs.Pool.{Pool, Plan, is_pinned, IsReadable}

-- the group's tree was the first that no longer reached the sector, and none has since
abbrev pub IsGone : Pool → ℕ → ℕ → Type 0
IsGone pool group s =
    (before : ℕ) × (group ≡ suc before) × (pool.opened ≤ before) × (group ≤ pool.last) × (pool.reach before s ≡ true)
    × ((later : ℕ) → group ≤ later → later ≤ pool.last → pool.reach later s ≡ false)

pub record IsSoundPlan (pool : Pool) (plan : Plan) : Type 0 where
  pub in_use : (s : ℕ) → plan.states s ≡ InUse → (plan.taken s ≡ true) ⊎ ((pool.reach pool.last s ≡ true) × (plan.given s ≡ false))
  pub reached : (s : ℕ) → pool.reach pool.last s ≡ true → plan.given s ≡ false → plan.states s ≡ InUse
  pub taken : (s : ℕ) → plan.taken s ≡ true → plan.states s ≡ InUse
  pub apart : (s k : ℕ) → plan.taken s ≡ true → IsReadable pool k → pool.reach k s ≡ false
  pub given : (s : ℕ) → plan.given s ≡ true → (plan.states s ≡ Released (suc pool.last)) × (pool.reach pool.last s ≡ true)
  pub free : (s k : ℕ) → plan.states s ≡ Free → IsReadable pool k → pool.reach k s ≡ false
  pub released : (s m : ℕ) → plan.states s ≡ Released m → ((m ≡ suc pool.last) × (plan.given s ≡ true)) ⊎ IsGone pool m s

pub record IsSound (pool : Pool) : Type 0 where
  pub order : pool.opened ≤ pool.last
  pub pins : (p : ℕ) → is_pinned pool.pins p ≡ true → (pool.opened ≤ p) × (p ≤ pool.last)
  pub in_use : (s : ℕ) → pool.states s ≡ InUse → pool.reach pool.last s ≡ true
  pub reached : (s : ℕ) → pool.reach pool.last s ≡ true → pool.states s ≡ InUse
  pub free : (s k : ℕ) → pool.states s ≡ Free → IsReadable pool k → pool.reach k s ≡ false
  pub released : (s m : ℕ) → pool.states s ≡ Released m → IsGone pool m s
  pub plan : (plan : Plan) → pool.plan ≡ Some plan → IsSoundPlan pool plan
