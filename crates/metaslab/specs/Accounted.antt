-- No sector is used twice, and none is lost.
use Rattle.std.specs.Prelude.{ℕ, suc, ◌≡◌, ◌≢◌, ◌⊎◌, ◌<◌, ◌≤◌, ◌↔◌, true, false, Some}
use Rattle.metaslab.specs.State.{State, Free, InUse, settled}
use Rattle.metaslab.specs.Pool.{Pool, Plan, is_pinned, IsReadable}

-- what the sector is for as the next group is planned
abbrev pub next_state : Pool → ℕ → State
next_state pool s = settled pool.pins (suc pool.last) (pool.states s)

-- the group's tree was the first that no longer reached the sector
pub record IsFreedIn (pool : Pool) (group s : ℕ) : Type 0 where
  pub before : ℕ
  pub next : group ≡ suc before
  pub since_open : pool.opened ≤ before
  pub committed : group ≤ pool.last
  pub was : pool.reach before s ≡ true
  pub is_gone : pool.reach group s ≡ false

-- the group is one of the last two committed ones, or stands after a pinned one
abbrev pub IsWaiting : Pool → ℕ → Type 0
IsWaiting pool group = (pool.last ≤ suc group) ⊎ ((pin : ℕ) × (is_pinned pool.pins pin ≡ true) × (pin < group))

-- no sector of a tree that may be read is handed out, and none is held back but for the last tree, a recent release or a pin
pub record IsAccounted (pool : Pool) : Type 0 where
  -- what may be handed out to the next plan is in no tree that may be read
  pub no_double_use : (s group : ℕ) → next_state pool s ≡ Free → IsReadable pool group → pool.reach group s ≡ false
  -- nor is what a plan under way has taken
  pub plan_apart : (plan : Plan) (s group : ℕ) → pool.plan ≡ Some plan → plan.taken s ≡ true → IsReadable pool group → pool.reach group s ≡ false
  -- what the last committed group reaches and the plan has not given back is in use: so it may be given back
  pub may_give : (plan : Plan) (s : ℕ) → pool.plan ≡ Some plan → pool.reach pool.last s ≡ true → plan.given s ≡ false → plan.states s ≡ InUse
  -- what may not be handed out is reached by the last committed group, or was freed lately, or after a pinned group
  pub no_leak : (s : ℕ) → next_state pool s ≢ Free
      → (pool.reach pool.last s ≡ true) ⊎ ((group : ℕ) × IsFreedIn pool group s × IsWaiting pool group)
  -- what the space maps call allocated is what the last committed group reaches
  pub in_use : (s : ℕ) → (pool.states s ≡ InUse) ↔ (pool.reach pool.last s ≡ true)
