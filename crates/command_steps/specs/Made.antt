-- What a commit has made of a pool.
use Rattle.std.specs.Prelude.{◌≡◌, ◌≤◌, ℕ, suc, [], ◌∷◌, None}
use Rattle.pool_model.specs.declared.step.Step.{Step}
use Rattle.pool_model.specs.declared.step.Step.TheVariants.{Write, Act}
use Rattle.pool_model.specs.Pools.{Entry, PlainPool, applied, no_items}
use Rattle.pool_model.specs.View.{View, Idle}

-- nothing is on its way to the next group, and nobody holds it
pub record IsAtRest (v : View) : Type 0 where
  pub idle : v.sync ≡ Idle
  pub none_waits : v.waiting ≡ None
  pub no_holds : v.holds ≡ []
  pub nothing : v.ledger (suc v.committed) ≡ no_items

-- a write or an action of writer 1
abbrev pub IsItem : Step → Type 0
IsItem (Write w) = w.writer ≡ 1
IsItem (Act a) = a.writer ≡ 1
IsItem step = ⊥

-- the item alone
abbrev pub entry_of : Step → Entry
entry_of (Write w) = record { writes = w ∷ []; actions = [] }
entry_of (Act a) = record { writes = []; actions = a ∷ [] }
entry_of step = no_items

-- the next group is committed, with this pool; all pools before it stay, and the pool is at rest again
pub record IsNextGroup (v : View) (made : PlainPool) (group : ℕ) (w : View) : Type 0 where
  pub next : group ≡ suc v.committed
  pub committed : w.committed ≡ suc v.committed
  pub pool : w.pools (suc v.committed) ≡ made
  pub stay : (n : ℕ) → n ≤ v.committed → w.pools n ≡ v.pools n
  pub rests : IsAtRest w

-- it has the last pool with the item
abbrev pub IsMade : View → Step → ℕ → View → Type 0
IsMade v item group w = IsNextGroup v (applied (suc v.committed) (v.pools v.committed) (entry_of item)) group w

-- it has the last pool as it is
abbrev pub IsSame : View → ℕ → View → Type 0
IsSame v group w = IsNextGroup v (v.pools v.committed) group w

-- no group is committed, and all pools stay
pub record IsKept (v w : View) : Type 0 where
  pub committed : w.committed ≡ v.committed
  pub stay : (n : ℕ) → n ≤ v.committed → w.pools n ≡ v.pools n
