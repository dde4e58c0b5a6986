-- When all that a pool accepted is committed.
use Rattle.std.specs.Prelude.{ℕ, ◌≡◌, ◌<◌, false, None}
use Rattle.pool_model.specs.Pools.{no_items}
use Rattle.pool_model.specs.View.{View, is_syncing, now_of}

-- no group is synced or waits, and no group above the committed one has accepted anything
pub record IsAtRest (v : View) : Type 0 where
  pub unsynced : is_syncing v.sync ≡ false
  pub unwaited : v.waiting ≡ None
  pub empty : (group : ℕ) → v.committed < group → v.ledger group ≡ no_items

-- then NOW is what is committed
abbrev pub NowIsCommitted : Type 0
NowIsCommitted = (v : View) → IsAtRest v → now_of v ≡ v.pools v.committed
