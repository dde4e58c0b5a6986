-- What a commit makes of a pool.
use Rattle.std.specs.Prelude.{◌≡◌, suc, [], None}
use Rattle.pool_model.specs.declared.step.Step.{Step}
use Rattle.pool_model.specs.declared.step.Reply.{Reply}
use Rattle.pool_model.specs.declared.step.Reply.TheVariants.{Closed, Quiesced, Planned, Moved, Replan, Committed, Refused}
use Rattle.pool_model.specs.Pools.{applied}
use Rattle.pool_model.specs.View.{View, Idle, Unplanned}
use Rattle.pool_steps.specs.declared.steps.PoolSteps.{Ghosts}
use Rattle.pool_steps.specs.Goes.{Goes}
use Rattle.volume_device.specs.Causes.{flushing}

-- nobody holds a group, and none waits or is synced
pub record MayCommit (v : View) : Type 0 where
  pub idle : v.sync ≡ Idle
  pub none_waits : v.waiting ≡ None
  pub no_holds : v.holds ≡ []

-- no group is committed, and no item accepted
pub record IsBetween (v w : View) : Type 0 where
  pub committed : w.committed ≡ v.committed
  pub pools : w.pools ≡ v.pools
  pub ledger : w.ledger ≡ v.ledger
  pub next : w.next ≡ v.next

-- the open group is committed, with what it had accepted, and the pool is at rest
pub record IsCommitted (v w : View) : Type 0 where
  pub committed : w.committed ≡ suc v.committed
  pub pool : w.pools (suc v.committed) ≡ applied (suc v.committed) (v.pools v.committed) (v.ledger (suc v.committed))
  pub ledger : w.ledger ≡ v.ledger
  pub next : w.next ≡ v.next
  pub idle : w.sync ≡ Idle
  pub none_waits : w.waiting ≡ None
  pub no_holds : w.holds ≡ []

-- how far the group is after this reply
abbrev pub IsAbout : Reply → View → Type 0
IsAbout (Closed group) w = (w.sync ≡ Idle) × (w.holds ≡ [])
IsAbout (Quiesced group) w = (w.sync ≡ Idle) × (w.holds ≡ [])
IsAbout (Planned group) w = (w.waiting ≡ None) × (w.holds ≡ [])
IsAbout (Moved phase) w = (w.waiting ≡ None) × (w.holds ≡ [])
IsAbout (Replan disk) w = (w.sync ≡ Unplanned) × (w.waiting ≡ None) × (w.holds ≡ [])
IsAbout (Refused cause) w = Unit {0}
IsAbout reply w = ⊥

-- so far the commit has come by this reply
abbrev pub Reaches : View → Reply → View → Type 0
Reaches v (Committed group) w = IsCommitted v w
Reaches v reply w = IsBetween v w × IsAbout reply w

module _ {P : Type 0} (steps : Ghosts P) where
  -- the reply is to a step of a commit, the last that was taken
  pub record IsLastReply (old : P) (reply : Reply) (new : P) : Type 0 where
    pub before : P
    pub from_old : steps.came_from old before
    pub step : Step
    pub kind : flushing step
    pub goes : Goes steps.represents steps.answers_tell steps.links before step reply new

  -- a commit was begun, and has come so far
  pub record Commits (old : P) (reply : Reply) (new : P) : Type 0 where
    pub follows : steps.came_from old new
    pub last : IsLastReply old reply new
    pub reaches : (v : View) → steps.represents old v → steps.answers_tell old new → MayCommit v → (w : View) × steps.represents new w × Reaches v reply w
