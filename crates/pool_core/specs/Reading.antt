-- Reads that are refused, and blocks that could not be read.
use Rattle.std.specs.Prelude.{ℕ, ◌≡◌, List, [], Option, Some, None}
use Rattle.pool_model.specs.declared.refusal.Refusal.{Refusal as Cause}
use Rattle.pool_model.specs.Pools.{Entry}
use Rattle.pool_model.specs.View.{View, Loss}
use Rattle.pool_commit.specs.declared.refusal.Refusal.{Refusal}
use Rattle.pool_commit.specs.declared.refusal.Refusal.TheVariants.{DiskFault}
use Rattle.pool_commit.specs.Reading.{IsUnreadUnder, IsUnreadForPlan, IsLostUnder, LosesOn}
use Rattle.pool_commit.specs.State.{State}
use Rattle.pool_commit.specs.Causes.{cause_of}

-- the range could not be read, and that is the answer
pub record IsLostAnswer (v : View) (old new : State) (group : ℕ) (name : List ℕ) (offset len : ℕ) (missing : List ℕ) (cause : Cause) : Type 0 where
  pub refusal : Refusal
  pub answered : cause ≡ cause_of refusal
  pub lost : IsLostUnder v old new group name offset len missing refusal

-- the range could not be read for lack of disks, and of a block on the way to it this is the vdev of the last copy, and the birth
pub record LosesUnder (v : View) (old new : State) (group : ℕ) (name : List ℕ) (offset len : ℕ) (loss : Loss) : Type 0 where
  pub unread : IsUnreadUnder old new group name offset len [] DiskFault
  pub on : LosesOn v [] old.store new.store loss

-- where there are bytes to be read in the committed pool, these could not be read for lack of disks, and this was lost
abbrev pub LosesAt : View → State → State → Option (List ℕ) → ℕ → ℕ → Loss → Type 0
LosesAt v old new None offset len loss = ⊥
LosesAt v old new (Some name) offset len loss = LosesUnder v old new v.committed name offset len loss

-- so it is of a plan of a group's items
pub record LosesForPlan (v : View) (old new : State) (items : Entry) (loss : Loss) : Type 0 where
  pub unread : IsUnreadForPlan old new items DiskFault
  pub on : LosesOn v [] unread.refused.begun new.store loss
