-- When an intake follows a view, and what its steps are.
use Rattle.std.specs.Prelude.{◌≡◌, ℕ, suc, true, false}
use Rattle.pool_model.specs.declared.step.Step.{Step}
use Rattle.pool_model.specs.declared.step.Reply.{Reply}
use Rattle.pool_model.specs.View.{View, nothing_given, is_syncing, is_suspended, now_of}
use Rattle.pool_model.specs.Flow.{flow_of}
use Rattle.pool_model.specs.Machine.{StepOf}
use Rattle.pool_model.specs.Sound.{IsSound}
use Rattle.txg_pipeline.specs.Carries.{Carries}
use Rattle.volume_rules.specs.Effects.{PendingTakeEffect}
use Rattle.volume_rules.specs.GoodChanges.{MakesGoodVolumes}
use Rattle.volume_rules.specs.Index.{Knows}
use Rattle.volume_rules.specs.NowMoves.{GroupsAreBelow}
use Rattle.pool_intake.specs.declared.intake.Intake.{Intake}

-- the intake is in a state that the view describes
pub record Follows (intake : Intake) (v : View) : Type 0 where
  pub sound : IsSound v
  pub flow : Carries intake.pipeline (flow_of v)
  pub names : Knows intake.index (now_of v)
  pub made : GroupsAreBelow v
  -- each volume that a group is to make may be made
  pub good : (group : ℕ) → MakesGoodVolumes (v.ledger group)
  -- each pending change takes effect
  pub effects : PendingTakeEffect v

-- what is committed, and what the group that is synced has accepted, stays
pub record KeepsCommitted (v w : View) : Type 0 where
  pub vdevs : w.vdevs ≡ v.vdevs
  pub slots : w.slots ≡ v.slots
  pub first : w.first ≡ v.first
  pub committed : w.committed ≡ v.committed
  pub sync : w.sync ≡ v.sync
  pub pools : w.pools ≡ v.pools
  pub out : w.out ≡ v.out
  pub stale : w.stale ≡ v.stale
  pub synced : is_syncing v.sync ≡ true → w.ledger (suc v.committed) ≡ v.ledger (suc v.committed)

-- in each view that old follows this is a step of the machine, with no call of a disk, to a view that new follows
abbrev pub TakesStep : Intake → Step → Reply → Intake → Type 0
TakesStep old step reply new = (v : View) → Follows old v → (w : View) × StepOf v nothing_given step reply w × Follows new w × KeepsCommitted v w

-- the same where the pool is not suspended
abbrev pub TakesStepUnlessSuspended : Intake → Step → Reply → Intake → Type 0
TakesStepUnlessSuspended old step reply new = (v : View) → Follows old v → is_suspended v ≡ false → (w : View) × StepOf v nothing_given step reply w × Follows new w × KeepsCommitted v w
