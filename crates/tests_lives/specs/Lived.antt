-- A life that was lived: by what its calls ensured it is one.
use Rattle.std.specs.Prelude.{ℕ, Bool, List, [], ◌∷◌}
use Rattle.model_disk.specs.Joint.{Disks}
use Rattle.model_disk.specs.declared.disk.Disk as disk
use Rattle.raidz_io.specs.Reads.{IsHonestSince}
use Rattle.uberblock_ring.specs.declared.uberblock.Uberblock.{Uberblock}
use Rattle.vdev_label.specs.declared.label.Config.{Config}
use Rattle.pool_create.specs.CommitState.{NoneIsOut}
use Rattle.pool_create.specs.CoreRuns.{Ran}
use Rattle.pool_create.specs.CoreState.{CoreState, disks_of}
use Rattle.pool_create.specs.Creates.{IsCreatedOn}
use Rattle.pool_create.specs.OpenExporting.{IsExportDone}
use Rattle.pool_create.specs.OpenFinding.{FindRefuses, IsArrayOf}
use Rattle.pool_create.specs.Opens.{IsOpened}
use Rattle.pool_create.specs.Represents.{Represents}
use Rattle.pool_format.specs.declared.labeling.PoolIdentity.{PoolIdentity}
use Rattle.pool_labels.specs.declared.refusal.Refusal.{Refusal as LabelsRefusal}
use Rattle.pool_lives.specs.Lasting.{IsAtHand}
use Rattle.pool_lives.specs.Lives.{Exports, FindsNone, HandsBack, IsCrashHistory, IsMade, Opens, Runs, Up}
use Rattle.pool_model.specs.View.{View}
use Rattle.pool_model.specs.declared.step.Reply.{Reply}
use Rattle.pool_model.specs.declared.step.Step.{Step}
use Rattle.pool_slots.specs.Failures.{HasFailedOn}
use Rattle.pool_slots.specs.Opens.{IsKnown}
use Rattle.pool_stops.specs.OwnReopening.{IsOpenedTruly}
use Rattle.pool_stops.specs.Unhindered.{AnswerTruly}

module _ {D : Type 0} where
  -- where the disks' bytes were known, all answers were true, no call failed as the pool was made, and none is out
  pub record AllWell (g : disk.Ghosts D) {disks : List D} {pool : PoolIdentity} {config : Config} {u : Uberblock} {first : CoreState}
      (created : IsCreatedOn g disks pool config u first) (core : CoreState) : Type 0 where
    pub known : (which : ℕ) → IsKnown created.array which
    pub truly : AnswerTruly created.array (disks_of first)
    pub honest : IsHonestSince (disks_of first) (disks_of core)
    pub all : NoneIsOut core.commit

  -- the pool was made and took these steps, which is a life where all went well; and then a view is served
  pub record HasLived (g : disk.Ghosts D) (disks : List D) (pool : PoolIdentity) (config : Config) (steps : List Step) (u : Uberblock) (core : CoreState)
      : Type 0 where
    pub first : CoreState
    pub created : IsCreatedOn g disks pool config u first
    pub before : List Reply
    pub after : List Reply
    pub ran : Ran first steps before core after
    pub life : AllWell g created core → IsMade g pool config u first × IsCrashHistory g (Up first) (Runs steps ran.0 ∷ []) (Up core)
    pub serves : AllWell g created core → (v : View) × Represents core v

  -- ---- with no stop between

  -- the disks were opened with true answers, no call failed, and none went out
  pub record WentWell {g : disk.Ghosts D} {disks : List D} {u : Uberblock} {core : CoreState} (is : IsOpened g disks 0 u core) : Type 0 where
    pub truly : IsOpenedTruly is
    pub none_failed : (which : ℕ) → ¬ HasFailedOn is.array (disks_of core) which

  -- a pool was exported and its very disks were opened, which is a life where all went well
  pub record ExportsAndOpens (g : disk.Ghosts D) (old : CoreState) (u : Uberblock) (new : CoreState) : Type 0 where
    pub exported : Uberblock
    pub later : List Bool
    pub left : Disks
    pub done : IsExportDone old exported later left
    pub disks : List D
    pub opened : IsOpened g disks 0 u new
    pub life : IsAtHand old → AnswerTruly (disks_of old) left → WentWell opened → IsCrashHistory g (Up old) (Exports ∷ Opens 0 u ∷ []) (Up new)

  -- it took more steps
  pub record RunsOn (g : disk.Ghosts D) (old : CoreState) (steps : List Step) (new : CoreState) : Type 0 where
    pub before : List Reply
    pub after : List Reply
    pub ran : Ran old steps before new after
    pub life : IsHonestSince (disks_of old) (disks_of new) → NoneIsOut new.commit → IsCrashHistory g (Up old) (Runs steps ran.0 ∷ []) (Up new)

  -- so it is where a core gave them back, and no pool was found two groups before its own
  pub record GivesBackAndOpens (g : disk.Ghosts D) (old : CoreState) (u : Uberblock) (new : CoreState) : Type 0 where
    pub disks : List D
    pub array : IsArrayOf g disks (disks_of old)
    pub back : List D
    pub cause : LabelsRefusal
    pub unfound : FindRefuses g disks 2 back cause
    pub opened : IsOpened g back 0 u new
    pub life : IsAtHand old → WentWell opened → IsCrashHistory g (Up old) (HandsBack ∷ FindsNone 2 ∷ Opens 0 u ∷ []) (Up new)

  -- all of it, which is one life; and then a view is served
  pub record HasLivedOn (g : disk.Ghosts D) (disks : List D) (pool : PoolIdentity) (config : Config) (steps more : List Step) (u : Uberblock) (core : CoreState)
      : Type 0 where
    pub first : Uberblock
    pub run : CoreState
    pub lived : HasLived g disks pool config steps first run
    pub second : Uberblock
    pub again : CoreState
    pub exports : ExportsAndOpens g run second again
    pub last : CoreState
    pub runs : RunsOn g again more last
    pub gives : GivesBackAndOpens g last u core
    pub life : AllWell g lived.created run → AnswerTruly (disks_of run) exports.left → WentWell exports.opened
        → IsHonestSince (disks_of again) (disks_of last) → NoneIsOut last.commit → WentWell gives.opened
        → IsCrashHistory g (Up lived.first)
        (Runs steps lived.ran.0 ∷ Exports ∷ Opens 0 second ∷ Runs more runs.ran.0 ∷ HandsBack ∷ FindsNone 2 ∷ Opens 0 u ∷ []) (Up core)
        × ((v : View) × Represents core v)
