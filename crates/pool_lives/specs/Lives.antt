-- Lives of a pool: what its public calls did, one after another, and the stops in them. All disks are there, and answer truly; in a run it is enough that
-- what they answer tells what was written.
use Rattle.std.specs.Prelude.{ℕ, ◌≡◌, ◌⊎◌, ◌<◌, Bool, true, None, List, [], ◌∷◌, ◌++◌, map}
use Rattle.model_disk.specs.Joint.{Disks}
use Rattle.model_disk.specs.declared.disk.Disk as disk
use Rattle.raidz_io.specs.Reads.{IsHonestSince}
use Rattle.uberblock_ring.specs.declared.uberblock.Uberblock.{Uberblock}
use Rattle.vdev_label.specs.declared.label.Config.{Config}
use Rattle.pool_create.specs.CommitState.{NoneIsOut}
use Rattle.pool_create.specs.CoreRuns.{Ran, TellIn}
use Rattle.pool_create.specs.CoreState.{CoreState, disks_of}
use Rattle.pool_create.specs.Creates.{IsCreatedOn}
use Rattle.pool_create.specs.OpenExporting.{IsExportBegun}
use Rattle.pool_create.specs.OpenFinding.{FindRefuses}
use Rattle.pool_create.specs.OpenRefusal.{Refusal}
use Rattle.pool_labels.specs.declared.refusal.Refusal.{Refusal as LabelsRefusal}
use Rattle.pool_create.specs.Opens.{IsOpened, IsUnopened}
use Rattle.pool_format.specs.declared.labeling.PoolIdentity.{PoolIdentity}
use Rattle.pool_model.specs.declared.step.Reply.{Reply}
use Rattle.pool_model.specs.declared.step.Step.{Step}
use Rattle.pool_slots.specs.Failures.{HasFailedOn}
use Rattle.pool_slots.specs.Opens.{IsKnown}
use Rattle.pool_stops.specs.Begun.{at_stop}
use Rattle.pool_stops.specs.Handed.{AreShown}
use Rattle.pool_stops.specs.OwnReopening.{AreReturned, IsOpenedTruly}
use Rattle.pool_stops.specs.Reopening.{LeavesImages}
use Rattle.pool_stops.specs.Stopping.{AreLabelsUntorn}
use Rattle.pool_stops.specs.Unhindered.{AnswerTruly}

-- where a life has come to: a core is up, or disks are down that hold these bytes
pub data Place : Type 0 where
  Up : CoreState → Place
  Down : List (List ℕ) → Place

-- A run takes steps and gives these replies; or it is stopped in them, when the disks are these. The core gives its disks back. The pool is exported,
-- stopped in that or not. Disks are opened, going back so many groups, as this uberblock; or an open of them is refused, or stopped; or it is refused, as no
-- pool is found on them.
pub data Happening : Type 0 where
  Runs : List Step → List Reply → Happening
  StopsRunning : List Step → Disks → Happening
  HandsBack : Happening
  Exports : Happening
  Opens : ℕ → Uberblock → Happening
  StopsOpening : ℕ → Happening
  FindsNone : ℕ → Happening

-- what the disks answered in each of these steps tells what was written
abbrev pub AllTell : (old : CoreState) (steps : List Step) (before : List Reply) (new : CoreState) (after : List Reply) → Ran old steps before new after → Type 0
AllTell old steps before new after ran = TellIn old steps ran.0 new ran.2 (map (λ reply. true) ran.0)

-- `run` took these steps, and added these replies
pub record IsRun (old : CoreState) (steps : List Step) (replies : List Reply) (new : CoreState) : Type 0 where
  pub before : List Reply
  pub ran : Ran old steps before new (before ++ replies)
  pub tell : AllTell old steps before new (before ++ replies) ran
  pub all : NoneIsOut new.commit

-- a stop at some moment of that, when the disks were these, left these bytes
abbrev pub IsRunStopped : CoreState → List Step → Disks → List (List ℕ) → Type 0
IsRunStopped old steps at images =
    (new : CoreState) × (replies : List Reply) × IsRun old steps replies new × (leaves : LeavesImages old.commit.store.out (disks_of old) (disks_of new) images) × (at ≡ at_stop leaves)

-- the disks of a core that plans nothing show these bytes
abbrev pub IsHandedBack : CoreState → List (List ℕ) → Type 0
IsHandedBack core images = (core.commit.planned ≡ None) × AreShown images (disks_of core)

-- a stop at some moment since the old one left these bytes, where nothing that was torn in a label reads as one by chance
abbrev pub IsLeft : List Bool → Disks → Disks → List (List ℕ) → Type 0
IsLeft out old new images = (leaves : LeavesImages out old new images) × AreLabelsUntorn old.starts leaves.calls images

-- `export` began to put the pool away, and a stop at some moment since, or once it was done, left these bytes
abbrev pub IsExported : CoreState → List (List ℕ) → Type 0
IsExported core images =
    (u : Uberblock) × (new : Disks) × IsExportBegun core u new × IsHonestSince (disks_of core) new
    × IsLeft core.commit.store.out (disks_of core) new images

module _ {D : Type 0} where
  -- `create` made the pool, on disks whose bytes were known
  pub record IsMade (g : disk.Ghosts D) (pool : PoolIdentity) (config : Config) (u : Uberblock) (core : CoreState) : Type 0 where
    pub disks : List D
    pub created : IsCreatedOn g disks pool config u core
    pub known : (which : ℕ) → IsKnown created.array which
    pub truly : AnswerTruly created.array (disks_of core)

  -- `open` opened the disks, handed in in some order
  pub record IsAnswered (g : disk.Ghosts D) (images : List (List ℕ)) (rewind : ℕ) (claimed : Uberblock) (core : CoreState) : Type 0 where
    pub disks : List D
    pub order : List ℕ
    pub returned : AreReturned g images disks order
    pub opened : IsOpened g disks rewind claimed core
    pub truly : IsOpenedTruly opened
    pub none_failed : (which : ℕ) → ¬ HasFailedOn opened.array (disks_of core) which

  -- it was refused, as no pool was found
  abbrev pub IsUnfound : disk.Ghosts D → List (List ℕ) → ℕ → Type 0
  IsUnfound g images rewind =
      (disks : List D) × (order : List ℕ) × AreReturned g images disks order × (back : List D) × (cause : LabelsRefusal) × FindRefuses g disks rewind back cause

  -- A stop at some moment of an open, answered or refused, left these bytes. Where it was refused that was behind the finding of the pool, and no call failed.
  pub record IsOpenStopped (g : disk.Ghosts D) (images : List (List ℕ)) (rewind : ℕ) (left : List (List ℕ)) : Type 0 where
    pub disks : List D
    pub order : List ℕ
    pub returned : AreReturned g images disks order
    pub few : rewind < 3
    pub how : ((claimed : Uberblock) × (core : CoreState) × (is : IsOpened g disks rewind claimed core) × IsOpenedTruly is × IsLeft is.out is.array (disks_of core) left)
        ⊎ ((back : List D) × (refusal : Refusal) × (is : IsUnopened g disks rewind back refusal) × AnswerTruly is.ordered.found.old is.ordered.found.new
        × AnswerTruly is.array is.new × IsLeft is.out is.array is.new left)

  -- what happened leads from one place to the next, by what the call ensured or what a stop in it left
  abbrev pub Goes : disk.Ghosts D → Place → Happening → Place → Type 0
  Goes g (Up core) (Runs steps replies) (Up later) = IsRun core steps replies later
  Goes g (Up core) (StopsRunning steps at) (Down images) = IsRunStopped core steps at images
  Goes g (Up core) HandsBack (Down images) = IsHandedBack core images
  Goes g (Up core) Exports (Down images) = IsExported core images
  Goes g (Down images) (Opens rewind claimed) (Up core) = IsAnswered g images rewind claimed core
  Goes g (Down images) (StopsOpening rewind) (Down left) = IsOpenStopped g images rewind left
  Goes g (Down images) (FindsNone rewind) (Down left) = IsUnfound g images rewind × (left ≡ images)
  Goes g _ _ _ = ⊥

  -- it goes on so, from place to place
  abbrev pub IsCrashHistory : disk.Ghosts D → Place → List Happening → Place → Type 0
  IsCrashHistory g from [] to = from ≡ to
  IsCrashHistory g from (it ∷ its) to = (next : Place) × Goes g from it next × IsCrashHistory g next its to
