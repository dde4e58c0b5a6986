-- What holds of every life of a pool.
use Rattle.std.specs.Prelude.{ℕ, ◌≡◌, ◌⊎◌, ◌<◌, Bool, None, List, [], ◌∷◌, ◌++◌, length}
use Rattle.model_disk.specs.Joint.{Disks}
use Rattle.model_disk.specs.Runs.{AreSettled}
use Rattle.model_disk.specs.declared.disk.Disk as disk
use Rattle.block_store.specs.Store.{is_out}
use Rattle.block_store.specs.declared.shape.VdevShape.{VdevShape}
use Rattle.uberblock_ring.specs.declared.uberblock.Uberblock.{Uberblock}
use Rattle.vdev_label.specs.Plain.{PlainVdev, config_view}
use Rattle.vdev_label.specs.declared.label.Config.{Config}
use Rattle.pool_create.specs.CommitState.{NoneIsOut}
use Rattle.pool_create.specs.CoreRuns.{Ran}
use Rattle.pool_create.specs.CoreState.{CoreState, disks_of}
use Rattle.pool_create.specs.OpenExporting.{IsExportDone, IsExportStopped, IsGivenBack, IsPutAway, outs_of}
use Rattle.pool_create.specs.OpenFinding.{FindRefuses}
use Rattle.pool_create.specs.OpenRefusal.{Refusal}
use Rattle.pool_create.specs.Opens.{IsOpened, IsUnopened}
use Rattle.pool_create.specs.Planning.{nobody}
use Rattle.pool_create.specs.Represents.{Represents}
use Rattle.pool_create.specs.Words.{vdevs_in}
use Rattle.pool_format.specs.declared.labeling.PoolIdentity.{PoolIdentity}
use Rattle.pool_labels.specs.declared.refusal.Refusal.{Refusal as LabelsRefusal}
use Rattle.pool_model.specs.Pools.{PlainPool, no_volumes}
use Rattle.pool_model.specs.View.{View, none_stale, opened_as}
use Rattle.pool_model.specs.declared.refusal.Refusal.{Refusal as ExportRefusal}
use Rattle.pool_model.specs.declared.step.Reply.{Reply}
use Rattle.pool_model.specs.declared.step.Step.{Step}
use Rattle.raidz_io.specs.Reads.{IsHonestSince}
use Rattle.pool_core.specs.Exporting.{IsExportable}
use Rattle.pool_slots.specs.Failures.{HasFailedOn}
use Rattle.pool_slots.specs.Opens.{IsKnown}
use Rattle.pool_slots.specs.Possible.{Possible}
use Rattle.pool_stops.specs.Handed.{AreShown}
use Rattle.pool_stops.specs.OwnReopening.{AreReturned, AreSafe, ArraysComeBack, IsOpenedTruly, LeadToOwnPools, OpenAgain}
use Rattle.pool_stops.specs.Unhindered.{AnswerTruly}
use Rattle.pool_lives.specs.Lives.{AllTell, Down, Exports, FindsNone, Goes, HandsBack, Happening, IsLeft, IsCrashHistory, IsMade, Opens, Place, Runs, StopsOpening, StopsRunning, Up}
use Rattle.pool_lives.specs.Tales.{IsTale, Known, Resting, Serving}

-- each open's claim is above this one and all that were opened before it
abbrev pub ClaimsRise : ℕ → List Happening → Type 0
ClaimsRise claim [] = Unit {0}
ClaimsRise claim (Opens rewind u ∷ its) = (claim < u.claim) × ClaimsRise u.claim its
ClaimsRise claim (Runs steps replies ∷ its) = ClaimsRise claim its
ClaimsRise claim (StopsRunning steps at ∷ its) = ClaimsRise claim its
ClaimsRise claim (HandsBack ∷ its) = ClaimsRise claim its
ClaimsRise claim (Exports ∷ its) = ClaimsRise claim its
ClaimsRise claim (StopsOpening rewind ∷ its) = ClaimsRise claim its
ClaimsRise claim (FindsNone rewind ∷ its) = ClaimsRise claim its

-- No disk of the core is out, and each byte of theirs is known. Where the pool may be exported nothing is planned, and while nothing is nothing is unflushed.
pub record IsAtHand (core : CoreState) : Type 0 where
  pub none : NoneIsOut core.commit
  pub count : length core.commit.store.out ≡ length (disks_of core).starts
  pub known : (which : ℕ) → IsKnown (disks_of core) which
  pub unplanned : IsExportable core → core.commit.planned ≡ None
  pub settled : core.commit.planned ≡ None → AreSettled (disks_of core)

module _ {D : Type 0} where
  -- what is served before anything was run
  abbrev pub served_first : {g : disk.Ghosts D} {pool : PoolIdentity} {config : Config} {u : Uberblock} {core : CoreState} → IsMade g pool config u core → View
  served_first made = opened_as (vdevs_in made.created.created.shapes) (is_out (nobody made.created.array.starts)) none_stale 3 no_volumes

  -- The core represents the view that is served, and its disks are at hand; or the disks are the pool's own, lead to the possible uberblocks with their pools, and open again.
  abbrev pub Keeps : disk.Ghosts D → PoolIdentity → Config → List ℕ → Place → Known → Type 0
  Keeps g pool config digest (Up core) (Serving v last before) = Represents core v × IsAtHand core
  Keeps g pool config digest (Down images) (Resting p pools) =
      (shapes : List VdevShape) × (out : List Bool) × LeadToOwnPools pool (config_view config) digest images shapes out p pools
      × OpenAgain g pool (config_view config) digest images shapes out p pools
  Keeps g pool config digest _ _ = ⊥

  -- Each life of a pool that was made, with all disks there, true answers, and in its runs such as tell, tells a tale, and no open meets or passes below the claim of another.
  abbrev pub CrashHistoriesKeepTheLastGroup : disk.Ghosts D → Type 0
  CrashHistoriesKeepTheLastGroup g =
      (pool : PoolIdentity) (config : Config) (u : Uberblock) (core : CoreState) (made : IsMade g pool config u core) (its : List Happening) (to : Place)
      → IsCrashHistory g (Up core) its to
      → (known : Known) × IsTale (Serving (served_first made) u []) its known × Keeps g pool config u.config_digest to known × ClaimsRise u.claim its

  -- Each byte of the disks is known then, with nothing unflushed; and whatever bytes they show it goes on with these, with no stop between.
  abbrev pub HandsOn : disk.Ghosts D → Place → Happening → Disks → Type 0
  HandsOn g from it disks = AreSafe disks × ((images : List (List ℕ)) → AreShown images disks → Goes g from it (Down images))

  -- A life goes on with what happens next; and each public call is something that happens, by what it ensures.
  pub record CrashHistoriesGoOn (g : disk.Ghosts D) : Type 0 where
    pub on : (from to next : Place) (its : List Happening) (it : Happening) → IsCrashHistory g from its to → Goes g to it next → IsCrashHistory g from (its ++ it ∷ []) next
    pub runs : (old new : CoreState) (steps : List Step) (before after : List Reply) → (ran : Ran old steps before new after)
        → IsHonestSince (disks_of old) (disks_of new) ⊎ AllTell old steps before new after ran → NoneIsOut new.commit → Goes g (Up old) (Runs steps ran.0) (Up new)
    pub exports : (core : CoreState) (disks : List D) (images : List (List ℕ)) → (put : IsPutAway g core disks) → IsHonestSince (disks_of core) put.new
        → IsLeft (outs_of core) (disks_of core) put.new images → Goes g (Up core) Exports (Down images)
    pub refused_exports : (core : CoreState) (refusal : ExportRefusal) (disks : List D) (images : List (List ℕ)) → (given : IsGivenBack g core refusal disks)
        → IsHonestSince (disks_of core) given.new → IsLeft (outs_of core) (disks_of core) given.new images → Goes g (Up core) Exports (Down images)
    pub opens : (images : List (List ℕ)) (disks : List D) (order : List ℕ) (rewind : ℕ) (claimed : Uberblock) (core : CoreState)
        → AreReturned g images disks order → (is : IsOpened g disks rewind claimed core) → IsOpenedTruly is
        → ((which : ℕ) → ¬ HasFailedOn is.array (disks_of core) which) → Goes g (Down images) (Opens rewind claimed) (Up core)
    pub refused_opens : (images : List (List ℕ)) (disks : List D) (order : List ℕ) (rewind : ℕ) (refusal : Refusal) (back : List D) (left : List (List ℕ)) → rewind < 3
        → AreReturned g images disks order → (is : IsUnopened g disks rewind back refusal) → AnswerTruly is.ordered.found.old is.ordered.found.new
        → AnswerTruly is.array is.new → IsLeft is.out is.array is.new left → Goes g (Down images) (StopsOpening rewind) (Down left)
    pub unfound : (images : List (List ℕ)) (disks back : List D) (order : List ℕ) (rewind : ℕ) (cause : LabelsRefusal) → AreReturned g images disks order
        → FindRefuses g disks rewind back cause → Goes g (Down images) (FindsNone rewind) (Down images) × AreReturned g images back order
    -- And with no stop between: the disks of a core with nothing planned, of an export that was done, or refused once it was begun, and of an open that was
    -- refused once its pool was found.
    pub hands_back : (core : CoreState) → IsAtHand core → core.commit.planned ≡ None → HandsOn g (Up core) HandsBack (disks_of core)
    pub hands_exported : (core : CoreState) (u : Uberblock) (later : List Bool) (new : Disks) → IsAtHand core → IsExportDone core u later new → AnswerTruly (disks_of core) new
        → HandsOn g (Up core) Exports new
    pub hands_unexported : (core : CoreState) (u : Uberblock) (later : List Bool) (new : Disks) (refusal : ExportRefusal) → IsAtHand core
        → IsExportStopped core u later new refusal → AnswerTruly (disks_of core) new → HandsOn g (Up core) Exports new
    pub hands_unopened : (pool : PoolIdentity) (vdevs : List PlainVdev) (digest : List ℕ) (images : List (List ℕ)) (shapes : List VdevShape) (out : List Bool)
        (p : Possible) (pools : Uberblock → PlainPool) (disks : List D) (order : List ℕ) (rewind : ℕ) (refusal : Refusal) (back : List D)
        → OpenAgain g pool vdevs digest images shapes out p pools → rewind < 3 → AreReturned g images disks order → (is : IsUnopened g disks rewind back refusal)
        → AnswerTruly is.ordered.found.old is.ordered.found.new → AnswerTruly is.array is.new → HandsOn g (Down images) (StopsOpening rewind) is.new
    -- such disks may be handed in again, as they stand in their array
    pub arrays : ArraysComeBack g
