-- Labels that show the pool's configuration, wherever a step, an open or an export is stopped.
use Rattle.std.specs.Prelude.{ℕ, ◌≡◌, ◌+◌, ◌<◌, Bool, false, List, [], length}
use Rattle.model_disk.specs.Contents.{is_dirty}
use Rattle.model_disk.specs.Joint.{Disks, JointCall, MayLeaveAll, bytes_of, calls_on, content}
use Rattle.model_disk.specs.Runs.{EachSince}
use Rattle.raidz_io.specs.Reads.{IsHonestSince}
use Rattle.block_store.specs.declared.shape.VdevShape.{VdevShape}
use Rattle.uberblock_ring.specs.declared.uberblock.Uberblock.{Uberblock}
use Rattle.vdev_label.specs.Plain.{PlainLabel}
use Rattle.vdev_label.specs.declared.label.Config.{Config}
use Rattle.pool_create.specs.Backs.{Backs}
use Rattle.pool_create.specs.CommitState.{State}
use Rattle.pool_create.specs.Moves.{Moves}
use Rattle.pool_create.specs.CoreState.{CoreState, disks_of}
use Rattle.pool_create.specs.Creating.{IsCreated}
use Rattle.pool_format.specs.declared.labeling.PoolIdentity.{PoolIdentity}
use Rattle.pool_model.specs.View.{View}
use Rattle.pool_model.specs.declared.step.Step.{Step}
use Rattle.pool_create.specs.OpenExporting.{IsExportBegun}
use Rattle.pool_create.specs.OpenOpening.{IsKeptThrough, IsOpenedOver}
use Rattle.pool_create.specs.OpenStops.{fresh}
use Rattle.pool_slots.specs.Configs.{AreNotFour, IsConfigured, LeavesConfigured, of_config}
use Rattle.pool_slots.specs.Labels.{IsLabelShown, area_place}
use Rattle.pool_slots.specs.Opens.{CanOpen}
use Rattle.pool_slots.specs.Possible.{IsInReach, Possible, Trees}
use Rattle.pool_slots.specs.Slots.{AreThere, InUse}
use Rattle.pool_stops.specs.Running.{IsRunning, IsWhole}

-- ---- what labels show

-- the label of this number shows it, and no byte of its area was written since the last flush that succeeded
pub record IsFlushedLabel (starts : List (List ℕ)) (calls : List JointCall) (which number : ℕ) (l : PlainLabel) : Type 0 where
  pub shown : IsLabelShown (length (bytes_of starts which)) (content (record { starts = starts; calls = calls }) which) number l
  pub clean : (i : ℕ) → i < 114688 → is_dirty (calls_on which calls) (area_place (length (bytes_of starts which)) number + i) ≡ false

-- each label of each disk in use is so, and has the configuration of this digest
abbrev pub HoldConfigured : List Bool → List (List ℕ) → List ℕ → List JointCall → Type 0
HoldConfigured out starts digest calls =
    (which number : ℕ) → InUse out which → number < 4 → (l : PlainLabel) × IsFlushedLabel starts calls which number l × of_config digest l

-- those of a state
abbrev pub ShowsConfigured : State → List ℕ → Type 0
ShowsConfigured s digest = HoldConfigured s.store.out s.store.disks.starts digest s.store.disks.calls

-- whatever a stop leaves shows the configuration of each uberblock that an open may come to
abbrev pub AreConfigured : List Bool → Disks → Possible → Type 0
AreConfigured out disks p = (u : Uberblock) → IsInReach p u → LeavesConfigured out disks.starts u.config_digest disks.calls

-- it does at each moment up to the new one, if it does at the old one
abbrev pub StayConfigured : List Bool → List ℕ → Disks → Disks → Type 0
StayConfigured out digest old new =
    LeavesConfigured out old.starts digest old.calls → EachSince (length old.calls) (LeavesConfigured out old.starts digest) new.calls

-- ---- laws

-- what each label holds, flushed, a stop leaves in one
abbrev pub HeldLabelsAreLeft : Type 0
HeldLabelsAreLeft =
    (out : List Bool) (starts : List (List ℕ)) (digest : List ℕ) (calls : List JointCall) → AreThere out starts → HoldConfigured out starts digest calls
    → LeavesConfigured out starts digest calls

-- the disks that it leaves hold it in each label, and so don't show four different configurations
abbrev pub HeldLabelsStayHeld : Type 0
HeldLabelsStayHeld =
    (out : List Bool) (starts : List (List ℕ)) (digest : List ℕ) (calls : List JointCall) (images : List (List ℕ)) → AreThere out starts
    → HoldConfigured out starts digest calls → MayLeaveAll starts calls images → HoldConfigured out images digest [] × AreNotFour out (fresh images)

-- what a stop left shows what it was bound to show, and so does whatever a stop leaves of it
abbrev pub LeftDisksAreConfigured : Type 0
LeftDisksAreConfigured =
    (out : List Bool) (starts : List (List ℕ)) (digest : List ℕ) (calls : List JointCall) (images : List (List ℕ)) (p : Possible) → AreThere out starts
    → LeavesConfigured out starts digest calls → MayLeaveAll starts calls images → ((u : Uberblock) → IsInReach p u → u.config_digest ≡ digest)
    → AreConfigured out (fresh images) p

-- A step of a core with no disk out writes nothing but blocks and slots, and so no byte that a label is read of: each label holds what it held, at
-- each moment.
abbrev pub StepsStayConfigured : Type 0
StepsStayConfigured =
    (old new : State) (v : View) (step : Step) (digest : List ℕ) → IsWhole old → Backs old v → Moves step old new → ShowsConfigured old digest
    → EachSince (length old.store.disks.calls) (HoldConfigured old.store.out old.store.disks.starts digest) new.store.disks.calls

-- the disks of a pool that was just made show its configuration
abbrev pub CreatedPoolsAreConfigured : Type 0
CreatedPoolsAreConfigured =
    (old : Disks) (pool : PoolIdentity) (config : Config) (u : Uberblock) (core : CoreState) → IsCreated old pool config u core
    → ShowsConfigured core.commit u.config_digest

-- each disk in use shows it in a label
abbrev pub AreShowing : List Bool → Disks → List ℕ → Type 0
AreShowing out disks digest = (which : ℕ) → InUse out which → IsConfigured (length (bytes_of disks.starts which)) (content disks which) digest

-- Wherever an open is stopped its disks show the configuration that they showed, if all that is possible has this one, no disk shows four different
-- ones, and all answers were true.
abbrev pub OpensStayConfigured : Type 0
OpensStayConfigured =
    (trees : Trees) (old new : Disks) (out : List Bool) (rewind : ℕ) (p : Possible) (digest : List ℕ) → rewind < 3 → CanOpen trees out old p
    → ((u : Uberblock) → IsInReach p u → u.config_digest ≡ digest) → AreNotFour out old → AreShowing out old digest → IsKeptThrough out rewind old new
    → IsHonestSince old new → StayConfigured out digest old new

-- the disks of a pool that was opened show the configuration of the uberblock that was claimed
abbrev pub OpenedPoolsAreConfigured : Type 0
OpenedPoolsAreConfigured =
    (trees : Trees) (old : Disks) (shapes : List VdevShape) (out : List Bool) (rewind : ℕ) (p : Possible) (claimed : Uberblock) (core : CoreState)
    → (is : IsOpenedOver old shapes out rewind claimed core) → CanOpen trees is.later old p → IsHonestSince old (disks_of core)
    → ShowsConfigured core.commit claimed.config_digest

-- wherever an export of a pool that runs is stopped, its disks show the configuration that they showed
abbrev pub ExportsStayConfigured : Type 0
ExportsStayConfigured =
    (core : CoreState) (v : View) (last : Uberblock) (before : List Uberblock) (u : Uberblock) (new : Disks) → IsRunning core v last before
    → IsExportBegun core u new → ShowsConfigured core.commit u.config_digest
    → EachSince (length (disks_of core).calls) (LeavesConfigured core.commit.store.out (disks_of core).starts u.config_digest) new.calls
