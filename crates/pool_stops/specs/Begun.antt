-- A stop in a step, before or behind the moment at which a slot of the next group's uberblock is begun to be written.
use Rattle.std.specs.Prelude.{ℕ, ◌≡◌, ◌⊎◌, ◌<◌, List, length, Some, Contains}
use Rattle.model_disk.specs.Call.{FailedWrite, Wrote}
use Rattle.model_disk.specs.Joint.{Disks, bytes_of, on}
use Rattle.block_store.specs.Places.{shapes_of}
use Rattle.uberblock_ring.specs.Slot.{slot_number}
use Rattle.uberblock_ring.specs.declared.uberblock.Uberblock.{Uberblock}
use Rattle.vdev_label.specs.Plain.{PlainVdev}
use Rattle.pool_create.specs.CommitPlanned.{Planned}
use Rattle.pool_create.specs.CommitState.{NoneIsOut, State}
use Rattle.pool_create.specs.CoreState.{CoreState, disks_of}
use Rattle.pool_create.specs.CoreSteps.{Link}
use Rattle.pool_create.specs.Moves.{Moves}
use Rattle.pool_format.specs.declared.labeling.PoolIdentity.{PoolIdentity}
use Rattle.pool_model.specs.View.{Given, View}
use Rattle.pool_model.specs.declared.step.Reply.{Reply}
use Rattle.pool_model.specs.declared.step.Step.{Step}
use Rattle.pool_slots.specs.Commits.{last_or, only_last}
use Rattle.pool_slots.specs.Possible.{Possible}
use Rattle.pool_slots.specs.Slots.{slot_at, spelled}
use Rattle.pool_stops.specs.OneConfig.{IsRunningAs}
use Rattle.pool_stops.specs.OwnReopening.{LeadToOwnPools}
use Rattle.pool_stops.specs.OwnRunning.{IsOnItsDisks}
use Rattle.pool_stops.specs.Reopening.{LeavesImages}
use Rattle.pool_stops.specs.Running.{pool_of}

-- a write of the uberblock to its slot in a label, answered or failed, is among the calls
pub record IsBegun (u : Uberblock) (disks : Disks) : Type 0 where
  pub which : ℕ
  pub label : ℕ
  pub is_label : label < 4
  pub made : Contains disks.calls (on which (Wrote (slot_at (length (bytes_of disks.starts which)) label (slot_number u.group)) (spelled u)))
      ⊎ Contains disks.calls (on which (FailedWrite (slot_at (length (bytes_of disks.starts which)) label (slot_number u.group)) (spelled u)))

-- the last committed uberblock is possible, or also the plan's, once a slot of it was begun
abbrev pub IsPossibleNow : State → Uberblock → List Uberblock → Disks → Possible → Type 0
IsPossibleNow s last before disks p =
    (p ≡ only_last last before)
    ⊎ ((plan : Planned) × (s.planned ≡ Some plan) × IsBegun plan.uberblock disks × (p ≡ last_or last before plan.uberblock))

-- the disks at the moment at which a stop left images of them
abbrev pub at_stop : {out : _} {old new : Disks} {images : List (List ℕ)} → LeavesImages out old new images → Disks
at_stop {old = old} leaves = record { starts = old.starts; calls = leaves.calls }

-- ---- laws

-- A step that is stopped leaves the pool's own disks, which lead to what is possible at that moment.
abbrev pub StoppedStepsLeadToOwnPools : Type 0
StoppedStepsLeadToOwnPools =
    (pool : PoolIdentity) (vdevs : List PlainVdev) (digest : List ℕ) (old new : CoreState) (v w : View) (step : Step) (given : Given) (reply : Reply)
    (last : Uberblock) (before : List Uberblock) (images : List (List ℕ)) → IsRunningAs digest old v last before → IsOnItsDisks pool vdevs old last before
    → Link old v step given reply new w → Moves step old.commit new.commit → NoneIsOut new.commit
    → (leaves : LeavesImages old.commit.store.out (disks_of old) (disks_of new) images)
    → (p : Possible) × IsPossibleNow old.commit last before (at_stop leaves) p
    × LeadToOwnPools pool vdevs digest images (shapes_of old.commit.store.spaces) old.commit.store.out p (pool_of v)
