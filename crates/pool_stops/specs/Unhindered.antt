-- Opens that nothing hinders: they are refused for want of memory alone.
use Rattle.std.specs.Prelude.{ℕ, ◌≡◌, ◌<◌, Bool, true, false, List, length}
use Rattle.model_disk.specs.Joint.{Disks, bytes_of, content}
use Rattle.raidz_io.specs.Reads.{IsHonestSince}
use Rattle.block_store.specs.Opened.{MayBeOpened}
use Rattle.block_store.specs.Store.{is_out}
use Rattle.block_store.specs.declared.shape.VdevShape.{VdevShape}
use Rattle.pool_model.specs.Pools.{PlainPool}
use Rattle.pool_model.specs.Refusals.{greatest}
use Rattle.pool_model.specs.View.{is_tolerable}
use Rattle.pool_create.specs.OpenOpening.{IsNotOpenedOver}
use Rattle.pool_create.specs.OpenRefusal.{Refusal}
use Rattle.pool_create.specs.Words.{vdevs_in}
use Rattle.pool_create.specs.OpenRefusal.TheVariants.{NoMemory}
use Rattle.pool_slots.specs.Configs.{IsConfigured}
use Rattle.pool_slots.specs.Failures.{HasFailedOn}
use Rattle.pool_slots.specs.Marks.{IsUsedUp}
use Rattle.pool_slots.specs.Opens.{IsHighestShown, IsRead}
use Rattle.pool_slots.specs.Possible.{IsInReach, Possible}
use Rattle.pool_slots.specs.Slots.{InUse}
use Rattle.uberblock_ring.specs.declared.uberblock.Uberblock.{Uberblock}
use Rattle.pool_stops.specs.Reopening.{LeadToPools}
use Rattle.pool_stops.specs.Whole.{IsWholeTree}

-- ---- pools that are whole

-- Disks that may be opened, and lead to whole trees. Each disk in use shows in a label the configuration of whatever an open may come to.
pub record LeadToWholePools (disks : Disks) (shapes : List VdevShape) (out : List Bool) (p : Possible) (pools : Uberblock → PlainPool) : Type 0 where
  pub led : LeadToPools disks shapes out p pools
  pub whole : (u : Uberblock) → (reach : IsInReach p u) → IsWholeTree (led.tree u reach)
  pub configured : (u : Uberblock) → IsInReach p u → (which : ℕ) → InUse out which
      → IsConfigured (length (bytes_of disks.starts which)) (content disks which) u.config_digest

-- ---- opens that nothing hinders

-- all disks are there, and the vdevs take them in order
pub record AreAllThere (starts : List (List ℕ)) (shapes : List VdevShape) (out : List Bool) : Type 0 where
  pub none : (disk : ℕ) → is_out out disk ≡ false
  pub may : MayBeOpened starts shapes out

-- of no vdev more disks are out than it has parities, and the vdevs take all in order
pub record AreEnoughThere (starts : List (List ℕ)) (shapes : List VdevShape) (out : List Bool) : Type 0 where
  pub tolerable : is_tolerable (vdevs_in shapes) (is_out out) ≡ true
  pub may : MayBeOpened starts shapes out

-- groups and claims are left behind what the disks show
pub record HaveLeft (out : List Bool) (disks : Disks) : Type 0 where
  pub groups : (u : Uberblock) → IsRead out disks u → u.group < greatest
  pub claims : (u : Uberblock) → IsHighestShown out disks u → ¬ IsUsedUp out disks u

-- what the disks answered is true, and no call failed
pub record AnswerTruly (old new : Disks) : Type 0 where
  pub honest : IsHonestSince old new
  pub none_failed : (disk : ℕ) → ¬ HasFailedOn old new disk

-- nothing hinders the open
pub record IsUnhindered (old new : Disks) (out : List Bool) : Type 0 where
  pub left : HaveLeft out old
  pub truly : AnswerTruly old new

-- Such an open of disks that lead to whole pools, and of which enough are there, if it doesn't go back, is refused for want of memory alone.
abbrev pub FaultFreeOpensSucceed : Type 0
FaultFreeOpensSucceed =
    (guids : List ℕ) (old : Disks) (shapes : List VdevShape) (out : List Bool) (p : Possible) (pools : Uberblock → PlainPool) (refusal : Refusal)
    → LeadToWholePools old shapes out p pools → AreEnoughThere old.starts shapes out
    → (back : Disks) → IsNotOpenedOver guids old shapes out 0 back refusal → IsUnhindered old back out → refusal ≡ NoMemory
