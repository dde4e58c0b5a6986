-- Pools that are made and opened, and run from then on.
use Rattle.std.specs.Prelude.{ℕ, ◌≡◌, ◌≤◌, ◌<◌, ◌^◌, Bool, false, List, [], length}
use Rattle.model_disk.specs.Joint.{Disks}
use Rattle.model_disk.specs.declared.disk.Disk as disk
use Rattle.raidz_io.specs.Reads.{IsHonestSince}
use Rattle.block_store.specs.Opened.{MayBeOpened}
use Rattle.block_store.specs.Store.{is_out}
use Rattle.block_store.specs.declared.shape.VdevShape.{VdevShape}
use Rattle.uberblock_ring.specs.declared.uberblock.Uberblock.{Uberblock}
use Rattle.pool_create.specs.CoreState.{CoreState, disks_of}
use Rattle.pool_create.specs.Planning.{nobody}
use Rattle.pool_model.specs.Pools.{PlainPool}
use Rattle.pool_model.specs.View.{View}
use Rattle.pool_create.specs.Opens.{OpenRefuses, refusal_of}
use Rattle.pool_create.specs.NotOpened.{NotOpened}
use Rattle.pool_create.specs.NotOpened.TheVariants.{NotFound, Refused}
use Rattle.pool_create.specs.Retried.{IsNotOpenedAtLast}
use Rattle.pool_create.specs.OpenStops.{fresh}
use Rattle.pool_create.specs.Trees.{NamesConfigOf}
use Rattle.pool_create.specs.OpenRefusal.{Refusal}
use Rattle.pool_create.specs.OpenRefusal.TheVariants.{NoMemory}
use Rattle.pool_slots.specs.Opens.{AreKnown}
use Rattle.pool_slots.specs.Possible.{Possible}
use Rattle.pool_format.specs.declared.labeling.PoolIdentity.{PoolIdentity}
use Rattle.pool_stops.specs.OneConfig.{IsRunningAs}
use Rattle.pool_stops.specs.Reopening.{IsOpenedWell, LeadToPools}
use Rattle.pool_stops.specs.Unhindered.{AreEnoughThere, HaveLeft, IsUnhindered, LeadToWholePools}
use Rattle.pool_stops.specs.OwnReopening.{AreReturned, IsRefusedTruly, LeadToOwnPools}
use Rattle.vdev_label.specs.Plain.{PlainVdev}

-- the answers were true, and there are some disks and not too many
pub record AreSound (old new : Disks) : Type 0 where
  pub some : 0 < length old.starts
  pub few : length old.starts ≤ 2 ^ 64
  pub honest : IsHonestSince old new

-- a pool that was just made runs behind its first uberblock, with one configuration
abbrev pub RunsAtFirst : Disks → Uberblock → CoreState → Type 0
RunsAtFirst old u core = AreKnown (nobody old.starts) old → AreSound old (disks_of core) → (v : View) × IsRunningAs u.config_digest core v u []

-- one that was opened with all its disks, and keeps the configuration that the claimed uberblock names, has the pool of an uberblock that they led to,
-- and runs on
abbrev pub OpensWell : Disks → List VdevShape → List Bool → Uberblock → CoreState → Type 0
OpensWell old shapes out claimed core =
    (p : Possible) (pools : Uberblock → PlainPool) → LeadToPools old shapes out p pools → core.commit.store.out ≡ out
    → ((disk : ℕ) → is_out out disk ≡ false) → NamesConfigOf claimed core → AreSound old (disks_of core) → IsOpenedWell p pools shapes out 0 claimed core

-- one that was not, and that nothing hindered, lacked memory, if its disks led to whole pools
abbrev pub IsRefusedWell : List ℕ → Disks → List VdevShape → List Bool → Disks → Refusal → Type 0
IsRefusedWell guids old shapes out back refusal =
    IsNotOpenedAtLast guids old shapes out 0 back refusal × ((p : Possible) (pools : Uberblock → PlainPool) → LeadToWholePools old shapes out p pools
    → AreEnoughThere old.starts shapes out → IsUnhindered old back out → refusal ≡ NoMemory)

-- where a pool was found on the disks, a store may be opened over them
abbrev pub FitsFound : {D : Type 0} (g : disk.Ghosts D) (disks : List D) (failed : NotOpened D) → OpenRefuses g disks 0 failed → Type 0
FitsFound g disks (NotFound refusal back) none = Unit {0}
FitsFound g disks (Refused refusal back) it = MayBeOpened it.array.starts it.shapes it.out

-- so it is of one that was to be opened on disks in any order, if they were a pool's own and led to whole pools
pub record IsRefusedAgain {D : Type 0} (g : disk.Ghosts D) (disks : List D) (failed : NotOpened D) : Type 0 where
  pub why : OpenRefuses g disks 0 failed
  pub fits : FitsFound g disks failed why
  pub memory : (pool : PoolIdentity) (vdevs : List PlainVdev) (digest : List ℕ) (images : List (List ℕ)) (shapes : List VdevShape) (out : List Bool) (p : Possible)
      (pools : Uberblock → PlainPool) (order : List ℕ) → LeadToOwnPools pool vdevs digest images shapes out p pools → AreReturned g images disks order
      → HaveLeft out (fresh images) → IsRefusedTruly g disks 0 failed why → refusal_of failed ≡ NoMemory
