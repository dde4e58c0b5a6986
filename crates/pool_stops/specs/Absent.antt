-- Pools that are opened on some of their disks; the others are away.
use Rattle.std.specs.Prelude.{ℕ, ◌≡◌, Bool, true, Option, List, [], map, Contains}
use Rattle.model_disk.specs.declared.disk.Disk as disk
use Rattle.block_store.specs.Store.{is_out}
use Rattle.block_store.specs.declared.shape.VdevShape.{VdevShape}
use Rattle.uberblock_ring.specs.declared.uberblock.Uberblock.{Uberblock}
use Rattle.vdev_label.specs.Plain.{PlainVdev}
use Rattle.pool_create.specs.CoreState.{CoreState}
use Rattle.pool_create.specs.NotOpened.{NotOpened}
use Rattle.pool_create.specs.OpenRefusal.TheVariants.{NoMemory}
use Rattle.pool_create.specs.OpenStops.{fresh}
use Rattle.pool_create.specs.Opens.{IsOpened, OpenRefuses, refusal_of}
use Rattle.pool_create.specs.Trees.{IsOpenedFor}
use Rattle.pool_create.specs.Words.{vdevs_in}
use Rattle.pool_format.specs.declared.labeling.PoolIdentity.{PoolIdentity}
use Rattle.pool_model.specs.Pools.{PlainPool}
use Rattle.pool_model.specs.View.{is_tolerable}
use Rattle.pool_slots.specs.Possible.{Possible}
use Rattle.pool_stops.specs.Handed.{AllHold, AreSomeHandedIn, away_in}
use Rattle.pool_stops.specs.Own.{IsKnownAs}
use Rattle.pool_stops.specs.OwnReopening.{IsOpenedTruly, IsRefusedTruly, LeadToOwnPools}
use Rattle.pool_stops.specs.Unhindered.{HaveLeft}

module _ {D : Type 0} where
  -- Some disks of a pool, which hold these bytes with nothing unflushed, are handed in, in this order.
  pub record AreSomeReturned (g : disk.Ghosts D) (images : List (List ℕ)) (disks : List D) (order : List (Option ℕ)) : Type 0 where
    pub handed : List (List ℕ)
    pub handed_in : AreSomeHandedIn images handed order
    pub hold : AllHold g handed disks

  -- An open of them that doesn't go back is refused for want of memory alone, where no vdev lacks more disks than it has parities; and one that is done gives a
  -- core of the pool of a possible group, or of one so many groups less, with the others out, and is known by the pool's name and guid.
  pub record OpenWithout (g : disk.Ghosts D) (pool : PoolIdentity) (images : List (List ℕ)) (shapes : List VdevShape) (p : Possible)
      (pools : Uberblock → PlainPool) (order : List (Option ℕ)) : Type 0 where
    pub refused : (disks : List D) (failed : NotOpened D) → AreSomeReturned g images disks order → is_tolerable (vdevs_in shapes) (is_out (away_in order)) ≡ true
        → HaveLeft (away_in order) (fresh images) → (why : OpenRefuses g disks 0 failed) → IsRefusedTruly g disks 0 failed why → refusal_of failed ≡ NoMemory
    pub done : (disks : List D) (rewind : ℕ) (claimed : Uberblock) (core : CoreState) → AreSomeReturned g images disks order
        → (is : IsOpened g disks rewind claimed core) → IsOpenedTruly is
        → IsOpenedFor p pools shapes (away_in order) rewind claimed core × IsKnownAs pool is.ordered.found.layout.identity

  -- So it is whatever disks of such a pool are handed in, and in whatever order.
  abbrev pub OwnPoolsOpenWithout : disk.Ghosts D → Type 0
  OwnPoolsOpenWithout g =
      (pool : PoolIdentity) (vdevs : List PlainVdev) (digest : List ℕ) (images : List (List ℕ)) (shapes : List VdevShape) (out : List Bool) (p : Possible)
      (pools : Uberblock → PlainPool) → LeadToOwnPools pool vdevs digest images shapes out p pools → (order : List (Option ℕ))
      → OpenWithout g pool images shapes p pools order

  -- Disks that weren't called yet may be handed in so, with the bytes that they hold.
  abbrev pub SomeUncalledDisksAreReturned : disk.Ghosts D → Type 0
  SomeUncalledDisksAreReturned g =
      (images : List (List ℕ)) (disks : List D) (order : List (Option ℕ)) → AreSomeHandedIn images (map g.start disks) order
      → ((d : D) → Contains disks d → g.calls d ≡ []) → AreSomeReturned g images disks order
