-- A pool's own disks, handed in in any order, are found.
use Rattle.std.specs.Prelude.{ℕ, ◌≡◌, Bool, List, length, map, Some}
use Rattle.model_disk.specs.Joint.{Disks, bytes_of, content}
use Rattle.model_disk.specs.declared.disk.Disk as disk
use Rattle.block_store.specs.Opened.{MayBeOpened}
use Rattle.block_store.specs.declared.shape.VdevShape.{VdevShape}
use Rattle.pool_labels.specs.declared.refusal.Refusal.{Refusal}
use Rattle.pool_labels.specs.declared.refusal.Refusal.TheVariants.{NoMemory}
use Rattle.pool_members.specs.declared.arranging.Child.{Child}
use Rattle.pool_create.specs.OpenFinding.{IsLayoutOf, LayoutRefuses}
use Rattle.pool_create.specs.Opens.{AreInOrder}
use Rattle.pool_create.specs.OpenStops.{fresh}
use Rattle.pool_slots.specs.Configs.{IsConfigured}
use Rattle.pool_slots.specs.Opens.{IsHighestShown, IsShownOn}
use Rattle.pool_slots.specs.Slots.{InUse}
use Rattle.uberblock_ring.specs.declared.uberblock.Uberblock.{Uberblock}
use Rattle.vdev_label.specs.Config.{guid_sum}
use Rattle.vdev_label.specs.Plain.{PlainVdev, config_view}
use Rattle.pool_format.specs.declared.labeling.PoolIdentity.{PoolIdentity}
use Rattle.pool_stops.specs.Unhindered.{AnswerTruly, HaveLeft}
use Rattle.pool_stops.specs.Handed.{AreHandedIn, AreHolding}
use Rattle.pool_stops.specs.Own.{AreDisksOf, IsKnownAs}

-- Each disk shows an uberblock, and of the highest of all it has the configuration in a label. The highest has the sum of the guids, and groups and
-- claims are left behind it.
pub record ShowHighest (vdevs : List PlainVdev) (out : List Bool) (disks : Disks) : Type 0 where
  pub each : (which : ℕ) → InUse out which → (u : Uberblock) × IsShownOn (length (bytes_of disks.starts which)) (content disks which) u
  pub configured : (u : Uberblock) → IsHighestShown out disks u → (which : ℕ) → InUse out which
      → IsConfigured (length (bytes_of disks.starts which)) (content disks which) u.config_digest
  pub sum : (u : Uberblock) → IsHighestShown out disks u → u.guid_sum ≡ guid_sum vdevs
  pub left : HaveLeft out disks

-- the children are the pool's disks in order, each at its place among those that were handed in
abbrev pub AreChildren : List ℕ → List Child → Type 0
AreChildren order children = map (λ child. child.disk) children ≡ map Some order

-- ---- laws

-- The finding of a pool on its own disks, in whatever order, is refused for want of memory alone.
abbrev pub OwnDisksAreFound : Type 0
OwnDisksAreFound =
    (pool : PoolIdentity) (vdevs : List PlainVdev) (shapes : List VdevShape) (out : List Bool) (images handed : List (List ℕ)) (order : List ℕ) (old new : Disks)
    (refusal : Refusal) → AreDisksOf pool vdevs shapes out (fresh images) → ShowHighest vdevs out (fresh images) → AreHandedIn images handed order
    → AreHolding handed old → AnswerTruly old new → LayoutRefuses old new 0 refusal → refusal ≡ NoMemory

-- Where one is found, they are its children in order, its vdevs take them so, and it has the configuration, the name and the guid.
abbrev pub OwnDisksAreOrdered : Type 0
OwnDisksAreOrdered =
    (pool : PoolIdentity) (vdevs : List PlainVdev) (shapes : List VdevShape) (out : List Bool) (images handed : List (List ℕ)) (order : List ℕ) (old new : Disks)
    (rewind : ℕ) (layout : _) → AreDisksOf pool vdevs shapes out (fresh images) → AreHandedIn images handed order → AreHolding handed old
    → AnswerTruly old new → IsLayoutOf old new rewind layout → AreChildren order layout.children.items × (layout.shapes.items ≡ shapes) × (config_view layout.config.value ≡ vdevs)
    × IsKnownAs pool layout.identity

-- Whatever the disks, where a pool is found on them its vdevs take them in order, and they have room for it: a store may be opened over them.
abbrev pub FoundDisksMayBeOpened : {D : Type 0} → disk.Ghosts D → Type 0
FoundDisksMayBeOpened {D} g =
    (disks : List D) (rewind : ℕ) (array : Disks) (shapes : List VdevShape) (out : List Bool) → AreInOrder g disks rewind array shapes out
    → MayBeOpened array.starts shapes out
