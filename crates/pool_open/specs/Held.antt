-- What may be read of a pool's disks, by whatever store they are opened with.
use Rattle.std.specs.Prelude.{◌≡◌, ◌⊎◌, Bool, Option, List, [], length, replicate}
use Rattle.disk_set.specs.declared.stale.GroupSpan.{GroupSpan}
use Rattle.model_disk.specs.Joint.{Disks}
use Rattle.block_store.specs.Blocks.{Contents}
use Rattle.block_store.specs.Places.{shapes_of}
use Rattle.block_store.specs.Steps.{FewLie}
use Rattle.block_store.specs.Store.{Store, Holds}
use Rattle.block_store.specs.declared.shape.VdevShape.{VdevShape}
use Rattle.pool_core.specs.Slots.{LabelsLieAside}
use Rattle.pool_slots.specs.Labels.{IsClaimWrite}
use Rattle.pool_slots.specs.Slots.{InUse, MakesOn}
use Rattle.raidz_io.specs.Reads.{IsHonestSince}
use Rattle.uberblock_ring.specs.Uberblock.{Fits}
use Rattle.uberblock_ring.specs.declared.uberblock.Uberblock.{Uberblock}

-- a store over these disks with these vdevs, whose marked disks are out from the start, and of which some missed these groups
pub record IsStoreOver (disks : Disks) (shapes : List VdevShape) (out : List Bool) (stale : List (Option GroupSpan)) (store : Store) : Type 0 where
  pub disks_are : store.disks ≡ disks
  pub shapes_are : shapes_of store.spaces ≡ shapes
  pub out_is : store.out ≡ out
  pub since : store.spans.since ≡ replicate (length disks.starts) 0
  pub stale_is : store.spans.stale ≡ stale

-- there is one, with its labels beside its blocks
pub record IsLaidOver (disks : Disks) (shapes : List VdevShape) (out : List Bool) : Type 0 where
  pub store : Store
  pub over : IsStoreOver disks shapes out [] store
  pub lie : LabelsLieAside disks.starts store.spaces

-- each such store may read these blocks
abbrev pub HoldOver : Disks → List VdevShape → List Bool → List (Option GroupSpan) → Contents → Type 0
HoldOver disks shapes out stale stored = (store : Store) → IsStoreOver disks shapes out stale store → Holds store stored

-- what one may read, each may
abbrev pub AlikeStoresHoldAlike : Type 0
AlikeStoresHoldAlike =
    (disks : Disks) (shapes : List VdevShape) (out : List Bool) (stale : List (Option GroupSpan)) (stored : Contents) (store : Store)
    → IsStoreOver disks shapes out stale store → Holds store stored → HoldOver disks shapes out stale stored

-- and may still read it of the disks once an uberblock was claimed on them, where no block lies on labels
abbrev pub ClaimsKeepWhatIsHeld : Type 0
ClaimsKeepWhatIsHeld =
    (shapes : List VdevShape) (out : List Bool) (stale : List (Option GroupSpan)) (u : Uberblock) (old new : Disks) (stored : Contents) (store : Store)
    → IsStoreOver old shapes out stale store → Holds store stored → LabelsLieAside old.starts store.spaces → length out ≡ length old.starts → Fits u
    → MakesOn (InUse out) (IsClaimWrite old.starts out u) old new → HoldOver new shapes out stale stored

-- ---- what reads gave

-- Of what was read since some disks may lie. By each such store they are few in each vdev with those that are lost, all others gave what stood there, and
-- of no block do other bytes that what was given could be have the digest.
abbrev pub FewLieOver : Disks → Disks → List VdevShape → List Bool → List (Option GroupSpan) → Type 0
FewLieOver old new shapes out stale = (store later : Store) → IsStoreOver old shapes out stale store → later.disks ≡ new → FewLie store later []

-- what was read since tells the blocks: it is true, or few disks lie
abbrev pub TellOver : Disks → Disks → List VdevShape → List Bool → List (Option GroupSpan) → Type 0
TellOver old new shapes out stale = IsHonestSince old new ⊎ FewLieOver old new shapes out stale
