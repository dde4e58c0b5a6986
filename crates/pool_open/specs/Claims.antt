-- What a claim leaves as it is.
use Rattle.std.specs.Prelude.{ℕ, ◌≡◌, Bool, List, length}
use Rattle.model_disk.specs.Joint.{Disks, content}
use Rattle.block_store.specs.Elsewhere.{IsForBlocks}
use Rattle.block_store.specs.Spaces.{VdevSpace}
use Rattle.pool_core.specs.Slots.{LabelsLieAside}
use Rattle.pool_slots.specs.Labels.{IsClaimWrite}
use Rattle.pool_slots.specs.Slots.{InUse, MakesOn}
use Rattle.uberblock_ring.specs.Uberblock.{Fits}
use Rattle.uberblock_ring.specs.declared.uberblock.Uberblock.{Uberblock}

-- a claim of an uberblock keeps each byte that is for blocks, where no block lies on labels
abbrev pub ClaimsSpareBlocks : Type 0
ClaimsSpareBlocks =
    (spaces : List VdevSpace) (out : List Bool) (u : Uberblock) (old new : Disks) → LabelsLieAside old.starts spaces → length out ≡ length old.starts
    → Fits u → MakesOn (InUse out) (IsClaimWrite old.starts out u) old new
    → (disk i : ℕ) → IsForBlocks spaces disk i → content new disk i ≡ content old disk i
