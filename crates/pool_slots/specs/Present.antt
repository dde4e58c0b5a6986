-- Opens that go on without a disk of which a read failed.
use Rattle.std.specs.Prelude.{ℕ, Bool, List}
use Rattle.model_disk.specs.Joint.{Disks}
use Rattle.uberblock_ring.specs.declared.uberblock.Uberblock.{Uberblock}
use Rattle.pool_slots.specs.Failures.{HasFailedOn}
use Rattle.pool_slots.specs.Labels.{IsClaimWrite}
use Rattle.pool_slots.specs.Reads.{OnlyReads, is_fault}
use Rattle.pool_slots.specs.Slots.{InUse, MakesOn, StayOut}
use Rattle.pool_slots.specs.declared.refusal.Refusal.{Refusal}

-- the disk of this number is not in use
abbrev pub is_out : List Bool → ℕ → Type 0
is_out out which = ¬ InUse out which

-- a call failed on each disk that went out
abbrev pub HaveFailed : List Bool → List Bool → Disks → Disks → Type 0
HaveFailed out later old new = (which : ℕ) → InUse out which → is_out later which → HasFailedOn old new which

-- Since the old moment disks that were in use then were read, and nothing else was called. Those of which a read failed are out now, and no
-- others went out; what was out stays out.
pub record GoOut (out later : List Bool) (old new : Disks) : Type 0 where
  pub stay : StayOut out later
  pub only : OnlyReads (InUse out) (is_out later) old new
  pub failed : HaveFailed out later old new

-- it names no disk
abbrev pub IsNoFault : Refusal → Type 0
IsNoFault refusal = (disk : ℕ) → ¬ is_fault refusal disk

-- the disk failed in the claim, once the reads were done
pub record FailsInClaim (out later : List Bool) (old new : Disks) (disk : ℕ) : Type 0 where
  pub read : Disks
  pub absent : GoOut out later old read
  pub u : Uberblock
  pub makes : MakesOn (InUse later) (IsClaimWrite read.starts later u) read new
  pub failed : HasFailedOn read new disk
