-- Slots behind a flush.
use Rattle.std.proofs.Common.{◌∙◌, ℕ, List}
use Rattle.uberblock_ring.specs.declared.uberblock.Uberblock.{Uberblock}
use Rattle.model_disk.specs.Joint.{Disks, content}
use Rattle.model_disk.specs.Runs.{Makes, no_write}
use Rattle.pool_slots.specs.Writes.{SlotsStand}
use Rattle.pool_slots.proofs.Phases.{none_same}

-- ---- its writes

-- ---- its phases

pub slots_flushed : (wrote new : Disks) (starts : List (List ℕ)) (u : Uberblock) (picks : ℕ → ℕ → Type 0) (count : ℕ) → Makes no_write wrote new → SlotsStand (content wrote) starts u picks count
    → SlotsStand (content new) starts u picks count
slots_flushed wrote new starts u picks count flush stand which label below is picked i inside = none_same wrote new which _ flush ∙ stand which label below is picked i inside
