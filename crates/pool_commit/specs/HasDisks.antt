-- Disks that are there.
use Rattle.std.specs.Prelude.{ℕ, ◌≡◌, ◌<◌, ◌^◌, List, length, Contains, Option, Some}
use Rattle.block_pointer.specs.Copies.{dvas}
use Rattle.block_pointer.specs.Dva.{FitsDva}
use Rattle.block_pointer.specs.Property.{FitsProperty}
use Rattle.block_pointer.specs.declared.dva.Dva.{Dva}
use Rattle.uberblock_ring.specs.Uberblock.{IsNumber, IsRoot}
use Rattle.uberblock_ring.specs.declared.uberblock.Uberblock.{Uberblock}
use Rattle.disk_set.specs.declared.behind.Behind.{Behind}
use Rattle.pool_commit.specs.declared.kept.Planned.{Planned}
use Rattle.disk_set.specs.declared.behind.SlotWrite.{SlotWrite}

-- all of these are among so many
abbrev pub AreBelow : ℕ → List ℕ → Type 0
AreBelow count disks = (disk : ℕ) → Contains disks disk → disk < count

-- the same of the disks of slots that are to be written, each in one of four labels
abbrev pub AreSlotsBelow : ℕ → List SlotWrite → Type 0
AreSlotsBelow count slots = (write : SlotWrite) → Contains slots write → (write.disk < count) × (write.label < 4)

-- the same of all that is due behind block writes
pub record AreDueOn (count : ℕ) (behind : Behind) : Type 0 where
  pub flushes : AreBelow count behind.flushes.items
  pub slots : AreSlotsBelow count behind.slots.items
  pub slot_flushes : AreBelow count behind.slot_flushes.items

-- an uberblock has a spelling, as each part of it has
pub record HasSpelling (u : Uberblock) : Type 0 where
  pub group : IsNumber u.group
  pub claim : IsNumber u.claim
  pub guid_sum : u.guid_sum < 2 ^ 64
  pub timestamp : u.timestamp < 2 ^ 64
  pub root : IsRoot u.group u.root
  pub copies : (place : Dva) → Contains (dvas u.root.copies) place → FitsDva place
  pub property : FitsProperty u.root.property
  pub birth : u.root.birth < 2 ^ 64
  pub filled : 0 < u.root.fill
  pub fill : u.root.fill < 2 ^ 64
  pub fill_of_data : u.root.property.level ≡ 0 → u.root.fill ≡ 1
  pub checksum : length u.root.checksum ≡ 32
  pub config_digest : length u.config_digest ≡ 32

-- and of all of a plan, whose uberblock has a spelling
pub record IsPlannedOn (count : ℕ) (plan : Planned) : Type 0 where
  pub behind : AreDueOn count plan.behind
  pub fits : HasSpelling plan.uberblock

-- the disks of a plan are among so many
abbrev pub HasDisks : ℕ → Option Planned → Type 0
HasDisks count planned = (plan : Planned) → planned ≡ Some plan → IsPlannedOn count plan
