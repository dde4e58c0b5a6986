-- Which disks have every block again.
use Rattle.std.specs.Prelude.{ℕ, ◌≡◌, ◌≢◌, ◌<◌, ◌↔◌, Bool, true, false, Some, List, length, slice_get, Contains}
use Rattle.block_store.specs.Store.{is_out}
use Rattle.scrub_resilver.specs.declared.fault.Finding.{Finding}

-- nothing was found of the disk
abbrev pub IsClean : List Finding → ℕ → Type 0
IsClean left disk = (at : ℕ) (one : Finding) → slice_get left at ≡ Some one → one.disk ≢ disk

-- just those disks are marked that are there, of which nothing is left, and whose flush didn't fail
pub record AreWhole (out : List Bool) (left : List Finding) (unflushed : List ℕ) (whole : List Bool) : Type 0 where
  pub count : length whole ≡ length out
  pub marked : (disk : ℕ) → disk < length out → (is_out whole disk ≡ true)
      ↔ ((is_out out disk ≡ false) × IsClean left disk × (¬ Contains unflushed disk))
