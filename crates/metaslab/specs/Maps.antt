-- What the space maps of a vdev's metaslabs leave unused.
use Rattle.std.specs.Prelude.{ℕ, ◌≡◌, Some, List, slice_get, slice_set}
use Rattle.space_map.specs.FreeRuns.{FreeRuns}
use Rattle.metaslab.specs.Calls.{IsOf}
use Rattle.metaslab.specs.Unused.{IsUnusedOf}
use Rattle.metaslab.specs.Spaces.{Spaces, GroupSpaces, IsWhollyFree}

-- there are so many sectors, and all are free, without the plan and with it
abbrev pub AreWhollyFreeOf : ℕ → Spaces → Type 0
AreWhollyFreeOf sectors spaces = IsWhollyFree spaces.kept sectors × IsWhollyFree spaces.planned sectors

-- without the plan and with it, the free sectors are those of a free set, and all others are in use: so these are what is unused.
-- What is pinned stays.
pub record AreLoaded (old : Spaces) (free : FreeRuns) (new : Spaces) : Type 0 where
  pub kept : IsOf new.kept free
  pub unused : IsUnusedOf free new.kept
  pub planned : new.planned ≡ new.kept
  pub pins : new.kept.pins ≡ old.kept.pins

-- ---- of a vdev's metaslabs

-- the metaslab of that number is there, and this holds of its two spaces
pub record HoldsAt (are : Spaces → Type 0) (group : GroupSpaces) (metaslab : ℕ) : Type 0 where
  pub spaces : Spaces
  pub found_kept : slice_get group.kept metaslab ≡ Some spaces.kept
  pub found_planned : slice_get group.planned metaslab ≡ Some spaces.planned
  pub holds : are spaces

-- a free set was taken in as what the metaslab of that number has, and all else is as it was
pub record LoadsAt (old : GroupSpaces) (metaslab : ℕ) (free : FreeRuns) (new : GroupSpaces) : Type 0 where
  pub spaces : Spaces
  pub later : Spaces
  pub found_kept : slice_get old.kept metaslab ≡ Some spaces.kept
  pub found_planned : slice_get old.planned metaslab ≡ Some spaces.planned
  pub loaded : AreLoaded spaces free later
  pub rest : new ≡ record { kept = slice_set old.kept metaslab later.kept; planned = slice_set old.planned metaslab later.planned; pins = old.pins }
