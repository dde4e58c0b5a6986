-- Runs that groups released.
use Rattle.std.specs.Prelude.{ℕ, suc, ◌≡◌, ◌+◌, ◌<◌, ◌≤◌, Bool, false, not, ◌&&◌, ◌||◌, Option, Some, None, if◌then◌else◌, List, [], ◌∷◌, filter, IsTrue}
use Rattle.space_map.specs.FreeRuns.{FreeRuns, IsSet}
use Rattle.space_map.specs.Sectors.{names, contains}
use Rattle.metaslab.specs.declared.settling.Release.{Release}

-- the group that released the sector
abbrev pub released_by : List Release → ℕ → Option ℕ
released_by [] s = None
released_by (r ∷ rs) s = if names r.run s then Some r.group else released_by rs s

-- one of the groups that pass released the sector
abbrev pub frees : (ℕ → Bool) → List Release → ℕ → Bool
frees passes [] s = false
frees passes (r ∷ rs) s = (passes r.group && names r.run s) || frees passes rs s

-- the runs lie in the metaslab, and no sector of theirs is free or released twice
abbrev pub AreHeldBack : ℕ → (ℕ → Bool) → List Release → Type 0
AreHeldBack sectors free [] = Unit {0}
AreHeldBack sectors free (r ∷ rs) = (0 < r.run.len) × (r.run.start + r.run.len ≤ sectors)
    × ((s : ℕ) → IsTrue (names r.run s) → (free s ≡ false) × (released_by rs s ≡ None)) × AreHeldBack sectors free rs

-- none of them lies in this free set
abbrev pub IsHeldBack : FreeRuns → List Release → Type 0
IsHeldBack free rs = AreHeldBack free.sectors (contains free.runs) rs

-- the runs stand in the order of their places, and none shares a sector with the next
abbrev pub AreInOrder : ℕ → List Release → Type 0
AreInOrder from [] = Unit {0}
AreInOrder from (r ∷ rs) = (from ≤ r.run.start) × AreInOrder (r.run.start + r.run.len) rs

-- a free set is another with what the groups that pass released
abbrev pub HasGained : (ℕ → Bool) → List Release → FreeRuns → FreeRuns → Type 0
HasGained passes rs old new = IsSet new old.sectors (λ s. contains old.runs s || frees passes rs s)

-- what the groups that do not pass released
abbrev pub kept : (ℕ → Bool) → List Release → List Release
kept passes rs = filter (λ release. not (passes release.group)) rs

-- how many extents the groups that pass released
abbrev pub count_of : (ℕ → Bool) → List Release → ℕ
count_of passes [] = 0
count_of passes (r ∷ rs) = if passes r.group then suc (count_of passes rs) else count_of passes rs
