-- The runs of allocated sectors.
use Rattle.std.specs.Prelude.{ℕ, ◌+◌, ◌-◌, List, [], ◌∷◌, ◌++◌}
use Rattle.space_map.specs.declared.entry.Run.{Run}
use Rattle.space_map.specs.FreeRuns.{FreeRuns}
use Rattle.space_map.specs.Pieces.{not_empty}

-- the run from one sector up to another, if it has sectors
abbrev pub gap : ℕ → ℕ → List Run
gap from to = not_empty (record { start = from; len = to - from })

-- the runs between the free ones, from one sector up to another, that have sectors
abbrev pub gaps_between : ℕ → ℕ → List Run → List Run
gaps_between from to [] = gap from to
gaps_between from to (r ∷ rs) = gap from r.start ++ gaps_between (r.start + r.len) to rs

-- the runs of allocated sectors: from the metaslab's start or the end of a free run up to the next free run or the metaslab's end
abbrev pub gaps_of : FreeRuns → List Run
gaps_of f = gaps_between 0 f.sectors f.runs
