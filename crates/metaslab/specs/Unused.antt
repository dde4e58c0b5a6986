-- What a metaslab's space map leaves free.
use Rattle.std.specs.Prelude.{ℕ, ◌≡◌, ◌<◌, Bool, ◌&&◌, not, nat_lt}
use Rattle.space_map.specs.FreeRuns.{FreeRuns, IsSet}
use Rattle.metaslab.specs.Space.{Space, state, sectors_of}
use Rattle.metaslab.specs.State.{Free, is_in_use}

-- the sector is there and isn't in use: it is free, or was released and isn't free yet
abbrev pub is_unused : Space → ℕ → Bool
is_unused space s = nat_lt s (sectors_of space) && not (is_in_use (state space s))

-- the set has just these sectors
abbrev pub IsUnusedOf : FreeRuns → Space → Type 0
IsUnusedOf set space = IsSet set (sectors_of space) (is_unused space)

-- all its sectors are free
abbrev pub IsAllFree : Space → Type 0
IsAllFree space = (s : ℕ) → s < sectors_of space → state space s ≡ Free
