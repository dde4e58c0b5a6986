-- What the calls of a metaslab do, by the states of its sectors.
use Rattle.std.specs.Prelude.{ℕ, ◌≡◌, ◌+◌, ◌*◌, ◌<◌, ◌≤◌, ◌==◌, not, if◌then◌else◌, List, [], ◌∷◌, ◌++◌, filter, IsTrue}
use Rattle.space_map.specs.declared.entry.Run.{Run}
use Rattle.space_map.specs.FreeRuns.{FreeRuns}
use Rattle.space_map.specs.Sectors.{names, contains}
use Rattle.metaslab.specs.Space.{Space, state, sectors_of}
use Rattle.metaslab.specs.Released.{count_of}
use Rattle.metaslab.specs.State.{State, Free, InUse, is_in_use, is_due, settled}

-- the run lies in the metaslab, and all its sectors are used for this
pub record IsRunOf (space : Space) (run : Run) (is : State) : Type 0 where
  pub within : run.start + run.len ≤ sectors_of space
  pub each : (s : ℕ) → IsTrue (names run s) → state space s ≡ is

-- the sectors of a run are used for this from now on, and all else is as it was
pub record Changes (old new : Space) (run : Run) (to : State) : Type 0 where
  pub states : (s : ℕ) → state new s ≡ (if names run s then to else state old s)
  pub sectors : sectors_of new ≡ sectors_of old
  pub pins : new.pins ≡ old.pins

-- so many sectors in a row are free
abbrev pub HasFreeRun : Space → ℕ → Type 0
HasFreeRun space sectors = (start : ℕ) × ((s : ℕ) → start ≤ s → s < start + sectors → state space s ≡ Free)

-- what is due to a group while these are pinned is free from now on, and all else is as it was
pub record SettlesUnder (under : List ℕ) (old new : Space) (group : ℕ) : Type 0 where
  pub states : (s : ℕ) → state new s ≡ settled under group (state old s)
  pub sectors : sectors_of new ≡ sectors_of old
  pub pins : new.pins ≡ old.pins

-- the count of calls on the free runs rose by so many at most for each extent that became free
abbrev pub IsSettledWithin : ℕ → List ℕ → Space → Space → ℕ → Type 0
IsSettledWithin most under old new group = new.ticks ≤ old.ticks + most * count_of (is_due under group) old.released

-- the same under the metaslab's own pins
abbrev pub Settles : Space → Space → ℕ → Type 0
Settles old new group = SettlesUnder old.pins old new group

-- the free sectors are those of the free set, and all others are in use
pub record IsOf (space : Space) (free : FreeRuns) : Type 0 where
  pub states : (s : ℕ) → state space s ≡ (if contains free.runs s then Free else InUse)
  pub sectors : sectors_of space ≡ free.sectors

-- the set has the sectors of the metaslab that are not in use
pub record AreUnused (space : Space) (set : FreeRuns) : Type 0 where
  pub sectors : set.sectors ≡ sectors_of space
  pub each : (s : ℕ) → s < sectors_of space → contains set.runs s ≡ not (is_in_use (state space s))

-- a group more is pinned
abbrev pub pinned : Space → ℕ → Space
pinned space group = record space { pins = space.pins ++ group ∷ [] }

-- a group is not pinned any more
abbrev pub unpinned : Space → ℕ → Space
unpinned space group = record space { pins = filter (λ pin. not (pin == group)) space.pins }
