-- A metaslab as a value: what each of its sectors is used for, and which groups are pinned.
use Rattle.std.specs.Prelude.{ℕ, Bool, true, false, Option, Some, None, List}
use Rattle.space_map.specs.FreeRuns.{FreeRuns}
use Rattle.space_map.specs.Sectors.{contains}
use Rattle.metaslab.specs.declared.settling.Release.{Release}
use Rattle.metaslab.specs.Released.{released_by}
use Rattle.metaslab.specs.State.{State, Free, InUse, Released}

-- the free runs of a metaslab, the runs that groups released, the pinned groups, and a count of calls
pub record Space : Type 0 where
  pub free : FreeRuns
  pub released : List Release
  pub pins : List ℕ  -- the groups that are pinned
  pub ticks : ℕ  -- how many calls on the free runs led to this

-- what a sector is used for, by whether it is in a free run and which group released it, if any
abbrev pub state_of : Bool → Option ℕ → State
state_of true releasing = Free
state_of false None = InUse
state_of false (Some group) = Released group

-- what a sector is used for
abbrev pub state : Space → ℕ → State
state space s = state_of (contains space.free.runs s) (released_by space.released s)

-- how many sectors there are
abbrev pub sectors_of : Space → ℕ
sectors_of space = space.free.sectors
