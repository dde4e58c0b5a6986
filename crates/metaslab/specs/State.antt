-- What a sector of a metaslab is used for.
use Rattle.std.specs.Prelude.{ℕ, ◌+◌, Bool, true, false, ◌&&◌, nat_le, if◌then◌else◌, List}
use Rattle.std.specs.List.{list_all}

-- no block is there, one is, or one was that a group and those after it no longer reach, and those before it may
pub data State : Type 0 where
  Free : State
  InUse : State
  Released : ℕ → State

-- what was released with a group may be handed out to another: that one comes three groups later, and no group before
-- the releasing one is pinned
abbrev pub is_due : List ℕ → ℕ → ℕ → Bool
is_due pins group releasing = nat_le (releasing + 3) group && list_all (λ pin. nat_le releasing pin) pins

-- what a sector is for as a group is planned
abbrev pub settled : List ℕ → ℕ → State → State
settled pins group Free = Free
settled pins group InUse = InUse
settled pins group (Released releasing) = if is_due pins group releasing then Free else Released releasing

-- whether the sector is in use: not where it is free or released
abbrev pub is_in_use : State → Bool
is_in_use Free = false
is_in_use InUse = true
is_in_use (Released group) = false
