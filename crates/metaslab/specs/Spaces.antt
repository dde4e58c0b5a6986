-- The spaces of a vdev's metaslabs, and how a call leaves them.
use Rattle.std.specs.Prelude.{ℕ, ◌≡◌, ◌⊎◌, ◌<◌, ◌==◌, not, Some, IsSomeAnd, List, length, slice_get, slice_set, filter, All}
use Rattle.space_map.specs.declared.entry.Run.{Run}
use Rattle.metaslab.specs.Space.{Space, state, sectors_of}
use Rattle.metaslab.specs.State.{State, Free, InUse}
use Rattle.metaslab.specs.Calls.{IsRunOf, Changes, HasFreeRun, SettlesUnder}

-- a metaslab as the last committed group left it, and as the plan of the next one has it
pub record Spaces : Type 0 where
  pub kept : Space
  pub planned : Space

-- the same of the metaslabs of a vdev, in their order, and the groups that are pinned
pub record GroupSpaces : Type 0 where
  pub kept : List Space
  pub planned : List Space
  pub pins : List ℕ

-- so many sectors, and all are free
pub record IsWhollyFree (space : Space) (sectors : ℕ) : Type 0 where
  pub size : sectors_of space ≡ sectors
  pub free : (s : ℕ) → s < sectors → state space s ≡ Free

-- each of the metaslabs has so many sectors, and all are free
abbrev pub AreWhollyFree : List Space → ℕ → Type 0
AreWhollyFree spaces sectors = All (λ space. IsWhollyFree space sectors) spaces

-- so many sectors in a row are free in this metaslab
abbrev pub HasFreeRunIn : List Space → ℕ → ℕ → Type 0
HasFreeRunIn spaces metaslab sectors = IsSomeAnd (slice_get spaces metaslab) (λ space. HasFreeRun space sectors)

-- all sectors of a run of this metaslab are free
abbrev pub IsFreeIn : List Space → ℕ → Run → Type 0
IsFreeIn spaces metaslab run = IsSomeAnd (slice_get spaces metaslab) (λ space. IsRunOf space run Free)

-- all sectors of a run of this metaslab are in use
abbrev pub IsInUseIn : List Space → ℕ → Run → Type 0
IsInUseIn spaces metaslab run = IsSomeAnd (slice_get spaces metaslab) (λ space. IsRunOf space run InUse)

-- the sectors of a run of this metaslab go from one use to another, and all else is as it was
pub record ChangesIn (old new : List Space) (metaslab : ℕ) (run : Run) (from to : State) : Type 0 where
  pub space : Space
  pub later : Space
  pub found : slice_get old metaslab ≡ Some space
  pub was : IsRunOf space run from
  pub changes : Changes space later run to
  pub rest : new ≡ slice_set old metaslab later

-- each space became another of the same place, and this holds of the two
pub record BecameEach (became : Space → Space → Type 0) (old new : List Space) : Type 0 where
  pub count : length new ≡ length old
  pub each : (m : ℕ) (space later : Space) → slice_get old m ≡ Some space → slice_get new m ≡ Some later → became space later

-- what is due to a group, while these are pinned, is free in every metaslab
abbrev pub AreSettled : List ℕ → ℕ → List Space → List Space → Type 0
AreSettled under group old new = BecameEach (λ space later. SettlesUnder under space later group) old new

-- it is in some, and the others are as they were
abbrev pub AreSettledInPart : List ℕ → ℕ → List Space → List Space → Type 0
AreSettledInPart under group old new = BecameEach (λ space later. (later ≡ space) ⊎ SettlesUnder under space later group) old new

-- the pinned groups without one
abbrev pub without : List ℕ → ℕ → List ℕ
without pins group = filter (λ pin. not (pin == group)) pins
