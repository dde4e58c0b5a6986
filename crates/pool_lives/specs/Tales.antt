-- What a life tells: what is known of the pool from one place to the next.
use Rattle.std.specs.List.{AllByRecursion}
use Rattle.std.specs.Prelude.{ℕ, ◌≡◌, ◌⊎◌, true, false, List, [], ◌∷◌, ◌++◌}
use Rattle.model_disk.specs.Joint.{Disks}
use Rattle.uberblock_ring.specs.declared.uberblock.Uberblock.{Uberblock}
use Rattle.pool_core.specs.Exporting.{MayBeExported}
use Rattle.pool_model.specs.Headline.{Headline}
use Rattle.pool_model.specs.Machine.{Run}
use Rattle.pool_model.specs.Pools.{PlainPool}
use Rattle.pool_model.specs.View.{Given, Vdev, View, none_stale, opened_as}
use Rattle.pool_model.specs.declared.step.Reply.{Reply}
use Rattle.pool_model.specs.declared.step.Step.{Step}
use Rattle.pool_slots.specs.Commits.{last_or, only_last, IsNextGroup}
use Rattle.pool_slots.specs.Opens.{IsClaimOf}
use Rattle.pool_slots.specs.Possible.{Possible}
use Rattle.pool_stops.specs.Begun.{IsBegun}
use Rattle.pool_stops.specs.Reopening.{IsPossibleBehind}
use Rattle.pool_stops.specs.Running.{pool_of}
use Rattle.pool_lives.specs.Lives.{Exports, FindsNone, HandsBack, Happening, Opens, Runs, StopsOpening, StopsRunning}

-- A view is served, with the committed group's uberblock behind those; or disks are down that lead to one of the possible uberblocks, of
-- which each has its pool.
pub data Known : Type 0 where
  Serving : View → Uberblock → List Uberblock → Known
  Resting : Possible → (Uberblock → PlainPool) → Known

-- these were committed behind it, one next group after another
abbrev pub AreCommitted : Uberblock → List Uberblock → List Uberblock → Uberblock → List Uberblock → Type 0
AreCommitted last before [] later earlier = (later ≡ last) × (earlier ≡ before)
AreCommitted last before (u ∷ us) later earlier = IsNextGroup last u × AreCommitted u (last ∷ before) us later earlier

-- what was given to each step is trusted, so that each read gave its bytes
abbrev pub AreAllTrusted : List Given → Type 0
AreAllTrusted givens = AllByRecursion (λ (given : Given). given.trusted ≡ true) givens

-- The machine gave these replies to the steps, and came to this view with this uberblock as that of its committed group.
pub record TakesSteps (v : View) (last : Uberblock) (before : List Uberblock) (steps : List Step) (replies : List Reply) (w : View) (later : Uberblock)
    (earlier : List Uberblock) : Type 0 where
  pub givens : List Given
  pub trusted : AreAllTrusted givens
  pub run : Run v steps givens replies w
  pub headline : Headline v steps givens replies w
  pub commits : List Uberblock
  pub committed : AreCommitted last before commits later earlier
  pub group : w.committed ≡ later.group

-- It took some of the steps and was stopped, when the disks were these. The last committed uberblock is possible; or also that of the next group,
-- once a slot of it was begun to be written.
pub record StopsInSteps (v : View) (last : Uberblock) (before : List Uberblock) (steps : List Step) (at : Disks) (p : Possible)
    (pools : Uberblock → PlainPool) : Type 0 where
  pub taken : List Step
  pub rest : List Step
  pub whole : taken ++ rest ≡ steps
  pub w : View
  pub later : Uberblock
  pub earlier : List Uberblock
  pub replies : List Reply
  pub takes : TakesSteps v last before taken replies w later earlier
  pub which : (p ≡ only_last later earlier) ⊎ ((next : Uberblock) × IsNextGroup later next × IsBegun next at × (p ≡ last_or later earlier next))
  pub pools_are : pools ≡ pool_of w

-- what is claimed is a possible uberblock, or so many groups below one, and its pool is served, with no disk out
pub record OpensPossible (p : Possible) (pools : Uberblock → PlainPool) (rewind : ℕ) (claimed : Uberblock) (v : View) : Type 0 where
  pub claim : IsClaimOf p rewind claimed
  pub vdevs : List Vdev
  pub served : v ≡ opened_as vdevs (λ disk. false) none_stale claim.taken.group (pools claim.taken)

-- what is known of a place, and what happens there, tell what is known of the next one
abbrev pub Tells : Known → Happening → Known → Type 0
Tells (Serving v last before) (Runs steps replies) (Serving w later earlier) = TakesSteps v last before steps replies w later earlier
Tells (Serving v last before) (StopsRunning steps at) (Resting p pools) = StopsInSteps v last before steps at p pools
Tells (Serving v last before) HandsBack (Resting p pools) = (p ≡ only_last last before) × (pools ≡ pool_of v)
Tells (Serving v last before) Exports (Resting p pools) = MayBeExported v × (p ≡ only_last last before) × (pools ≡ pool_of v)
Tells (Resting p pools) (Opens rewind claimed) (Serving v last before) = OpensPossible p pools rewind claimed v × (last ≡ claimed) × (before ≡ [])
Tells (Resting p pools) (StopsOpening rewind) (Resting later others) = IsPossibleBehind p rewind later × (others ≡ pools)
Tells (Resting p pools) (FindsNone rewind) (Resting later others) = (later ≡ p) × (others ≡ pools)
Tells _ _ _ = ⊥

-- it goes on so, from what is known at first to what is known at last
abbrev pub IsTale : Known → List Happening → Known → Type 0
IsTale from [] to = from ≡ to
IsTale from (it ∷ its) to = (next : Known) × Tells from it next × IsTale next its to
