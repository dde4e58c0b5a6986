-- A head in its chain, as it is looked up.
use Rattle.std.specs.Prelude.{ℕ, ◌≡◌, ◌≢◌, ◌<◌, ◌⊎◌, Option, Some, None}
use Rattle.dataset_chains.specs.States.{IsNumber}
use Rattle.dataset_chains.specs.DatasetChanges.{DatasetChanges}
use Rattle.dataset_destroys.specs.Steps.{FitsBefore, IsBefore, IsTheRecord}
use Rattle.dataset_destroys.specs.declared.head_places.HeadPlace.{HeadPlace}
use Rattle.meta_objset.specs.Record.{FitsRecord}
use Rattle.meta_objset.specs.declared.record.DatasetKind.TheVariants.{Volume}
use Rattle.meta_objset.specs.declared.record.DatasetRecord.{DatasetRecord}
use Rattle.objset.specs.Objects.{Object}

-- the records have spellings, and the numbers are those of objects
pub record FitsHead (place : HeadPlace) : Type 0 where
  pub number : IsNumber place.number
  pub gone : FitsRecord place.gone
  pub before : FitsBefore place.gone.previous place.before

-- what is before the head is its origin, and has clones
abbrev pub IsCloneOf : ℕ → Option DatasetRecord → Type 0
IsCloneOf head None = Unit {0}
IsCloneOf head (Some before) = (before.next ≢ head) × (0 < before.clones)

-- it is the head's own snapshot, or has no clones
abbrev pub IsBadBefore : ℕ → Option DatasetRecord → Type 0
IsBadBefore head None = ⊥
IsBadBefore head (Some before) = (before.next ≡ head) ⊎ (before.clones ≡ 0)

-- it is a head without snapshots of its own
pub record IsLoneHead (place : HeadPlace) : Type 0 where
  pub kind : place.gone.kind ≡ Volume
  pub clone : IsCloneOf place.number place.before

-- the records are these
pub record AreHeadPlaced (objects : ℕ → Option Object) (changes : DatasetChanges) (place : HeadPlace) : Type 0 where
  pub gone_is : IsTheRecord objects changes place.number place.gone
  pub before_is : IsBefore objects changes place.gone.previous place.before
