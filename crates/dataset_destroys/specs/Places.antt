-- A snapshot in its chain, as it is looked up.
use Rattle.std.specs.Prelude.{ℕ, ◌≡◌, ◌≢◌, Option}
use Rattle.dataset_chains.specs.States.{IsNumber}
use Rattle.dataset_chains.specs.DatasetChanges.{DatasetChanges}
use Rattle.dataset_destroys.specs.Steps.{FitsBefore, IsBefore, IsTheRecord}
use Rattle.dataset_destroys.specs.declared.places.Place.{Place}
use Rattle.meta_objset.specs.Record.{FitsRecord}
use Rattle.meta_objset.specs.declared.record.DatasetKind.TheVariants.{Snapshot}
use Rattle.meta_objset.specs.declared.record.DatasetRecord.{DatasetRecord}
use Rattle.objset.specs.Objects.{Object}

-- the records have spellings, and the numbers are those of objects
pub record FitsPlace (place : Place) : Type 0 where
  pub number : IsNumber place.number
  pub next : IsNumber place.gone.next
  pub gone : FitsRecord place.gone
  pub after : FitsRecord place.after
  pub before : FitsBefore place.gone.previous place.before

-- it is a snapshot without clones, which what comes after it names as the one before
pub record IsLone (place : Place) : Type 0 where
  pub kind : place.gone.kind ≡ Snapshot
  pub clones : place.gone.clones ≡ 0
  pub linked : place.after.previous ≡ place.number

-- the records are these
pub record ArePlaced (objects : ℕ → Option Object) (changes : DatasetChanges) (place : Place) : Type 0 where
  pub gone_is : IsTheRecord objects changes place.number place.gone
  pub after_is : IsTheRecord objects changes place.gone.next place.after
  pub before_is : IsBefore objects changes place.gone.previous place.before

-- it is not what comes after it or before it, nor are these one
pub record IsApart (place : Place) : Type 0 where
  pub next : place.gone.next ≢ place.number
  pub before : place.gone.previous ≢ place.number
  pub ends : place.gone.previous ≢ place.gone.next

-- the record of what comes after the snapshot, once that is gone
abbrev pub after_of : Place → DatasetRecord
after_of place = record place.after { previous = place.gone.previous }
