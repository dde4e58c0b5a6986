-- Records that there are now have a spelling.
use Rattle.std.proofs.Common.{ℕ, ◌≡◌, Option, Some, None, refl, sym, subst}
use Rattle.meta_objset.specs.Record.{FitsRecord}
use Rattle.meta_objset.specs.declared.record.DatasetRecord.{DatasetRecord}
use Rattle.objset.specs.Objects.{Object}
use Rattle.dataset_changes.specs.Fitting.{FitsRecordState}
use Rattle.dataset_changes.specs.Over.{HasRecordNow, IsRecordNow}
use Rattle.dataset_changes.specs.States.{record_at}
use Rattle.dataset_changes.specs.declared.changes.DatasetChanges.{DatasetChanges}
use Rattle.dataset_changes.specs.declared.states.RecordState.{RecordState}
use Rattle.dataset_changes.specs.declared.states.RecordState.TheVariants as records

fits_by : (object : Option Object) (state : Option RecordState) (r : DatasetRecord) → ((s : RecordState) → state ≡ Some s → FitsRecordState s) → IsRecordNow object state r → FitsRecord r
fits_by object None r fit now = now.spelled.0
fits_by object (Some (records.Read one)) r fit now = subst FitsRecord (sym now) (fit (records.Read one) refl)
fits_by object (Some (records.Changed one)) r fit now = subst FitsRecord (sym now) (fit (records.Changed one) refl)
fits_by object (Some (records.Made one)) r fit now = subst FitsRecord (sym now) (fit (records.Made one) refl)
fits_by object (Some records.Gone) r fit now = absurd now

pub record_now_fits : (objects : ℕ → Option Object) (changes : DatasetChanges) (number : ℕ) (r : DatasetRecord) → HasRecordNow objects changes number r → FitsRecord r
record_now_fits objects changes number r now = fits_by (objects number) (record_at changes number) r (changes.records_fit.fit number) now
