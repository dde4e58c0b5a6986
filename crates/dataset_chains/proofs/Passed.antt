-- What comes after a snapshot, once it was passed on.
use Rattle.std.proofs.Common.{◌≡◌, ◌≢◌, ℕ, Option, Some, refl, sym, ap, subst, ◌∙◌}
use Rattle.std.proofs.lemmas.Bool.{cond-true, cond-false, eq-eqb, ne_eqb}
use Rattle.dataset_changes.specs.Over.{AreOver, HasRecordNow}
use Rattle.dataset_changes.specs.States.{HasRecordPut, once_read, record_at, with_record}
use Rattle.dataset_changes.specs.declared.changes.DatasetChanges.{DatasetChanges}
use Rattle.meta_objset.specs.declared.record.DatasetRecord.{DatasetRecord}
use Rattle.objset.specs.Objects.{Object}
use Rattle.dataset_chains.specs.Passing.{IsNextPassed, IsRecordAlone}
use Rattle.dataset_chains.proofs.RecordsNow.{put_alone, read_same}

pub passed_none : (objects : ℕ → Option Object) (changes : DatasetChanges) (before from to : ℕ) → before ≡ 0 → IsNextPassed objects changes changes before from to
passed_none objects changes before from to zero = record {
  others = λ m other. refl;
  r = λ there. absurd (there zero);
  was = λ there. absurd (there zero);
  is = λ there. absurd (there zero);
}

module _ (objects : ℕ → Option Object) (old mid : DatasetChanges) (before from to : ℕ) (some : before ≢ 0) (found : DatasetRecord)
    (kept : HasRecordPut old before (Some (once_read (record_at old before) found)) mid)
    (value : AreOver objects mid × HasRecordNow objects old before found × ((r : DatasetRecord) → HasRecordNow objects old before r → r ≡ found)) where
  was_alone : IsRecordAlone objects old before found
  was_alone s = (value.2 s, λ e. subst (HasRecordNow objects old before) (sym e) value.1)

  pub found_alone : IsRecordAlone objects mid before found
  found_alone s =
      let same = read_same objects old mid before found kept value.1 value.2 before s in
      (λ there. value.2 s (same.0 there), λ e. same.1 (subst (HasRecordNow objects old before) (sym e) value.1))

  pub passed_not : found.next ≢ from → IsNextPassed objects old mid before from to
  passed_not other = record {
    others = λ m apart. kept.1 m (λ e. some (apart e));
    r = λ there. found;
    was = λ there. was_alone;
    is = λ there. subst (IsRecordAlone objects mid before) (sym (ap (λ (n : ℕ). record found { next = n }) (cond-false _ to found.next (ne_eqb found.next from other)))) found_alone;
  }

  pub passed_on : (new : DatasetChanges) → found.next ≡ from → HasRecordPut mid before (Some (with_record (record_at mid before) (record found { next = to }))) new
      → IsNextPassed objects old new before from to
  passed_on new same put = record {
    others = λ m apart. let ne : m ≢ before = λ e. some (apart e) in put.1 m ne ∙ kept.1 m ne;
    r = λ there. found;
    was = λ there. was_alone;
    is = λ there. subst (IsRecordAlone objects new before) (sym (ap (λ (n : ℕ). record found { next = n }) (cond-true _ to found.next (eq-eqb found.next from same))))
        (put_alone objects mid new before (record found { next = to }) put);
  }
