-- Records that are put and taken out.
use Rattle.std.proofs.Common.{◌≡◌, ◌≢◌, ◌↔◌, ℕ, List, Option, Some, None, inl, inr, refl, sym, ap, ◌∙◌, subst}
use Rattle.std.proofs.lemmas.Bool.{cases_eq, cond-true, cond-false, eq-eqb, ne_eqb, and_left, and_from}
use Rattle.block_pointer.specs.declared.block.Block.{Block}
use Rattle.dataset_chains.specs.Over.{AreOver, HasRecordNow, IsListNow, IsRecordNow, IsRecordOver}
use Rattle.dataset_chains.specs.States.{HasRecordPut, record_at, with_list, with_record, without_record}
use Rattle.dataset_chains.specs.DatasetChanges.{DatasetChanges}
use Rattle.dataset_chains.specs.ListState.{ListState}
use Rattle.dataset_chains.specs.ListState.TheVariants as lists
use Rattle.dataset_chains.specs.RecordState.{RecordState}
use Rattle.dataset_chains.specs.RecordState.TheVariants as records
use Rattle.meta_objset.specs.declared.record.DatasetRecord.{DatasetRecord}
use Rattle.objset.specs.Objects.{Object}
use Rattle.dataset_destroys.specs.Steps.{AreLinked, IsBefore, IsPassed, IsPutNow, IsTakenOut, IsTheRecord, next_of}

-- ---- one record

-- the others are the same
others_same : (objects : ℕ → Option Object) (old new : DatasetChanges) (number : ℕ) (state : Option RecordState) → HasRecordPut old number state new → (other : ℕ) (r : DatasetRecord) → other ≢ number
    → HasRecordNow objects old other r ↔ HasRecordNow objects new other r
others_same objects old new number state put other r not =
    subst (λ now. IsRecordNow (objects other) (record_at old other) r ↔ IsRecordNow (objects other) now r) (sym (put.1 other not)) (λ is. is, λ is. is)

put_at : (object : Option Object) (state : Option RecordState) (r other : DatasetRecord) → IsRecordNow object (Some (with_record state r)) other ↔ (other ≡ r)
put_at object None r other = (λ is. is, λ is. is)
put_at object (Some (records.Read one)) r other = (λ is. is, λ is. is)
put_at object (Some (records.Changed one)) r other = (λ is. is, λ is. is)
put_at object (Some (records.Made one)) r other = (λ is. is, λ is. is)
put_at object (Some records.Gone) r other = (λ is. is, λ is. is)

pub put_now : (objects : ℕ → Option Object) (old new : DatasetChanges) (number : ℕ) (r : DatasetRecord) → AreOver objects new
    → HasRecordPut old number (Some (with_record (record_at old number) r)) new → IsPutNow objects old new number r
put_now objects old new number r over put =
    let now = λ (other : DatasetRecord). subst (λ state. IsRecordNow (objects number) state other ↔ (other ≡ r)) (sym put.0) (put_at (objects number) (record_at old number) r other) in
    record {
      over = over;
      is = record { has = (now r).1 refl; one = λ other has. (now other).0 has };
      others = λ other s not. others_same objects old new number (Some (with_record (record_at old number) r)) put other s not;
    }

-- nothing is there where a record is freed
none_at : (object : Option Object) (state : Option RecordState) (was r : DatasetRecord) → IsRecordOver object state → IsRecordNow object state was → ¬ IsRecordNow object (without_record state) r
none_at object None was r over has is = is
none_at object (Some (records.Read one)) was r over has is = is
none_at object (Some (records.Changed one)) was r over has is = is
none_at object (Some (records.Made one)) was r over has is = let clash : Some is.there ≡ None = sym is.is ∙ over in cc
none_at object (Some records.Gone) was r over has is = is

pub taken_out : (objects : ℕ → Option Object) (old new : DatasetChanges) (number : ℕ) (was : DatasetRecord) → AreOver objects old → HasRecordNow objects old number was → AreOver objects new
    → HasRecordPut old number (without_record (record_at old number)) new → IsTakenOut objects old new number
taken_out objects old new number was before has over put = record {
  over = over;
  none = λ r is. none_at (objects number) (record_at old number) was r (before.records number) has (subst (λ state. IsRecordNow (objects number) state r) put.0 is);
  others = λ other s not. others_same objects old new number (without_record (record_at old number)) put other s not;
}

-- ---- one list

pub list_put_at : (object : Option Object) (state : Option ListState) (list now : List Block) → IsListNow object (Some (with_list state list)) now ↔ IsListNow object (Some (lists.Whole list)) now
list_put_at object None list now = (λ is. is, λ is. is)
list_put_at object (Some (lists.Added end blocks)) list now = (λ is. is, λ is. is)
list_put_at object (Some (lists.Whole one)) list now = (λ is. is, λ is. is)
list_put_at object (Some (lists.Made one)) list now = (λ is. is, λ is. is)
list_put_at object (Some lists.Gone) list now = (λ is. is, λ is. is)

-- ---- the one before is linked

at_next : (previous number next other to : ℕ) (before : DatasetRecord) → other ≡ previous → before.next ≡ number → next_of previous (Some before) number next other to ≡ next
at_next previous number next other to before e f = cond-true _ _ _ (and_from _ _ (eq-eqb other previous e) (eq-eqb before.next number f))

not_before : (previous number next other to : ℕ) (before : DatasetRecord) → other ≢ previous → next_of previous (Some before) number next other to ≡ to
not_before previous number next other to before ne = cond-false _ _ _ (and_left _ _ (ne_eqb other previous ne))

pub next_other : (previous number next other to : ℕ) (before : Option DatasetRecord) → other ≢ previous → next_of previous before number next other to ≡ to
next_other previous number next other to None ne = refl
next_other previous number next other to (Some before) ne = not_before previous number next other to before ne

pub linked_put : (objects : ℕ → Option Object) (old new : DatasetChanges) (number previous next : ℕ) (before : DatasetRecord) → before.next ≡ number → IsTheRecord objects old previous before
    → IsPutNow objects old new previous (record before { next = next }) → AreLinked objects old new number previous next (Some before)
linked_put objects old new number previous next before follows one put = record {
  over = put.over;
  stay = λ other r has. elim (cases_eq other previous) [
    | inl e ↦
        let same : r ≡ before = one.one r (subst (λ k. HasRecordNow objects old k r) e has) in
        subst (λ k. HasRecordNow objects new k (record r { next = next_of previous (Some before) number next other r.next })) (sym e)
        (subst (λ x. HasRecordNow objects new previous x)
        (ap (λ (x : DatasetRecord). record x { next = next }) (sym same) ∙ ap (λ (n : ℕ). record r { next = n }) (sym (at_next previous number next other r.next before e follows))) put.is.has)
    | inr ne ↦
        subst (λ n. HasRecordNow objects new other (record r { next = n })) (sym (not_before previous number next other r.next before ne)) ((put.others other r ne).0 has)
  ];
  were = λ other r has. elim (cases_eq other previous) [
    | inl e ↦ (
      before,
      subst (λ k. HasRecordNow objects old k before) (sym e) one.has,
      put.is.one r (subst (λ k. HasRecordNow objects new k r) e has) ∙ ap (λ (n : ℕ). record before { next = n }) (sym (at_next previous number next other before.next before e follows)),
    )
    | inr ne ↦ (r, (put.others other r ne).1 has, ap (λ (n : ℕ). record r { next = n }) (sym (not_before previous number next other r.next before ne)))
  ];
}

-- ---- a snapshot is out of its chain

pub before_later : (objects : ℕ → Option Object) (old new : DatasetChanges) (number previous : ℕ) (r : DatasetRecord) (before : Option DatasetRecord) → IsPutNow objects old new number r → previous ≢ number
    → IsBefore objects old previous before → IsBefore objects new previous before
before_later objects old new number previous r None put ne is = is
before_later objects old new number previous r (Some b) put ne is =
    (is.0, record { has = (put.others previous b ne).0 is.1.has; one = λ other has. is.1.one other ((put.others previous other ne).1 has) })

module _ (objects : ℕ → Option Object) (old put linked new : DatasetChanges) (number previous next : ℕ) (after : DatasetRecord) (before : Option DatasetRecord)
    (first : IsPutNow objects old put next (record after { previous = previous })) (second : AreLinked objects put linked number previous next before) (third : IsTakenOut objects linked new number)
    (next_not : next ≢ number) (ends : previous ≢ next) where
  abbrev follower : DatasetRecord
  follower = record after { previous = previous }

  -- what comes after the follower stays
  next_same : (to : ℕ) → next_of previous before number next next to ≡ to
  next_same to = next_other previous number next next to before (λ e. ends (sym e))

  follower_is : IsTheRecord objects new next follower
  follower_is = record {
    has = (third.others next follower next_not).0 (subst (λ n. HasRecordNow objects linked next (record follower { next = n })) (next_same follower.next) (second.stay next follower first.is.has));
    one = λ other has.
        let was = second.were next other ((third.others next other next_not).1 has) in
        was.2 ∙ ap (λ (n : ℕ). record was.0 { next = n }) (next_same was.0.next) ∙ first.is.one was.0 was.1;
  }

  pub passed_over : IsPassed objects old new number previous next after before
  passed_over = record {
    over = third.over;
    none = third.none;
    after_is = follower_is;
    stay = λ other r nn nx has. (third.others other (record r { next = next_of previous before number next other r.next }) nn).0 (second.stay other r ((first.others other r nx).0 has));
    were = λ other r nn nx has.
        let was = second.were other r ((third.others other r nn).1 has) in
        (was.0, (first.others other was.0 nx).1 was.1, was.2);
  }
