-- Which records and dead lists a change of a chain touches.
use Rattle.std.proofs.Common.{◌≡◌, ◌≢◌, ◌⊎◌, ◌∙◌, ℕ, Option, Some, None, inl, inr, refl, sym, subst}
use Rattle.std.proofs.lemmas.Bool.{cases_eq}
use Rattle.dataset_changes.specs.States.{AreOfOneSet, HasListPut, HasRecordPut, HaveSameLists, HaveSameRecords, once_read, record_at, with_record}
use Rattle.dataset_changes.specs.declared.changes.DatasetChanges.{DatasetChanges}
use Rattle.dataset_changes.specs.declared.states.ListState.{ListState}
use Rattle.dataset_changes.specs.declared.states.RecordState.{RecordState}
use Rattle.dataset_changes.specs.declared.states.RecordState.TheVariants as records
use Rattle.meta_objset.specs.declared.record.DatasetRecord.{DatasetRecord}
use Rattle.dataset_chains.specs.Refused.{HasKnown}
use Rattle.dataset_chains.specs.Touched.{AreAtMostRead, IsAtMostRead, IsCloneTouched, IsSnapshotTouched, TouchesOnly}

-- ---- reading

once : (state : Option RecordState) (found : DatasetRecord) → IsAtMostRead state (Some (once_read state found))
once None found = inr (refl, (found, refl))
once (Some state) found = inl refl

-- one read after another
pub at_most_on : (old mid new : Option RecordState) → IsAtMostRead old mid → IsAtMostRead mid new → IsAtMostRead old new
at_most_on old mid new (inl same) (inl kept) = inl (kept ∙ same)
at_most_on old mid new (inl same) (inr read) = inr (sym same ∙ read.0, read.1)
at_most_on old mid new (inr read) (inl kept) = inr (read.0, (read.1.0, kept ∙ read.1.1))
at_most_on old mid new (inr read) (inr again) = let clash : None ≡ Some (records.Read read.1.0) = sym again.0 ∙ read.1.1 in absurd cc

pub none_read : (changes : DatasetChanges) → AreAtMostRead changes changes
none_read changes number = inl refl

pub read_at_most : (old new : DatasetChanges) (n : ℕ) (found : DatasetRecord) → HasRecordPut old n (Some (once_read (record_at old n) found)) new → AreAtMostRead old new
read_at_most old new n found put m = elim (cases_eq m n) [
  | inl e ↦
      subst (λ (k : ℕ). IsAtMostRead (record_at old k) (record_at new k)) (sym e)
      (subst (λ (state : Option RecordState). IsAtMostRead (record_at old n) state) (sym put.0) (once (record_at old n) found))
  | inr ne ↦ inl (put.1 m ne)
]

-- one reading after another
pub all_read : (old mid new : DatasetChanges) → AreAtMostRead old mid → AreAtMostRead mid new → AreAtMostRead old new
all_read old mid new one two number = at_most_on (record_at old number) (record_at mid number) (record_at new number) (one number) (two number)

-- ---- putting

pub still_known : (old new : DatasetChanges) (n : ℕ) (r : DatasetRecord) → record_at new n ≡ record_at old n → HasKnown old n r → HasKnown new n r
still_known old new n r same (inl read) = inl (same ∙ read)
still_known old new n r same (inr (inl changed)) = inr (inl (same ∙ changed))
still_known old new n r same (inr (inr made)) = inr (inr (same ∙ made))

with_known : (n : ℕ) (new : DatasetChanges) (was : Option RecordState) (r : DatasetRecord) → record_at new n ≡ Some (with_record was r) → HasKnown new n r
with_known n new None r e = inr (inl e)
with_known n new (Some (records.Read one)) r e = inr (inl e)
with_known n new (Some (records.Changed one)) r e = inr (inl e)
with_known n new (Some (records.Made one)) r e = inr (inr e)
with_known n new (Some records.Gone) r e = inr (inl e)

-- a record that was put there is known
pub put_known : (old new : DatasetChanges) (n : ℕ) (r : DatasetRecord) → HasRecordPut old n (Some (with_record (record_at old n) r)) new → HasKnown new n r
put_known old new n r put = with_known n new (record_at old n) r put.0

-- a record is put at one number, and then a dead list at another
pub touches : (old read put new : DatasetChanges) (n list : ℕ) (state : Option RecordState) (after : Option ListState) (OfList : ℕ → Type 0)
    → AreAtMostRead old read → HaveSameLists old read → HasRecordPut read n state put → HaveSameLists read put → HaveSameRecords put new → HasListPut put list after new
    → OfList list → TouchesOnly old new (λ one. one ≡ n) OfList
touches old read put new n list state after OfList reads unlisted puts lists same list_put of_list = record {
  records = λ m. elim (cases_eq m n) [
    | inl e ↦ inr e
    | inr ne ↦ inl (subst (λ (s : Option RecordState). IsAtMostRead (record_at old m) s) (sym (same m ∙ puts.1 m ne)) (reads m))
  ];
  lists = λ m. elim (cases_eq m list) [
    | inl e ↦ inr (subst OfList (sym e) of_list)
    | inr ne ↦ inl (list_put.1 m ne ∙ lists m ∙ unlisted m)
  ];
}

-- ---- passing on

-- the record is what it was, was read, or is that of the one before
abbrev IsPassed : Option RecordState → Option RecordState → ℕ → ℕ → Type 0
IsPassed old new before number = IsAtMostRead old new ⊎ ((number ≡ before) × (number ≢ 0))

-- a record was read, and perhaps another is put in its place
pub passes : (old mid new : DatasetChanges) (before : ℕ) (state : Option RecordState) → before ≢ 0 → AreAtMostRead old mid → HasRecordPut mid before state new
    → (number : ℕ) → IsPassed (record_at old number) (record_at new number) before number
passes old mid new before state some reads put number = elim (cases_eq number before) [
  | inl e ↦ inr (e, λ zero. some (sym e ∙ zero))
  | inr ne ↦ inl (subst (λ (s : Option RecordState). IsAtMostRead (record_at old number) s) (sym (put.1 number ne)) (reads number))
]

passed_after : (old mid new : Option RecordState) (before number : ℕ) → IsAtMostRead old mid → IsPassed mid new before number → IsPassed old new before number
passed_after old mid new before number read (inl kept) = inl (at_most_on old mid new read kept)
passed_after old mid new before number read (inr here) = inr here

-- ---- a snapshot

-- the head's record is read, that of the one before passed on, the snapshot's made, the head's changed, and a dead list made
pub takes : (old read passed made put new : DatasetChanges) (head dataset list : ℕ) (r : DatasetRecord) (first second : Option RecordState) (third : Option ListState)
    → AreOfOneSet old read → HasKnown read head r → AreAtMostRead old read → ((number : ℕ) → IsPassed (record_at read number) (record_at passed number) r.previous number)
    → HasRecordPut passed dataset first made → HasRecordPut made head second put → HaveSameRecords put new
    → HaveSameLists old put → HasListPut put list third new → IsSnapshotTouched old new head dataset list
takes old read passed made put new head dataset list r first second third one_set known reads passing makes changes same lists list_put = record {
  far = read;
  one_set = one_set;
  r = r;
  known = known;
  touched = record {
    records = λ m. elim (cases_eq m dataset) [
      | inl e ↦ inr (inl e)
      | inr apart ↦ elim (cases_eq m head) [
        | inl e ↦ inr (inr (inl e))
        | inr other ↦ elim (passed_after (record_at old m) (record_at read m) (record_at passed m) r.previous m (reads m) (passing m)) [
          | inl kept ↦ inl (subst (λ (s : Option RecordState). IsAtMostRead (record_at old m) s) (sym (same m ∙ changes.1 m other ∙ makes.1 m apart)) kept)
          | inr here ↦ inr (inr (inr here))
        ]
      ]
    ];
    lists = λ m. elim (cases_eq m list) [
      | inl e ↦ inr e
      | inr ne ↦ inl (list_put.1 m ne ∙ lists m)
    ];
  };
}

-- ---- a clone

-- the snapshot's record is read and changed, the clone's made, and a dead list made
pub clones : (old read put made new : DatasetChanges) (snapshot dataset list : ℕ) (first second : Option RecordState) (third : Option ListState) → AreAtMostRead old read
    → HasRecordPut read snapshot first put → HasRecordPut put dataset second made → HaveSameRecords made new → HaveSameLists old made → HasListPut made list third new
    → IsCloneTouched old new snapshot dataset list
clones old read put made new snapshot dataset list first second third reads changes makes same lists list_put = record {
  records = λ m. elim (cases_eq m dataset) [
    | inl e ↦ inr (inl e)
    | inr apart ↦ elim (cases_eq m snapshot) [
      | inl e ↦ inr (inr e)
      | inr other ↦ inl (subst (λ (s : Option RecordState). IsAtMostRead (record_at old m) s) (sym (same m ∙ makes.1 m apart ∙ changes.1 m other)) (reads m))
    ]
  ];
  lists = λ m. elim (cases_eq m list) [
    | inl e ↦ inr e
    | inr ne ↦ inl (list_put.1 m ne ∙ lists m)
  ];
}
