-- What is read, one read after the other.
use Rattle.std.proofs.Common.{◌≡◌, ◌↔◌, ◌⊎◌, ℕ, List, [], Option, Some, None, inl, inr, refl, sym, ◌∙◌, subst}
use Rattle.std.proofs.lemmas.Bool.{cases_eq}
use Rattle.block_pointer.specs.declared.block.Block.{Block}
use Rattle.block_store.proofs.Steps.{reads_none, reads_on}
use Rattle.block_store.specs.Blocks.{Contents}
use Rattle.block_store.specs.Steps.{OnlyReadsBlocks}
use Rattle.block_store.specs.Store.{Store}
use Rattle.block_store.specs.declared.refusal.Refusal.{Refusal}
use Rattle.dataset_chains.specs.Refused.{HasKnown, IsListLost, IsRecordLost}
use Rattle.dataset_chains.specs.Over.{AreOver, HasListNow, HasRecordNow, IsListNow, IsRecordNow}
use Rattle.dataset_chains.specs.ChangesRefused.{IsListUnread, IsRecordUnread}
use Rattle.dataset_chains.specs.States.{AreOfOneSet, HasRecordPut, HaveSameLists, HaveSameRecords, birth_of, once_read, record_at, set_of}
use Rattle.dataset_chains.specs.DatasetChanges.{DatasetChanges}
use Rattle.dataset_chains.specs.ListState.{ListState}
use Rattle.dataset_chains.specs.RecordState.{RecordState}
use Rattle.dataset_chains.specs.RecordState.TheVariants as records
use Rattle.dnode.specs.declared.object_set.ObjectSet.{ObjectSet}
use Rattle.dnode_tree.proofs.FurtherReads.{told_before, told_after}
use Rattle.meta_objset.specs.declared.record.DatasetRecord.{DatasetRecord}
use Rattle.objset.specs.Objects.{AreObjects, Object}
use Rattle.dataset_destroys.specs.Steps.{AreSameNow, IsFound, IsTheRecord, TellsObjects}

-- ---- the set and the store

pub one_set_on : (old mid new : DatasetChanges) → AreOfOneSet old mid → AreOfOneSet mid new → AreOfOneSet old new
one_set_on old mid new first rest = (rest.0 ∙ first.0, rest.1 ∙ first.1)

pub one_set_same : (changes : DatasetChanges) → AreOfOneSet changes changes
one_set_same changes = (refl, refl)

pub tells_first : (old mid new : Store) (changes : DatasetChanges) (stored : Contents) (objects : ℕ → Option Object) → OnlyReadsBlocks old mid [] → OnlyReadsBlocks mid new []
    → TellsObjects old new changes stored objects → TellsObjects old mid changes stored objects
tells_first old mid new changes stored objects first rest told =
    record { own = told.own; blocks = told.blocks; held = told.held; are = told.are; tell = told_before old mid new [] first rest told.tell }

pub tells_rest : (old mid new : Store) (changes later : DatasetChanges) (stored : Contents) (objects : ℕ → Option Object) → AreOfOneSet changes later → OnlyReadsBlocks old mid [] → OnlyReadsBlocks mid new []
    → TellsObjects old new changes stored objects → TellsObjects mid new later stored objects
tells_rest old mid new changes later stored objects same first rest told = record {
  own = told.own;
  blocks = told.blocks;
  held = first.keeps stored told.held;
  are = subst (λ (set : ObjectSet). AreObjects stored (birth_of later) set objects told.own told.blocks) (sym same.0)
      (subst (λ birth. AreObjects stored birth (set_of changes) objects told.own told.blocks) (sym same.1) told.are);
  tell = told_after old mid new [] first rest told.tell;
}

-- where no store was read
pub tells_later : (old new : Store) (changes later : DatasetChanges) (stored : Contents) (objects : ℕ → Option Object) → AreOfOneSet changes later
    → TellsObjects old new changes stored objects → TellsObjects old new later stored objects
tells_later old new changes later stored objects same told = record {
  own = told.own;
  blocks = told.blocks;
  held = told.held;
  are = subst (λ (set : ObjectSet). AreObjects stored (birth_of later) set objects told.own told.blocks) (sym same.0)
      (subst (λ birth. AreObjects stored birth (set_of changes) objects told.own told.blocks) (sym same.1) told.are);
  tell = told.tell;
}

-- ---- refusals

pub record_lost : (old new : Store) (changes : DatasetChanges) (number : ℕ) (refusal : Refusal) → IsRecordUnread old new changes number refusal → IsRecordLost old new changes refusal
record_lost old new changes number refusal why =
    record { mid = old; before = reads_none old []; far = changes; one_set = (refl, refl); number = number; why = why }

pub record_lost_on : (old mid new : Store) (changes later : DatasetChanges) (refusal : Refusal) → OnlyReadsBlocks old mid [] → AreOfOneSet changes later → IsRecordLost mid new later refusal → IsRecordLost old new changes refusal
record_lost_on old mid new changes later refusal first same lost = record {
  mid = lost.mid;
  before = reads_on old mid lost.mid [] first lost.before;
  far = lost.far;
  one_set = one_set_on changes later lost.far same lost.one_set;
  number = lost.number;
  why = lost.why;
}

pub list_lost : (old new : Store) (changes : DatasetChanges) (number : ℕ) (refusal : Refusal) → IsListUnread old new changes number refusal → IsListLost old new changes refusal
list_lost old new changes number refusal why =
    record { mid = old; before = reads_none old []; far = changes; one_set = (refl, refl); number = number; why = inl why }

pub list_lost_on : (old mid new : Store) (changes later : DatasetChanges) (refusal : Refusal) → OnlyReadsBlocks old mid [] → AreOfOneSet changes later → IsListLost mid new later refusal → IsListLost old new changes refusal
list_lost_on old mid new changes later refusal first same lost = record {
  mid = lost.mid;
  before = reads_on old mid lost.mid [] first lost.before;
  far = lost.far;
  one_set = one_set_on changes later lost.far same lost.one_set;
  number = lost.number;
  why = lost.why;
}

-- ---- the same records and lists

pub same_records : (objects : ℕ → Option Object) (old new : DatasetChanges) → HaveSameRecords old new → (number : ℕ) (r : DatasetRecord) → HasRecordNow objects old number r ↔ HasRecordNow objects new number r
same_records objects old new same number r = (
  λ has. subst (λ state. IsRecordNow (objects number) state r) (sym (same number)) has,
  λ has. subst (λ state. IsRecordNow (objects number) state r) (same number) has,
)

pub same_lists : (objects : ℕ → Option Object) (old new : DatasetChanges) → HaveSameLists old new → (number : ℕ) (list : List Block) → HasListNow objects old number list → HasListNow objects new number list
same_lists objects old new same number list has = subst (λ (state : Option ListState). IsListNow (objects number) state list) (sym (same number)) has

pub same_on : (objects : ℕ → Option Object) (old mid new : DatasetChanges) → AreSameNow objects old mid → AreSameNow objects mid new → AreSameNow objects old new
same_on objects old mid new first rest = record {
  over = rest.over;
  records = λ number r. (λ has. (rest.records number r).0 ((first.records number r).0 has), λ has. (first.records number r).1 ((rest.records number r).1 has));
  lists = λ number list has. rest.lists number list (first.lists number list has);
}

-- nothing was read
pub same_none : (objects : ℕ → Option Object) (changes : DatasetChanges) → AreOver objects changes → AreSameNow objects changes changes
same_none objects changes over = record { over = over; records = λ number r. (λ has. has, λ has. has); lists = λ number list has. has }

pub the_record_first : (objects : ℕ → Option Object) (old new : DatasetChanges) (number : ℕ) (r : DatasetRecord) → AreSameNow objects old new → IsTheRecord objects new number r → IsTheRecord objects old number r
the_record_first objects old new number r same it =
    record { has = (same.records number r).1 it.has; one = λ other has. it.one other ((same.records number other).0 has) }

pub the_record_later : (objects : ℕ → Option Object) (old new : DatasetChanges) (number : ℕ) (r : DatasetRecord) → AreSameNow objects old new → IsTheRecord objects old number r → IsTheRecord objects new number r
the_record_later objects old new number r same it =
    record { has = (same.records number r).0 it.has; one = λ other has. it.one other ((same.records number other).1 has) }

-- ---- a read

-- a record that was read is the one that is kept
read_at : (object : Option Object) (state : Option RecordState) (found : DatasetRecord) → IsRecordNow object state found → ((r : DatasetRecord) → IsRecordNow object state r → r ≡ found)
    → (r : DatasetRecord) → IsRecordNow object state r ↔ IsRecordNow object (Some (once_read state found)) r
read_at object None found has one r = (one r, λ same. subst (λ x. IsRecordNow object None x) (sym same) has)
read_at object (Some state) found has one r = (λ is. is, λ is. is)

pub read_same : (objects : ℕ → Option Object) (old new : DatasetChanges) (number : ℕ) (found : DatasetRecord) → AreOver objects new → HaveSameLists old new
    → HasRecordPut old number (Some (once_read (record_at old number) found)) new → HasRecordNow objects old number found → ((r : DatasetRecord) → HasRecordNow objects old number r → r ≡ found)
    → IsFound objects old new number found
read_same objects old new number found over lists put has one = (
  record {
    over = over;
    records = λ other r. elim (cases_eq other number) [
      | inl e ↦
          let here = read_at (objects number) (record_at old number) found has one r in
          subst (λ k. HasRecordNow objects old k r ↔ HasRecordNow objects new k r) (sym e)
          (subst (λ state. IsRecordNow (objects number) (record_at old number) r ↔ IsRecordNow (objects number) state r) (sym put.0) here)
      | inr not ↦ subst (λ state. IsRecordNow (objects other) (record_at old other) r ↔ IsRecordNow (objects other) state r) (sym (put.1 other not)) (λ is. is, λ is. is)
    ];
    lists = same_lists objects old new lists;
  },
  record { has = has; one = one },
)

-- ---- what is known

-- what was known stays so
known_by : (state : Option RecordState) (found r : DatasetRecord) → (state ≡ Some (records.Read r)) ⊎ ((state ≡ Some (records.Changed r)) ⊎ (state ≡ Some (records.Made r))) → Some (once_read state found) ≡ state
known_by None found r known = absurd (elim known [
  | inl is ↦ cc
  | inr other ↦ elim other [
    | inl is ↦ cc
    | inr is ↦ cc
  ]
])
known_by (Some state) found r known = refl

pub known_on : (old new : DatasetChanges) (number : ℕ) (found : DatasetRecord) → HasRecordPut old number (Some (once_read (record_at old number) found)) new → (other : ℕ) (r : DatasetRecord) → HasKnown old other r → HasKnown new other r
known_on old new number found put other r known =
    let Known : Option RecordState → Type 0 = λ state. (state ≡ Some (records.Read r)) ⊎ ((state ≡ Some (records.Changed r)) ⊎ (state ≡ Some (records.Made r))) in
    elim (cases_eq other number) [
      | inl e ↦
          let here : Known (record_at old number) = subst (λ k. Known (record_at old k)) e known in
          subst (λ k. Known (record_at new k)) (sym e) (subst Known (sym (put.0 ∙ known_by (record_at old number) found r here)) here)
      | inr not ↦ subst Known (sym (put.1 other not)) known
    ]
