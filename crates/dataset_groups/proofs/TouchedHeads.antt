-- Which records and dead lists a group's heads touch.
use Rattle.std.proofs.Common.{◌≡◌, ◌≢◌, ◌⊎◌, ℕ, List, [], ◌∷◌, ◌++◌, Option, Some, None, Contains, inl, inr, refl, sym, ap, subst, ◌∙◌, arith}
use Rattle.std.proofs.lemmas.List.{map-append}
use Rattle.std.proofs.lemmas.List.Elements.{Contains-append_cases, Contains-append_left, Contains-append_right}
use Rattle.block_pointer.specs.declared.block.Block.{Block}
use Rattle.block_store.specs.Blocks.{Contents}
use Rattle.dataset_destroys.specs.Chains.{HasDataset, Reading, SpellsChains}
use Rattle.dataset_destroys.specs.ChainRefused.{HasKnown}
use Rattle.dataset_destroys.specs.ChainTouched.{HasSameList, KeepsDeadLists, TouchesOnly}
use Rattle.dataset_destroys.proofs.ChainSameLists.{known_now}
use Rattle.dataset_destroys.proofs.ChainTouching.{at_most_on}
use Rattle.dataset_destroys.specs.Over.{HasListNow, HasRecordNow, IsForList, IsForRecord, IsListNow, IsListOver, IsRecordNow, IsRecordOver}
use Rattle.dataset_destroys.specs.Results.{AreMixed}
use Rattle.dataset_destroys.specs.States.{list_at, record_at}
use Rattle.dataset_destroys.specs.DatasetChanges.{DatasetChanges}
use Rattle.dataset_destroys.specs.ListState.{ListState}
use Rattle.dataset_destroys.specs.ListState.TheVariants as lists
use Rattle.dataset_destroys.specs.RecordState.{RecordState}
use Rattle.dataset_destroys.specs.RecordState.TheVariants as records
use Rattle.dead_list.specs.Datasets.{Free, Pool}
use Rattle.dataset_destroys.specs.Lists.{HasDeadList}
use Rattle.meta_objset.specs.Datasets.{HasRecord}
use Rattle.meta_objset.specs.declared.record.DatasetRecord.{DatasetRecord}
use Rattle.objset.specs.Objects.{Object}
use Rattle.dataset_groups.specs.declared.writing.WrittenHead.{WrittenHead}
use Rattle.dataset_groups.specs.Groups.{IsFresh}
use Rattle.dataset_groups.specs.Touched.{TouchesHeads}
use Rattle.dataset_groups.specs.Writing.{IsListOf, numbers_of}
use Rattle.dataset_groups.proofs.ListParts.{is_first, first_or_later, nothing_in}

-- ---- one head after the other

pub touches_none : (changes : DatasetChanges) → TouchesHeads changes changes []
touches_none changes = record { records = λ number. inl (inl refl); lists = λ number. inl refl }

pub one_touched : (old new : DatasetChanges) (n : ℕ) → TouchesOnly old new (λ one. one ≡ n) (λ one. (r : DatasetRecord) × HasKnown new n r × (r.dead_list ≡ one)) → TouchesHeads old new (n ∷ [])
one_touched old new n touched = record {
  records = λ m. elim (touched.records m) [
    | inl read ↦ inl read
    | inr e ↦ inr (subst (Contains (n ∷ [])) (sym e) (is_first n []))
  ];
  lists = λ m. elim (touched.lists m) [
    | inl kept ↦ inl kept
    | inr it ↦ inr (n, is_first n [], it)
  ];
}

-- one number behind others
pub number_before : (done : List WrittenHead) (head : WrittenHead) (n : ℕ) → Contains (numbers_of done) n → Contains (numbers_of (done ++ head ∷ [])) n
number_before done head n held =
    subst (λ (ns : List ℕ). Contains ns n) (sym (map-append (λ (h : WrittenHead). h.number) done (head ∷ []))) (Contains-append_left (numbers_of done) (head.number ∷ []) n held)

pub number_last : (done : List WrittenHead) (head : WrittenHead) (n : ℕ) → Contains (head.number ∷ []) n → Contains (numbers_of (done ++ head ∷ [])) n
number_last done head n held =
    subst (λ (ns : List ℕ). Contains ns n) (sym (map-append (λ (h : WrittenHead). h.number) done (head ∷ []))) (Contains-append_right (numbers_of done) (head.number ∷ []) n held)

pub number_cases : (done : List WrittenHead) (head : WrittenHead) (n : ℕ) → Contains (numbers_of (done ++ head ∷ [])) n → Contains (numbers_of done) n ⊎ (head.number ≡ n)
number_cases done head n held =
    elim (Contains-append_cases (numbers_of done) (head.number ∷ []) n (subst (λ (ns : List ℕ). Contains ns n) (map-append (λ (h : WrittenHead). h.number) done (head ∷ [])) held)) [
      | inl sooner ↦ inl sooner
      | inr last ↦ elim (first_or_later head.number n [] last) [
        | inl is ↦ inr is
        | inr none ↦ absurd (nothing_in n none)
      ]
    ]

pub touches_more : (old mid new : DatasetChanges) (done : List WrittenHead) (head : WrittenHead) → KeepsDeadLists mid new → TouchesHeads old mid (numbers_of done)
    → TouchesHeads mid new (head.number ∷ []) → TouchesHeads old new (numbers_of (done ++ head ∷ []))
touches_more old mid new done head keeps first next = record {
  records = λ n. elim (first.records n) [
    | inr sooner ↦ inr (number_before done head n sooner)
    | inl one ↦ elim (next.records n) [
      | inl two ↦ inl (at_most_on (record_at old n) (record_at mid n) (record_at new n) one two)
      | inr last ↦ inr (number_last done head n last)
    ]
  ];
  lists = λ n. elim (next.lists n) [
    | inr it ↦ inr (it.0, number_last done head it.0 it.1, it.2)
    | inl two ↦ elim (first.lists n) [
      | inl one ↦ inl (two ∙ one)
      | inr it ↦
          let kept = keeps it.0 it.2.0 it.2.1 in
          inr (it.0, number_before done head it.0 it.1, (kept.0, kept.1, kept.2 ∙ it.2.2))
    ]
  ];
}

-- ---- one head's record and dead list

-- a number that a record or a dead list stands at by itself
pub some_or_none : {X : Type 0} (o : Option X) → (o ≡ None) ⊎ (o ≢ None)
some_or_none None = inl refl
some_or_none (Some x) = inr (λ e. absurd (let wrong : Some x ≡ None = e in cc))

pub no_object : {X : Type 0} (object : Option X) (there : X) → object ≡ None → object ≡ Some there → ⊥
no_object object there none some = let wrong : None ≡ Some there = sym none ∙ some in cc

-- where there is no object the record or the dead list was made
pub record_made : (object : Option Object) (state : Option RecordState) (r : DatasetRecord) → object ≡ None → IsRecordNow object state r → state ≢ None
record_made object state r none now e =
    let there : HasRecord object r = subst (λ (s : Option RecordState). IsRecordNow object s r) e now in
    no_object object there.there none there.is

list_made : (object : Option Object) (state : Option ListState) (list : List Block) → object ≡ None → IsListNow object state list → state ≢ None
list_made object state list none now e =
    let there : HasDeadList object list = subst (λ (s : Option ListState). IsListNow object s list) e now in
    no_object object there.1.there none there.1.is

-- an object that was touched is for records, or for dead lists, or isn't there
abbrev pub IsForRecordOrNone : Option Object → Type 0
IsForRecordOrNone object = (object ≡ None) ⊎ IsForRecord object

abbrev pub IsForListOrNone : Option Object → Type 0
IsForListOrNone object = (object ≡ None) ⊎ IsForList object

pub for_record : (object : Option Object) (state : Option RecordState) → IsRecordOver object state → state ≢ None → IsForRecordOrNone object
for_record object None over some = absurd (some refl)
for_record object (Some (records.Read r)) over some = inr (over.there, over.is, over.of_record)
for_record object (Some (records.Changed r)) over some = inr over
for_record object (Some (records.Made r)) over some = inl over
for_record object (Some records.Gone) over some = inr over

pub for_list : (object : Option Object) (state : Option ListState) → IsListOver object state → state ≢ None → IsForListOrNone object
for_list object None over some = absurd (some refl)
for_list object (Some (lists.Added end blocks)) over some = inr (over.2.table.there, over.2.table.is, over.2.table.of_kind)
for_list object (Some (lists.Whole list)) over some = inr over
for_list object (Some (lists.Made list)) over some = inl over
for_list object (Some lists.Gone) over some = inr over

some_is : {X : Type 0} (x y : X) → Some x ≡ Some y → x ≡ y
some_is x y e = let same : x ≡ y = cc in same

pub not_both : (object : Option Object) → IsForRecordOrNone object → IsForListOrNone object → object ≡ None
not_both object (inl none) is = none
not_both object (inr is) (inl none) = none
not_both object (inr (x, x_is, of_record)) (inr (y, y_is, of_list)) =
    let same : x ≡ y = some_is x y (sym x_is ∙ y_is) in
    let clash : 201 ≡ 202 = sym of_record.object_type ∙ ap (λ (o : Object). o.object_type) same ∙ of_list.0 in
    absurd (omega (arith, clash))

module _ (known later : Contents) (group : ℕ) (objects : ℕ → Option Object) (old new : DatasetChanges) (pool after : Pool) (readings now : ℕ → Reading) (n : ℕ)
    (spells : SpellsChains known group objects old pool readings) (spelled : SpellsChains later group objects new after now)
    (there : (pool.datasets n).kind ≢ Free) (still : (after.datasets n).kind ≢ Free)
    (touched : TouchesHeads old new (n ∷ [])) (same : HasSameList objects old new n) where
  is_n : (m : ℕ) → Contains (n ∷ []) m → n ≡ m
  is_n m held = elim (first_or_later n m [] held) [
    | inl e ↦ e
    | inr none ↦ absurd (nothing_in m none)
  ]

  has : HasDataset known group objects old pool readings n
  has = spells.each n there

  -- the list that is touched is the one that the head's record named
  old_list : (k : ℕ) → IsListOf new (n ∷ []) k → HasListNow objects old k (pool.datasets n).dead
  old_list k it =
      let r : DatasetRecord = it.2.0 in
      let now_is : HasRecordNow objects new n r = known_now objects new n r (subst (λ m. HasKnown new m r) (sym (is_n it.0 it.1)) it.2.1) in
      subst (λ m. HasListNow objects old m (pool.datasets n).dead) (sym (same has.r r has.has now_is) ∙ it.2.2) has.dead

  -- a record that is there now where no object is was there
  record_before : (k : ℕ) → objects k ≡ None → record_at new k ≢ None → record_at old k ≢ None
  record_before k none some = elim (touched.records k) [
    | inr held ↦ record_made (objects k) (record_at old k) has.r none (subst (λ m. HasRecordNow objects old m has.r) (is_n k held) has.has)
    | inl (inl kept) ↦ λ e. some (kept ∙ e)
    | inl (inr read) ↦
        let is : HasRecord (objects k) read.1.0 = subst (λ (s : Option RecordState). IsRecordOver (objects k) s) read.1.1 (spelled.over.records k) in
        absurd (no_object (objects k) is.there none is.is)
  ]

  list_before : (k : ℕ) → objects k ≡ None → list_at new k ≢ None → list_at old k ≢ None
  list_before k none some = elim (touched.lists k) [
    | inl kept ↦ λ e. some (kept ∙ e)
    | inr it ↦ list_made (objects k) (list_at old k) (pool.datasets n).dead none (old_list k it)
  ]

  pub still_unmixed : ¬ AreMixed old → ¬ AreMixed new
  still_unmixed unmixed (k, some_record, some_list) =
      let none = not_both (objects k) (for_record (objects k) (record_at new k) (spelled.over.records k) some_record) (for_list (objects k) (list_at new k) (spelled.over.lists k) some_list) in
      unmixed (k, record_before k none some_record, list_before k none some_list)

  pub still_fresh : (k : ℕ) → IsFresh objects old k → IsFresh objects new k
  still_fresh k fresh = record {
    no_object = fresh.no_object;
    no_record = elim (some_or_none (record_at new k)) [
      | inl e ↦ e
      | inr some ↦ absurd (record_before k fresh.no_object some fresh.no_record)
    ];
    no_list = elim (some_or_none (list_at new k)) [
      | inl e ↦ e
      | inr some ↦ absurd (list_before k fresh.no_object some fresh.no_list)
    ];
  }
