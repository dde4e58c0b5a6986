-- The rows that branch off others, as they are looked up.
use Rattle.std.proofs.Common.{◌≡◌, ◌≢◌, ℕ, ◌+◌, ◌<◌, List, [], ◌∷◌, ◌++◌, length, take, get_or, Option, Some, None, Contains, All, inl, inr, refl, sym, ap, ◌∙◌, subst}
use Rattle.std.specs.Prelude.{cond, nat_eq, IfSome, IfNone}
use Rattle.std.specs.HashMap.{get}
use Rattle.std.proofs.lemmas.Bool.{cases_eq, cond-true, cond-false, eq-eqb, ne_eqb}
use Rattle.std.proofs.lemmas.List.{take_more}
use Rattle.std.proofs.lemmas.List.Elements.{All-contains, Contains-push, Contains-push_cases, Contains-append_left}
use Rattle.std.proofs.lemmas.Option.{none-some, same_Some}
use Rattle.meta_objset.specs.declared.directory.DirectoryRow.{DirectoryRow}
use Rattle.meta_objset.specs.declared.record.DatasetRecord.{DatasetRecord}
use Rattle.meta_objset.specs.Names.{IsName}
use Rattle.dataset_snapshots.specs.declared.chaining.RowRecord.{RowRecord}
use Rattle.dataset_snapshots.specs.Chaining.{HasRecordAt, IsIndexOf, RecordIndex}
use Rattle.dataset_snapshots.specs.Clones.{HasNames, IsRowIndex, RowBranchesOff, RowIndex}

-- ---- the index of rows

-- that of the first ones, with one more
row_index_more : (rows : List DirectoryRow) (row : DirectoryRow) (index after : RowIndex) → ((q : ℕ) → get nat_eq after q ≡ cond (nat_eq row.object q) (Some row) (get nat_eq index q))
    → IsRowIndex rows index → IsRowIndex (rows ++ row ∷ []) after
row_index_more rows row index after updates was = record {
  has = λ object r found. elim (cases_eq row.object object) [
    | inl e ↦
        let same : row ≡ r = same_Some row r (sym (updates object ∙ cond-true _ _ _ (eq-eqb row.object object e)) ∙ found) in (
          subst (λ (it : DirectoryRow). Contains (rows ++ row ∷ []) it) same (Contains-push rows row),
          ap (λ (it : DirectoryRow). it.object) (sym same) ∙ e,
        )
    | inr ne ↦
        let there = was.has object r (sym (updates object ∙ cond-false _ _ _ (ne_eqb row.object object ne)) ∙ found) in (Contains-append_left rows (row ∷ []) r there.0, there.1)
  ];
  each = λ r held none. elim (cases_eq row.object r.object) [
    | inl e ↦ none-some row (sym none ∙ (updates r.object ∙ cond-true _ _ _ (eq-eqb row.object r.object e)))
    | inr ne ↦ elim (Contains-push_cases rows row r held) [
      | inl before ↦ was.each r before (sym (updates r.object ∙ cond-false _ _ _ (ne_eqb row.object r.object ne)) ∙ none)
      | inr is ↦ absurd (ne (ap (λ (it : DirectoryRow). it.object) is))
    ]
  ];
}

pub row_index_next : (rows : List DirectoryRow) (k : ℕ) (row other : DirectoryRow) (index after : RowIndex) → k < length rows → row ≡ get_or rows k other
    → ((q : ℕ) → get nat_eq after q ≡ cond (nat_eq row.object q) (Some row) (get nat_eq index q)) → IsRowIndex (take k rows) index → IsRowIndex (take (k + 1) rows) after
row_index_next rows k row other index after low is updates was =
    let taken : take k rows ++ row ∷ [] ≡ take (k + 1) rows = ap (λ (r : DirectoryRow). take k rows ++ r ∷ []) is ∙ sym (take_more rows k other low) in
    subst (λ (rs : List DirectoryRow). IsRowIndex rs after) taken (row_index_more (take k rows) row index after updates was)

-- it has names, if all rows have
pub names_held : (rows : List DirectoryRow) (index : RowIndex) → All (λ (row : DirectoryRow). IsName row.name) rows → IsRowIndex rows index → HasNames index
names_held rows index named is object row found = All-contains (λ (it : DirectoryRow). IsName it.name) rows row named (is.has object row found).0

-- ---- what is looked up

pub some_by : {X : Type 0} (found : Option X) (P : X → Type 0) → ((x : X) → found ≡ Some x → P x) → IfSome found P
some_by None P all = tt
some_by (Some x) P all = all x refl

pub none_by : {X : Type 0} (found : Option X) (R : Type 0) → (found ≡ None → R) → IfNone found R
none_by None R all = all refl
none_by (Some x) R all = tt

module _ (rows : List DirectoryRow) (all : List RowRecord) (records : RecordIndex) (by_object : RowIndex) (row before : DirectoryRow) (is : IsIndexOf all records) where
  -- an object has one record
  the_record : (object : ℕ) (found r : DatasetRecord) → get nat_eq records object ≡ Some found → HasRecordAt all object r → r ≡ found
  the_record object found r at held = same_Some r found (sym ((is.has object r).1 held) ∙ at)

  pub lacks_record : get nat_eq records row.object ≡ None → ¬ RowBranchesOff all row before
  lacks_record none it = none-some it.r (sym none ∙ (is.has row.object it.r).1 it.has)

  module _ (r : DatasetRecord) (has : get nat_eq records row.object ≡ Some r) where
    previous_is : (it : RowBranchesOff all row before) → it.r.previous ≡ r.previous
    previous_is it = ap (λ (one : DatasetRecord). one.previous) (the_record row.object r it.r has it.has)

    behind_is : (it : RowBranchesOff all row before) → before.object ≡ r.previous
    behind_is it = sym it.previous ∙ previous_is it

    pub is_first : r.previous ≡ 0 → ¬ RowBranchesOff all row before
    is_first none it = it.some (previous_is it ∙ none)

    there_is : (it : RowBranchesOff all row before) → HasRecordAt all r.previous it.s
    there_is it = subst (λ n. HasRecordAt all n it.s) (behind_is it) it.there

    pub lacks_previous : get nat_eq records r.previous ≡ None → ¬ RowBranchesOff all row before
    lacks_previous none it = none-some it.s (sym none ∙ (is.has r.previous it.s).1 (there_is it))

    module _ (s : DatasetRecord) (there : get nat_eq records r.previous ≡ Some s) where
      pub is_next : s.next ≡ row.object → ¬ RowBranchesOff all row before
      is_next same it = it.other (ap (λ (one : DatasetRecord). one.next) (the_record r.previous s it.s there (there_is it)) ∙ same)

      pub lacks_row : get nat_eq by_object r.previous ≡ None → IsRowIndex rows by_object → Contains rows before → ¬ RowBranchesOff all row before
      lacks_row none indexed held it = indexed.each before held (ap (get nat_eq by_object) (behind_is it) ∙ none)

      pub branches : r.previous ≢ 0 → s.next ≢ row.object → get nat_eq by_object r.previous ≡ Some before → IsRowIndex rows by_object → Contains rows before × RowBranchesOff all row before
      branches some other found indexed =
          let it = indexed.has r.previous before found in (
            it.0,
            record {
              r = r;
              has = (is.has row.object r).0 has;
              some = some;
              previous = sym it.1;
              s = s;
              there = subst (λ n. HasRecordAt all n s) (sym it.1) ((is.has r.previous s).0 there);
              other = other;
            },
          )
