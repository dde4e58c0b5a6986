-- Records of rows, looked up by their objects.
use Rattle.std.proofs.Common.{◌≡◌, ◌≢◌, ℕ, ◌+◌, ◌<◌, List, [], ◌∷◌, ◌++◌, length, take, get_or, true, false, true≢false, Option, Some, None, AllPairs, inl, inr, refl, sym, ap, ◌∙◌, subst, arith}
use Rattle.std.specs.Prelude.{cond, is_some, min, nat_eq}
use Rattle.std.specs.HashMap.{get}
use Rattle.std.specs.Map.{lookup}
use Rattle.std.proofs.lemmas.Bool.{cases_eq, cond-true, cond-false, eq-eqb, ne_eqb}
use Rattle.std.proofs.lemmas.List.{get_or-take, get_or_default, length-take, take_more}
use Rattle.std.proofs.lemmas.List.Elements.{Contains-get_or, Contains-push, Contains-push_cases, Contains-append_left}
use Rattle.std.proofs.lemmas.List.Quantifiers.{all_pairs_push}
use Rattle.std.proofs.lemmas.Option.{none-some, same_Some}
use Rattle.meta_objset.specs.declared.record.DatasetRecord.{DatasetRecord}
use Rattle.dataset_snapshots.specs.declared.chaining.RowRecord.{RowRecord}
use Rattle.dataset_snapshots.specs.Chaining.{AreChained, HasRecordAt, IsIndexIfChained, IsIndexOf, RecordIndex}

-- no two have one object
abbrev pub Apart : RowRecord → RowRecord → Type 0
Apart one later = one.object ≢ later.object

-- its object, and its record
abbrev pub object_of : RowRecord → ℕ
object_of one = one.object

abbrev record_of : RowRecord → DatasetRecord
record_of one = one.record

-- ---- the index of the first ones

pub none_indexed : (index : RecordIndex) → index.entries ≡ [] → IsIndexOf [] index
none_indexed index empty = record {
  once = λ i j d less within. absurd (omega (arith, within));
  has = λ object r. (
    λ found. absurd (none-some r (sym (ap (lookup (nat_eq object)) empty) ∙ found)),
    λ held. absurd (omega (arith, held.1)),
  );
}

-- with one more
indexed_more : (records : List RowRecord) (one : RowRecord) (index after : RecordIndex) → get nat_eq index one.object ≡ None
    → ((q : ℕ) → get nat_eq after q ≡ cond (nat_eq one.object q) (Some one.record) (get nat_eq index q)) → IsIndexOf records index → IsIndexOf (records ++ one ∷ []) after
indexed_more records one index after none updates was = record {
  once = all_pairs_push Apart records one was.once
      (λ k d below e.
      let it : RowRecord = get_or records k d in
      new it.record (subst (λ n. HasRecordAt records n it.record) e (Contains-get_or records k d below)));
  has = λ object r. elim (cases_eq one.object object) [
    | inl e ↦
        let here : get nat_eq after object ≡ Some one.record = updates object ∙ cond-true _ _ _ (eq-eqb one.object object e) in (
          λ found.
              let same : one.record ≡ r = same_Some one.record r (sym here ∙ found) in
              subst (λ n. HasRecordAt (records ++ one ∷ []) n r) e
              (subst (λ (of : DatasetRecord). HasRecordAt (records ++ one ∷ []) one.object of) same (Contains-push records one)),
          λ held. elim (Contains-push_cases records one (record { object = object; «record» = r }) held) [
            | inl before ↦ absurd (new r (subst (λ n. HasRecordAt records n r) (sym e) before))
            | inr is ↦ here ∙ ap Some (ap record_of is)
          ],
        )
    | inr ne ↦
        let there : get nat_eq after object ≡ get nat_eq index object = updates object ∙ cond-false _ _ _ (ne_eqb one.object object ne) in (
          λ found. Contains-append_left records (one ∷ []) (record { object = object; «record» = r }) ((was.has object r).0 (sym there ∙ found)),
          λ held. elim (Contains-push_cases records one (record { object = object; «record» = r }) held) [
            | inl before ↦ there ∙ (was.has object r).1 before
            | inr is ↦ absurd (ne (ap object_of is))
          ],
        )
  ];
}
  where
    new : (r : DatasetRecord) → ¬ HasRecordAt records one.object r
    new r held = none-some r (sym none ∙ (was.has one.object r).1 held)

pub index_next : (records : List RowRecord) (k : ℕ) (one other : RowRecord) (index after : RecordIndex) → k < length records → one ≡ get_or records k other → get nat_eq index one.object ≡ None
    → ((q : ℕ) → get nat_eq after q ≡ cond (nat_eq one.object q) (Some one.record) (get nat_eq index q)) → IsIndexOf (take k records) index → IsIndexOf (take (k + 1) records) after
index_next records k one other index after low is none updates was =
    let taken : take k records ++ one ∷ [] ≡ take (k + 1) records = ap (λ (r : RowRecord). take k records ++ r ∷ []) is ∙ sym (take_more records k other low) in
    subst (λ (rs : List RowRecord). IsIndexOf rs after) taken (indexed_more (take k records) one index after none updates was)

some_is : {X : Type 0} (found : Option X) → is_some found ≡ true → (x : X) × (found ≡ Some x)
some_is None is = absurd (true≢false (sym is))
some_is (Some x) is = (x, refl)

pub none_is : {X : Type 0} (found : Option X) → is_some found ≡ false → found ≡ None
none_is None is = refl
none_is (Some x) is = absurd (true≢false is)

-- what is there already is there twice
pub there_twice : (records : List RowRecord) (k : ℕ) (one other : RowRecord) (index : RecordIndex) (found : Option DatasetRecord) → k < length records → one ≡ get_or records k other
    → found ≡ get nat_eq index one.object → is_some found ≡ true → IsIndexOf (take k records) index → ¬ AllPairs Apart records
there_twice records k one other index found low is found_is some was pairs =
    let r = some_is found some in
    let it : RowRecord = record { object = one.object; «record» = r.0 } in
    let held = (was.has one.object r.0).0 (sym found_is ∙ r.1) in
    let few : length (take k records) ≡ min k (length records) = length-take k records in
    let small : held.0 < k = omega (arith, held.1, few) in
    let here : one ≡ get_or records k it = is ∙ get_or_default records k other it low in
    pairs held.0 k it small low (ap object_of (sym (get_or-take k records held.0 it small) ∙ held.2) ∙ ap object_of here)

-- ---- what is looked up

module _ (records : List RowRecord) (index : RecordIndex) (is : IsIndexOf records index) (object : ℕ) where
  pub one_there : (P : DatasetRecord → Type 0) (found : DatasetRecord) → get nat_eq index object ≡ Some found → P found → (r : DatasetRecord) × HasRecordAt records object r × P r
  one_there P found at p = (found, (is.has object found).0 at, p)

  pub of_one_there : (P : DatasetRecord → Type 0) (found : DatasetRecord) → get nat_eq index object ≡ Some found → (r : DatasetRecord) × HasRecordAt records object r × P r → P found
  of_one_there P found at (r, held, p) = subst P (same_Some r found (sym ((is.has object r).1 held) ∙ at)) p

  pub none_there : (P : DatasetRecord → Type 0) → get nat_eq index object ≡ None → ¬ ((r : DatasetRecord) × HasRecordAt records object r × P r)
  none_there P none (r, held, p) = none-some r (sym none ∙ (is.has object r).1 held)

-- ---- the index of records that fit one another

pub index_there : (records : List RowRecord) (found : Option RecordIndex) (index : RecordIndex) → IsIndexIfChained records found → found ≡ Some index → AreChained records × IsIndexOf records index
index_there records found index has is = subst (IsIndexIfChained records) is has

pub no_index : (records : List RowRecord) (found : Option RecordIndex) → IsIndexIfChained records found → ((index : RecordIndex) → ¬ (found ≡ Some index)) → ¬ AreChained records
no_index records None has none = has
no_index records (Some index) has none = absurd (none index refl)
