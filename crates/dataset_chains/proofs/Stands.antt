-- Datasets before and after a group's changes.
use Rattle.std.proofs.Common.{ℕ, ◌≡◌, ◌≢◌, ◌⊎◌, inl, inr, List, ◌++◌, Option, Some, None, refl, sym, ap, ◌∙◌, subst, arith}
use Rattle.std.proofs.lemmas.List.Sorted.{IsPermutation-refl}
use Rattle.block_pointer.specs.declared.block.Block.{Block}
use Rattle.block_store.specs.Blocks.{Contents}
use Rattle.dataset_changes.specs.Over.{AreOver, HasListNow, HasRecordNow, IsForList, IsListNow, IsListOver, IsRecordNow, IsRecordOver}
use Rattle.dataset_changes.specs.Results.{AreChangesOf, Gives}
use Rattle.dataset_changes.specs.States.{AreUntouched, list_at, record_at}
use Rattle.dataset_changes.specs.declared.changes.DatasetChanges.{DatasetChanges}
use Rattle.dataset_changes.specs.declared.states.ListState.{ListState}
use Rattle.dataset_changes.specs.declared.states.ListState.TheVariants as lists
use Rattle.dataset_changes.specs.declared.states.RecordState.{RecordState}
use Rattle.dataset_changes.specs.declared.states.RecordState.TheVariants as records
use Rattle.dead_list.specs.Datasets.{Free, Head, Snapshot, Kind, Pool}
use Rattle.dataset_changes.specs.Lists.{HasDeadList}
use Rattle.meta_objset.proofs.Readings.{record_once}
use Rattle.meta_objset.specs.Datasets.{HasRecord}
use Rattle.meta_objset.specs.declared.record.DatasetRecord.{DatasetRecord}
use Rattle.objset.specs.Changes.{changed}
use Rattle.objset.specs.Objects.{Object}
use Rattle.objset.specs.declared.changes.ObjectChange.{ObjectChange}
use Rattle.dataset_chains.specs.Chains.{HasDataset, HasNoDataset, Reading, SpellsChains}
use Rattle.dataset_chains.specs.Standing.{HasChains, StandsAt, StandsForNothing}

-- ---- before

free_or_not : (kind : Kind) → (kind ≡ Free) ⊎ (kind ≢ Free)
free_or_not Free = inl refl
free_or_not Head = inr (λ e. absurd (let wrong : Head ≡ Free = e in cc))
free_or_not Snapshot = inr (λ e. absurd (let wrong : Snapshot ≡ Free = e in cc))

some_same : (one other : Object) → Some one ≡ Some other → one ≡ other
some_same one other e = cc

module _ (objects : ℕ → Option Object) (changes : DatasetChanges) (none : AreUntouched changes) where
  record_now : (number : ℕ) (r : DatasetRecord) → HasRecord (objects number) r → HasRecordNow objects changes number r
  record_now number r has = subst (λ state. IsRecordNow (objects number) state r) (sym (none number).0) has

  record_was : (number : ℕ) (r : DatasetRecord) → HasRecordNow objects changes number r → HasRecord (objects number) r
  record_was number r has = subst (λ state. IsRecordNow (objects number) state r) (none number).0 has

  list_now : (number : ℕ) (list : List Block) → HasDeadList (objects number) list → HasListNow objects changes number list
  list_now number list has = subst (λ state. IsListNow (objects number) state list) (sym (none number).1) has

  over : AreOver objects changes
  over = record {
    records = λ number. subst (IsRecordOver (objects number)) (sym (none number).0) tt;
    lists = λ number. subst (IsListOver (objects number)) (sym (none number).1) tt;
  }

  pub begins : (stored : Contents) (group : ℕ) (pool : Pool) (readings : ℕ → Reading) → HasChains stored group objects pool readings
      → SpellsChains stored group objects changes pool readings
  begins stored group pool readings chains = record {
    over = over;
    sound = chains.sound;
    now = chains.now;
    each = λ number some. let it = chains.each number some in record {
      behind = it.behind;
      r = it.r;
      has = record_now number it.r it.has;
      is = it.is;
      clones = it.clones;
      leads = it.leads;
      list_behind = it.list_behind;
      dead = list_now it.r.dead_list (pool.datasets number).dead it.dead;
    };
    none = λ number free. let it = chains.none number free in record {
      is = it.is;
      none = λ r has. it.none r (record_was number r has);
    };
    apart = λ number other r s one two same. chains.apart number other r s (record_was number r one) (record_was other s two) same;
  }

-- ---- after

-- an object doesn't have both a record and a dead list
not_both : (A : Type 0) (object : Option Object) (r : DatasetRecord) (list : List Block) → HasRecord object r → HasDeadList object list → A
not_both A object r list has dead =
    let e : has.there.object_type ≡ dead.1.there.object_type = ap (λ (it : Object). it.object_type) (some_same has.there dead.1.there (sym has.is ∙ dead.1.is)) in
    let wrong : 201 ≡ 202 = sym has.of_record.object_type ∙ e ∙ dead.1.of_kind.0 in
    absurd (omega (arith, wrong))

-- nor does nothing have a record
none_has : (A : Type 0) (object : Option Object) (r : DatasetRecord) → object ≡ None → HasRecord object r → A
none_has A object r e has = absurd (let wrong : None ≡ Some has.there = sym e ∙ has.is in cc)

module _ (known : Contents) (group : ℕ) (objects : ℕ → Option Object) (changes : DatasetChanges) (pool : Pool) (readings : ℕ → Reading)
    (made : List ObjectChange) (chains : SpellsChains known group objects changes pool readings) (are : AreChangesOf changes made) where
  gives : Gives changes made objects
  gives = are.over objects chains.over

  -- a dead list that became something stands in its object, or the object is gone
  by_list : (A : Type 0) (number : ℕ) (r : DatasetRecord) (state : ListState) → list_at changes number ≡ Some state
      → IsListOver (objects number) (Some state) → HasRecord (changed made objects number) r → A
  by_list A number r (lists.Added end blocks) e it has =
      not_both A (changed made objects number) r (it.1 ++ blocks) has
      (gives.lists number (it.1 ++ blocks) (subst (λ state. IsListNow (objects number) state (it.1 ++ blocks)) (sym e)
      (it.0, it.1, it.2, it.3, IsPermutation-refl (it.1 ++ blocks))))
  by_list A number r (lists.Whole list) e is has =
      not_both A (changed made objects number) r list has
      (gives.lists number list (subst (λ it. IsListNow (objects number) it list) (sym e) (IsPermutation-refl list)))
  by_list A number r (lists.Made list) e is has =
      not_both A (changed made objects number) r list has
      (gives.lists number list (subst (λ it. IsListNow (objects number) it list) (sym e) (IsPermutation-refl list)))
  by_list A number r lists.Gone e is has = none_has A (changed made objects number) r (gives.gone number (inr e)) has

  -- where there is no record, none is there after the changes
  by_states : (A : Type 0) (number : ℕ) (r : DatasetRecord) (state : Option RecordState) (list : Option ListState) → record_at changes number ≡ state
      → list_at changes number ≡ list → ((s : DatasetRecord) → ¬ IsRecordNow (objects number) state s) → HasRecord (changed made objects number) r → A
  by_states A number r None None e f none has =
      absurd (none r (subst (λ it. HasRecord it r) (gives.others number e f) has))
  by_states A number r None (Some state) e f none has =
      by_list A number r state f (subst (IsListOver (objects number)) f (chains.over.lists number)) has
  by_states A number r (Some (records.Read s)) list e f none has = absurd (none s refl)
  by_states A number r (Some (records.Changed s)) list e f none has = absurd (none s refl)
  by_states A number r (Some (records.Made s)) list e f none has = absurd (none s refl)
  by_states A number r (Some records.Gone) list e f none has = none_has A (changed made objects number) r (gives.gone number (inl e)) has

  no_record : (A : Type 0) (number : ℕ) (r : DatasetRecord) → HasNoDataset objects changes pool number → HasRecord (changed made objects number) r → A
  no_record A number r it has = by_states A number r (record_at changes number) (list_at changes number) refl refl it.none has

  -- a record that is there after the changes was there before them
  back : (number : ℕ) (r : DatasetRecord) → HasRecord (changed made objects number) r → HasRecordNow objects changes number r
  back number r has = elim (free_or_not (pool.datasets number).kind) [
    | inl free ↦ no_record (HasRecordNow objects changes number r) number r (chains.none number free) has
    | inr some ↦
        let it = chains.each number some in
        subst (HasRecordNow objects changes number) (record_once (changed made objects number) it.r r (gives.records number it.r it.has) has) it.has
  ]

  pub leaves : HasChains known group (λ number. changed made objects number) pool readings
  leaves = record {
    sound = chains.sound;
    now = chains.now;
    each = λ number some. let it = chains.each number some in record {
      behind = it.behind;
      r = it.r;
      has = gives.records number it.r it.has;
      is = it.is;
      clones = it.clones;
      leads = it.leads;
      list_behind = it.list_behind;
      dead = gives.lists it.r.dead_list (pool.datasets number).dead it.dead;
    };
    none = λ number free. let it = chains.none number free in record {
      is = it.is;
      none = λ r has. no_record ⊥ number r it has;
    };
    apart = λ number other r s one two same. chains.apart number other r s (back number r one) (back other s two) same;
  }
