-- Chains stay what they are.
use Rattle.std.proofs.Common.{◌≡◌, ◌≢◌, ℕ, suc, List, [], ◌++◌, Option, Some, None, inl, inr, refl, sym, ap, subst, ◌∙◌, arith}
use Rattle.std.proofs.lemmas.List.Sorted.{IsPermutation-refl}
use Rattle.block_pointer.specs.declared.block.Block.{Block}
use Rattle.block_store.specs.Blocks.{Contents, Extends}
use Rattle.dataset_changes.specs.Over.{HasListNow, HasRecordNow, IsListNow, IsListOver, IsRecordNow, IsRecordOver}
use Rattle.dataset_changes.specs.Results.{Gives}
use Rattle.dataset_changes.specs.States.{AreUntouched, list_at, record_at}
use Rattle.dataset_changes.specs.declared.changes.DatasetChanges.{DatasetChanges}
use Rattle.dataset_changes.specs.declared.states.ListState.{ListState}
use Rattle.dataset_changes.specs.declared.states.ListState.TheVariants as lists
use Rattle.dataset_changes.specs.declared.states.RecordState.{RecordState}
use Rattle.dataset_changes.specs.declared.states.RecordState.TheVariants as records
use Rattle.dead_list.specs.Datasets.{Free, Pool}
use Rattle.dead_list.specs.Operations.{NextGroup}
use Rattle.dead_list.proofs.Steps.{stays_sound}
use Rattle.dataset_changes.specs.Lists.{HasDeadList}
use Rattle.meta_objset.specs.Datasets.{HasRecord}
use Rattle.meta_objset.specs.declared.record.DatasetRecord.{DatasetRecord}
use Rattle.objset.specs.Changes.{changed}
use Rattle.objset.specs.Objects.{Object}
use Rattle.objset.specs.declared.changes.ObjectChange.{ObjectChange}
use Rattle.dataset_chains.specs.Chains.{Reading, SpellsChains}
use Rattle.dataset_chains.specs.Laws.{ChainsStay}
use Rattle.dataset_chains.proofs.Counting.{count_stays}
use Rattle.dataset_chains.proofs.Frames.{leads_stay, stays}
use Rattle.dataset_chains.proofs.OneRecord.{one_record}

more_known : (known later : Contents) (group : ℕ) (objects : ℕ → Option Object) (changes : DatasetChanges) (pool : Pool) (readings : ℕ → Reading)
    → Extends known later → SpellsChains known group objects changes pool readings → SpellsChains later group objects changes pool readings
more_known known later group objects changes pool readings more spells = record {
  over = spells.over;
  sound = spells.sound;
  now = spells.now;
  each = λ m kind.
      let has = spells.each m kind in
      stays known later group objects changes changes pool pool readings readings m has.r.next has.r.clones more has has.has refl refl refl has.is.next has.clones;
  none = spells.none;
  apart = spells.apart;
}

next_group : (known : Contents) (group : ℕ) (objects : ℕ → Option Object) (changes : DatasetChanges) (pool : Pool) (readings : ℕ → Reading)
    → SpellsChains known group objects changes pool readings → SpellsChains known (suc group) objects changes (record pool { group = suc pool.group }) readings
next_group known group objects changes pool readings spells =
    let is : Pool = record pool { group = suc pool.group } in
    record {
      over = spells.over;
      sound = stays_sound pool is NextGroup [] spells.sound tt (refl, refl);
      now = ap suc spells.now;
      each = λ m kind.
          let has = spells.each m kind in
          record {
            behind = has.behind;
            r = has.r;
            has = has.has;
            is = record { kind = has.is.kind; created = has.is.created; previous = has.is.previous; next = has.is.next };
            clones = count_stays pool is m has.r.clones (λ k. (λ there. there, λ there. there)) has.clones;
            leads = leads_stay known known group (suc group) has.r (pool.datasets m).blocks (readings m) (omega arith) (λ block bytes there. there) has.leads;
            list_behind = has.list_behind;
            dead = has.dead;
          };
      none = λ m kind. record { is = (spells.none m kind).is; none = (spells.none m kind).none };
      apart = spells.apart;
    }

-- an object has no record where it has a dead list
not_both : (object : Option Object) (r : DatasetRecord) (list : List Block) → HasRecord object r → HasDeadList object list → ⊥
not_both object r list record_is list_is =
    let same : record_is.there ≡ list_is.1.there = let e : Some record_is.there ≡ Some list_is.1.there = sym record_is.is ∙ list_is.1.is in cc in
    let type_is = ap (λ (o : Object). o.object_type) same in
    let one = record_is.of_record.object_type in
    let two = list_is.1.of_kind.0 in
    omega (arith, type_is, one, two)

not_there : (object : Option Object) (r : DatasetRecord) → object ≡ None → HasRecord object r → ⊥
not_there object r none has = let clash : Some has.there ≡ None = sym has.is ∙ none in cc

-- a list that was read or changed and isn't gone is some list now
list_there : (object : Option Object) (state : ListState) → IsListOver object (Some state) → state ≢ lists.Gone → (list : List Block) × IsListNow object (Some state) list
list_there object (lists.Added end blocks) over not = (over.1 ++ blocks, (over.0, over.1, over.2, over.3, IsPermutation-refl (over.1 ++ blocks)))
list_there object (lists.Whole list) over not = (list, IsPermutation-refl list)
list_there object (lists.Made list) over not = (list, IsPermutation-refl list)
list_there object lists.Gone over not = absurd (not refl)

module _ (known : Contents) (group : ℕ) (objects : ℕ → Option Object) (changes untouched : DatasetChanges) (made : List ObjectChange) (pool : Pool) (readings : ℕ → Reading)
    (gives : Gives changes made objects) (none : AreUntouched untouched) (spells : SpellsChains known group objects changes pool readings) where
  abbrev after : ℕ → Option Object
  after = changed made objects

  record_here : (m : ℕ) (r : DatasetRecord) → HasRecordNow after untouched m r → HasRecord (after m) r
  record_here m r there = subst (λ (state : Option RecordState). IsRecordNow (after m) state r) (none m).0 there

  record_now : (m : ℕ) (r : DatasetRecord) → HasRecordNow objects changes m r → HasRecordNow after untouched m r
  record_now m r there = subst (λ (state : Option RecordState). IsRecordNow (after m) state r) (sym (none m).0) (gives.records m r there)

  list_now : (m : ℕ) (list : List Block) → HasListNow objects changes m list → HasListNow after untouched m list
  list_now m list there = subst (λ (state : Option ListState). IsListNow (after m) state list) (sym (none m).1) (gives.lists m list there)

  listed : (m : ℕ) (state : ListState) (r : DatasetRecord) → list_at changes m ≡ Some state → state ≢ lists.Gone → HasRecord (after m) r → ⊥
  listed m state r e not has =
      let it = list_there (objects m) state (subst (IsListOver (objects m)) e (spells.over.lists m)) not in
      not_both (after m) r it.0 has (gives.lists m it.0 (subst (λ (state : Option ListState). IsListNow (objects m) state it.0) (sym e) it.1))

  -- where the list at a number was read or changed no record comes of it
  no_record_of : (m : ℕ) (state : ListState) (r : DatasetRecord) → list_at changes m ≡ Some state → HasRecord (after m) r → ⊥
  no_record_of m lists.Gone r e has = not_there (after m) r (gives.gone m (inr e)) has
  no_record_of m (lists.Whole list) r e has = listed m (lists.Whole list) r e (λ clash. cc) has
  no_record_of m (lists.Made list) r e has = listed m (lists.Made list) r e (λ clash. cc) has
  no_record_of m (lists.Added end blocks) r e has = listed m (lists.Added end blocks) r e (λ clash. cc) has

  no_record : (m : ℕ) (state : Option RecordState) (list : Option ListState) (r : DatasetRecord) → (pool.datasets m).kind ≡ Free → record_at changes m ≡ state → list_at changes m ≡ list
      → HasRecord (after m) r → ⊥
  no_record m None None r free e f has =
      (spells.none m free).none r
      (subst (λ (state : Option RecordState). IsRecordNow (objects m) state r) (sym e) (subst (λ (object : Option Object). HasRecord object r) (gives.others m e f) has))
  no_record m None (Some state) r free e f has = no_record_of m state r f has
  no_record m (Some (records.Read one)) list r free e f has = (spells.none m free).none one (subst (λ (state : Option RecordState). IsRecordNow (objects m) state one) (sym e) refl)
  no_record m (Some (records.Changed one)) list r free e f has = (spells.none m free).none one (subst (λ (state : Option RecordState). IsRecordNow (objects m) state one) (sym e) refl)
  no_record m (Some (records.Made one)) list r free e f has = (spells.none m free).none one (subst (λ (state : Option RecordState). IsRecordNow (objects m) state one) (sym e) refl)
  no_record m (Some records.Gone) list r free e f has = not_there (after m) r (gives.gone m (inl e)) has

  there : (m : ℕ) (r : DatasetRecord) → HasRecordNow after untouched m r → (pool.datasets m).kind ≢ Free
  there m r now free = no_record m (record_at changes m) (list_at changes m) r free refl refl (record_here m r now)

  same_list : (m : ℕ) (r : DatasetRecord) → HasRecordNow after untouched m r → (s : DatasetRecord) × HasRecordNow objects changes m s × (r.dead_list ≡ s.dead_list)
  same_list m r now = let has = spells.each m (there m r now) in (has.r, has.has, ap (λ (t : DatasetRecord). t.dead_list) (one_record (after m) r has.r (record_here m r now) (gives.records m has.r has.has)))

  made_spells : SpellsChains known group after untouched pool readings
  made_spells = record {
    over = record { records = λ m. subst (IsRecordOver (after m)) (sym (none m).0) tt; lists = λ m. subst (IsListOver (after m)) (sym (none m).1) tt };
    sound = spells.sound;
    now = spells.now;
    each = λ m kind.
        let has = spells.each m kind in
        record {
          behind = has.behind;
          r = has.r;
          has = record_now m has.r has.has;
          is = has.is;
          clones = has.clones;
          leads = has.leads;
          list_behind = has.list_behind;
          dead = list_now has.r.dead_list (pool.datasets m).dead has.dead;
        };
    none = λ m free. record { is = (spells.none m free).is; none = λ r now. there m r now free };
    apart = λ m k r s one two e. let a = same_list m r one in let b = same_list k s two in spells.apart m k a.0 b.0 a.1 b.1 (sym a.2 ∙ e ∙ b.2);
  }

pub chains_stay : ChainsStay
chains_stay = record { more = more_known; next = next_group; made = made_spells }
