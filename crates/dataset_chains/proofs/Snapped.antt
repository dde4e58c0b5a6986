-- What becomes of chains where a snapshot is taken.
use Rattle.std.proofs.Common.{◌≡◌, ◌≢◌, ◌⊎◌, ◌==◌, if◌then◌else◌, ℕ, [], Option, Some, inl, inr, refl, sym, ap, subst, ◌∙◌}
use Rattle.std.proofs.lemmas.Bool.{cases_eq}
use Rattle.block_store.specs.Blocks.{Contents}
use Rattle.dataset_changes.specs.Over.{AreOver, HasListNow, HasRecordNow, IsListNow}
use Rattle.dataset_changes.specs.States.{HasListPut, HasRecordPut, HaveSameLists, HaveSameRecords, list_at, record_at, with_record}
use Rattle.dataset_changes.specs.declared.changes.DatasetChanges.{DatasetChanges}
use Rattle.dataset_changes.specs.declared.states.ListState.TheVariants as lists
use Rattle.dataset_changes.specs.declared.states.RecordState.TheVariants as records
use Rattle.dead_list.specs.Datasets.{Free, Head, Dataset, Pool, updated}
use Rattle.dead_list.specs.Datasets.{Snapshot as ASnapshot}
use Rattle.dead_list.specs.Operations.{IsHead, IsUnused, TakeSnapshot, with_snapshot}
use Rattle.dead_list.proofs.Steps.{stays_sound}
use Rattle.dead_list.proofs.Updates.{same_at, other_at}
use Rattle.meta_objset.specs.declared.record.DatasetKind.TheVariants.{Volume, Snapshot}
use Rattle.meta_objset.specs.declared.record.DatasetRecord.{DatasetRecord}
use Rattle.objset.specs.Objects.{Object}
use Rattle.dataset_chains.specs.Chains.{HasCloneCount, HasDataset, HasNoDataset, LeadsTo, Reading, SpellsChains, kind_of}
use Rattle.dataset_chains.specs.Passing.{IsNextPassed, IsRecordAlone, passed_to}
use Rattle.dataset_chains.proofs.Chained.{alone_on}
use Rattle.dataset_chains.proofs.Frames.{stays}
use Rattle.dataset_chains.proofs.NextPassed as chain
use Rattle.dataset_chains.proofs.ReadRecords.{IsRead, before_there, head_read}
use Rattle.dataset_chains.proofs.RecordsNow.{made_alone, put_alone, record_stays, record_was}
use Rattle.dataset_chains.proofs.Unused as free

-- whose record had the dead list before: of the new dataset the head, else the same one
record IsOwned (objects : ℕ → Option Object) (old : DatasetChanges) (h n m : ℕ) (r : DatasetRecord) : Type 0 where
  owner : ℕ
  s : DatasetRecord
  there : HasRecordNow objects old owner s
  same : r.dead_list ≡ s.dead_list
  which : ((m ≡ n) × (owner ≡ h)) ⊎ ((m ≢ n) × (owner ≡ m))

module _ (known : Contents) (group : ℕ) (objects : ℕ → Option Object) (old : DatasetChanges) (pool : Pool) (readings : ℕ → Reading)
    (spells : SpellsChains known group objects old pool readings) (h n list : ℕ) (found : DatasetRecord) (alone : IsRecordAlone objects old h found)
    (kind_is : found.kind ≡ Volume) (head : IsHead pool.datasets h) (unused : IsUnused pool.datasets n) (fresh : free.IsNewList objects old n list) where
  abbrev before : ℕ
  before = (pool.datasets h).before

  abbrev is : Pool
  is = with_snapshot pool h n

  abbrev reads : ℕ → Reading
  reads = updated readings n (readings h)

  -- the record of the snapshot, and that of the head after it
  abbrev pub record_taken : DatasetRecord
  record_taken = record found { kind = Snapshot; created = group; next = h; clones = 0 }

  abbrev pub record_behind : DatasetRecord
  record_behind = record found { previous = n; dead_list = list }

  it : IsRead known group objects old pool readings h found
  it = head_read known group objects pool readings old h found spells alone head

  apart : n ≢ h
  apart = chain.apart pool spells.sound h n head unused

  before_h : before ≢ h
  before_h = chain.none_behind_h pool spells.sound h n head unused h

  before_n : before ≢ n
  before_n = chain.none_behind_n pool spells.sound h n head unused h

  at_n : is.datasets n ≡ chain.taken pool spells.sound h n head unused
  at_n = chain.at_n pool spells.sound h n head unused

  at_h : is.datasets h ≡ chain.behind pool spells.sound h n head unused
  at_h = chain.at_h pool spells.sound h n head unused

  at_other : (m : ℕ) → m ≢ h → m ≢ n → is.datasets m ≡ pool.datasets m
  at_other = chain.at_other pool spells.sound h n head unused

  unnamed : (m : ℕ) (r : DatasetRecord) → HasRecordNow objects old m r → r.dead_list ≢ list
  unnamed = free.unnamed known group objects old pool readings spells n list unused fresh

  leads : LeadsTo known group found (pool.datasets h).blocks (readings h)
  leads = subst (λ (r : DatasetRecord). LeadsTo known group r (pool.datasets h).blocks (readings h)) it.is it.has.leads

  -- the head's record is what it was while the others are put
  pub head_kept : (mid made : DatasetChanges) → IsNextPassed objects old mid before h n → HasRecordPut mid n (Some (records.Made record_taken)) made → HasRecordNow objects made h found
  head_kept mid made passed record_made =
      record_stays objects old made h found (record_made.1 h (λ e. apart (sym e)) ∙ passed.others h (λ e. absurd (before_h (sym e)))) ((alone found).1 refl)

  module _ (mid made put new : DatasetChanges) (passed : IsNextPassed objects old mid before h n) (record_made : HasRecordPut mid n (Some (records.Made record_taken)) made)
      (record_put : HasRecordPut made h (Some (with_record (record_at made h) record_behind)) put) (same : HaveSameRecords put new)
      (first : HaveSameLists old mid) (second : HaveSameLists mid made) (third : HaveSameLists made put) (list_made : HasListPut put list (Some (lists.Made [])) new) (over : AreOver objects new) where
    after_passing : (m : ℕ) → m ≢ h → m ≢ n → record_at new m ≡ record_at mid m
    after_passing m nh nn = same m ∙ record_put.1 m nh ∙ record_made.1 m nn

    unchanged : (m : ℕ) → m ≢ h → m ≢ n → (m ≡ before → before ≡ 0) → record_at new m ≡ record_at old m
    unchanged m nh nn other = after_passing m nh nn ∙ passed.others m other

    other_lists : (k : ℕ) → k ≢ list → list_at new k ≡ list_at old k
    other_lists k ne = list_made.1 k ne ∙ third k ∙ second k ∙ first k

    alone_h : IsRecordAlone objects new h record_behind
    alone_h = alone_on objects put new h record_behind (same h) (put_alone objects made put h record_behind record_put)

    alone_n : IsRecordAlone objects new n record_taken
    alone_n = made_alone objects old new n record_taken (same n ∙ record_put.1 n apart ∙ record_made.0)

    alone_before : (some : before ≢ 0) → IsRecordAlone objects new before (passed_to (passed.r some) h n)
    alone_before some = alone_on objects mid new before (passed_to (passed.r some) h n) (after_passing before before_h before_n) (passed.is some)

    has_h : HasDataset known group objects new is reads h
    has_h = record {
      behind = it.has.behind;
      r = record_behind;
      has = (alone_h record_behind).1 refl;
      is = record {
        kind = ap (λ (x : Dataset). x.kind) at_h ∙ it.has.is.kind ∙ ap (λ (r : DatasetRecord). kind_of r.kind) it.is;
        created = ap (λ (x : Dataset). x.group) at_h ∙ it.has.is.created ∙ ap (λ (r : DatasetRecord). r.created) it.is;
        previous = ap (λ (x : Dataset). x.before) at_h;
        next = λ e. let clash : Volume ≡ Snapshot = sym kind_is ∙ e in absurd (cc);
      };
      clones = chain.count_beside pool spells.sound h n head unused h found.clones (chain.some_head pool spells.sound h n head unused) (λ e. apart (sym e)) (λ e. before_h (sym e))
          (subst (λ (r : DatasetRecord). HasCloneCount pool h r.clones) it.is it.has.clones);
      leads = subst (λ (x : Dataset). LeadsTo known group record_behind x.blocks (reads h)) (sym at_h)
          (subst (λ (reading : Reading). LeadsTo known group record_behind (pool.datasets h).blocks reading) (sym (other_at readings n (readings h) h (λ e. apart (sym e))))
          (record { size = leads.size; block_size = leads.block_size; bytes = leads.bytes; blocks_are = leads.blocks_are }));
      list_behind = fresh.list_is;
      dead = subst (λ (x : Dataset). HasListNow objects new list x.dead) (sym at_h) (free.made_empty objects new list list_made.0);
    }

    has_n : HasDataset known group objects new is reads n
    has_n = record {
      behind = fresh.number_is;
      r = record_taken;
      has = (alone_n record_taken).1 refl;
      is = record {
        kind = ap (λ (x : Dataset). x.kind) at_n;
        created = ap (λ (x : Dataset). x.group) at_n ∙ spells.now;
        previous = ap (λ (x : Dataset). x.before) at_n ∙ it.before;
        next = λ e. chain.next_n pool spells.sound h n head unused;
      };
      clones = chain.count_new pool spells.sound h n head unused;
      leads = subst (λ (x : Dataset). LeadsTo known group record_taken x.blocks (reads n)) (sym at_n)
          (subst (λ (reading : Reading). LeadsTo known group record_taken (pool.datasets h).blocks reading) (sym (same_at readings n (readings h)))
          (record { size = leads.size; block_size = leads.block_size; bytes = leads.bytes; blocks_are = leads.blocks_are }));
      list_behind = it.list_behind;
      dead = subst (λ (x : Dataset). HasListNow objects new found.dead_list x.dead) (sym at_n)
          (subst (λ state. IsListNow (objects found.dead_list) state (pool.datasets h).dead) (sym (other_lists found.dead_list (unnamed h found ((alone found).1 refl)))) it.dead);
    }

    has_before : (some : before ≢ 0) → HasDataset known group objects new is reads before
    has_before some =
        let has = before_there known group objects pool readings old spells h before refl some in
        let r_is : has.r ≡ passed.r some = (passed.was some has.r).0 has.has in
        stays known known group objects old new pool is readings reads before (if has.r.next == h then n else has.r.next) has.r.clones (λ block bytes there. there) has
        ((alone_before some (passed_to has.r h n)).1 (ap (λ (r : DatasetRecord). passed_to r h n) r_is))
        (other_lists has.r.dead_list (unnamed before has.r has.has))
        (at_other before before_h before_n) (other_at readings n (readings h) before before_n)
        (λ e. chain.next_before pool spells.sound h n head unused ∙ ap (λ (k : ℕ). if k == h then n else k) (has.is.next e))
        (chain.count_before pool spells.sound h n head unused some has.r.clones has.clones)

    has_other : (m : ℕ) → m ≢ h → m ≢ n → m ≢ before → (pool.datasets m).kind ≢ Free → HasDataset known group objects new is reads m
    has_other m nh nn nb kind =
        let has = spells.each m kind in
        stays known known group objects old new pool is readings reads m has.r.next has.r.clones (λ block bytes there. there) has
        (record_stays objects old new m has.r (unchanged m nh nn (λ e. absurd (nb e))) has.has) (other_lists has.r.dead_list (unnamed m has.r has.has))
        (at_other m nh nn) (other_at readings n (readings h) m nn) (λ e. chain.next_other pool spells.sound h n head unused m nn nb ∙ has.is.next e)
        (chain.count_beside pool spells.sound h n head unused m has.r.clones (free.some_number known group objects old pool readings spells m kind) nn nb has.clones)

    each : (m : ℕ) → (is.datasets m).kind ≢ Free → HasDataset known group objects new is reads m
    each m kind = elim (cases_eq m h) [
      | inl e ↦ subst (HasDataset known group objects new is reads) (sym e) has_h
      | inr nh ↦ elim (cases_eq m n) [
        | inl e ↦ subst (HasDataset known group objects new is reads) (sym e) has_n
        | inr nn ↦
            let was : (pool.datasets m).kind ≢ Free = λ free. kind (ap (λ (x : Dataset). x.kind) (at_other m nh nn) ∙ free) in
            elim (cases_eq m before) [
              | inl e ↦ subst (HasDataset known group objects new is reads) (sym e)
                  (has_before (λ zero. free.some_number known group objects old pool readings spells m was (e ∙ zero)))
              | inr nb ↦ has_other m nh nn nb was
            ]
      ]
    ]

    owned : (m : ℕ) (r : DatasetRecord) → m ≢ h → HasRecordNow objects new m r → IsOwned objects old h n m r
    owned m r nh there = elim (cases_eq m n) [
      | inl e ↦
          let is_taken : r ≡ record_taken = (alone_n r).0 (subst (λ (k : ℕ). HasRecordNow objects new k r) e there) in
          record { owner = h; s = found; there = (alone found).1 refl; same = ap (λ (x : DatasetRecord). x.dead_list) is_taken; which = inl (e, refl) }
      | inr nn ↦ elim (cases_eq before 0) [
        | inl zero ↦ record { owner = m; s = r; there = record_was objects old new m r (unchanged m nh nn (λ e. zero)) there; same = refl; which = inr (nn, refl) }
        | inr some ↦ elim (cases_eq m before) [
          | inl e ↦
              let is_passed : r ≡ passed_to (passed.r some) h n = (alone_before some r).0 (subst (λ (k : ℕ). HasRecordNow objects new k r) e there) in
              record {
                owner = m;
                s = passed.r some;
                there = subst (λ (k : ℕ). HasRecordNow objects old k (passed.r some)) (sym e) ((passed.was some (passed.r some)).1 refl);
                same = ap (λ (x : DatasetRecord). x.dead_list) is_passed;
                which = inr (nn, refl);
              }
          | inr nb ↦ record { owner = m; s = r; there = record_was objects old new m r (unchanged m nh nn (λ e. absurd (nb e))) there; same = refl; which = inr (nn, refl) }
        ]
      ]
    ]

    one_owner : (m k : ℕ) (a b : DatasetRecord) → m ≢ h → k ≢ h → (one : IsOwned objects old h n m a) → (two : IsOwned objects old h n k b) → one.owner ≡ two.owner → m ≡ k
    one_owner m k a b mh kh one two e = elim one.which [
      | inl new ↦ elim two.which [
        | inl also ↦ new.0 ∙ sym also.0
        | inr other ↦ absurd (kh (sym other.1 ∙ sym e ∙ new.1))
      ]
      | inr was ↦ elim two.which [
        | inl new ↦ absurd (mh (sym was.1 ∙ e ∙ new.1))
        | inr other ↦ sym was.1 ∙ e ∙ other.1
      ]
    ]

    new_list : (m : ℕ) (r : DatasetRecord) → m ≡ h → HasRecordNow objects new m r → r.dead_list ≡ list
    new_list m r e there = ap (λ (x : DatasetRecord). x.dead_list) ((alone_h r).0 (subst (λ (k : ℕ). HasRecordNow objects new k r) e there))

    other_list : (m : ℕ) (r : DatasetRecord) → m ≢ h → HasRecordNow objects new m r → r.dead_list ≢ list
    other_list m r nh there e = let o = owned m r nh there in unnamed o.owner o.s o.there (sym o.same ∙ e)

    apart_lists : (m k : ℕ) (a b : DatasetRecord) → HasRecordNow objects new m a → HasRecordNow objects new k b → a.dead_list ≡ b.dead_list → m ≡ k
    apart_lists m k a b one two e = elim (cases_eq m h) [
      | inl mh ↦ elim (cases_eq k h) [
        | inl kh ↦ mh ∙ sym kh
        | inr nk ↦ absurd (other_list k b nk two (sym e ∙ new_list m a mh one))
      ]
      | inr nm ↦ elim (cases_eq k h) [
        | inl kh ↦ absurd (other_list m a nm one (e ∙ new_list k b kh two))
        | inr nk ↦
            let x = owned m a nm one in
            let y = owned k b nk two in
            one_owner m k a b nm nk x y (spells.apart x.owner y.owner x.s y.s x.there y.there (sym x.same ∙ e ∙ y.same))
      ]
    ]

    none : (m : ℕ) → (is.datasets m).kind ≡ Free → HasNoDataset objects new is m
    none m kind =
        let nh : m ≢ h = λ e. let clash : Head ≡ Free = sym head ∙ sym (ap (λ (x : Dataset). x.kind) at_h) ∙ sym (ap (λ (k : ℕ). (is.datasets k).kind) e) ∙ kind in cc in
        let nn : m ≢ n = λ e. let clash : ASnapshot ≡ Free = sym (ap (λ (x : Dataset). x.kind) at_n) ∙ sym (ap (λ (k : ℕ). (is.datasets k).kind) e) ∙ kind in cc in
        let free = spells.none m (sym (ap (λ (x : Dataset). x.kind) (at_other m nh nn)) ∙ kind) in
        record {
          is = at_other m nh nn ∙ free.is;
          none = λ r there.
              let o = owned m r nh there in
              elim o.which [
                | inl new ↦ nn new.0
                | inr was ↦ free.none o.s (subst (λ (k : ℕ). HasRecordNow objects old k o.s) was.1 o.there)
              ];
        }

    pub snapped : SpellsChains known group objects new (with_snapshot pool h n) (updated readings n (readings h))
    snapped = record {
      over = over;
      sound = stays_sound pool is (TakeSnapshot h n) [] spells.sound (head, unused) (refl, refl);
      now = spells.now;
      each = each;
      none = none;
      apart = apart_lists;
    }
