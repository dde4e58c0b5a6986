-- What becomes of chains where a volume or a clone is made.
use Rattle.std.proofs.Common.{◌≡◌, ◌≢◌, ◌↔◌, ℕ, [], Option, Some, inl, inr, refl, sym, ap, subst, ◌∙◌}
use Rattle.std.proofs.lemmas.Bool.{cases_eq}
use Rattle.block_store.specs.Blocks.{Contents}
use Rattle.dataset_changes.specs.Over.{AreOver, HasListNow, HasRecordNow}
use Rattle.dataset_changes.specs.States.{IsNumber, list_at, record_at}
use Rattle.dataset_changes.specs.declared.changes.DatasetChanges.{DatasetChanges}
use Rattle.dataset_changes.specs.declared.states.ListState.TheVariants as lists
use Rattle.dead_list.specs.Datasets.{Free, Head, Dataset, Pool, updated}
use Rattle.dead_list.specs.Operations.{IsUnused, with_dataset}
use Rattle.dead_list.specs.Sound.{IsSound}
use Rattle.dead_list.proofs.Updates.{same_at, other_at, at_each}
use Rattle.meta_objset.specs.declared.record.DatasetKind.TheVariants.{Volume, Snapshot}
use Rattle.meta_objset.specs.declared.record.DatasetRecord.{DatasetRecord}
use Rattle.objset.specs.Objects.{Object}
use Rattle.dataset_chains.specs.Chains.{HasCloneCount, HasDataset, HasNoDataset, LeadsTo, Reading, SpellsChains, kind_of}
use Rattle.dataset_chains.specs.Passing.{IsRecordAlone}
use Rattle.dataset_chains.proofs.Counting.{IsCloneOf, count_none, count_stays}
use Rattle.dataset_chains.proofs.Frames.{stays}
use Rattle.dataset_chains.proofs.RecordsNow.{record_stays, record_was}
use Rattle.dataset_chains.proofs.Unused as free

-- the record is that of a head, with an empty dead list at this number
pub record IsHeadFor (known : Contents) (group n list : ℕ) (d : Dataset) (r : DatasetRecord) (reading : Reading) : Type 0 where
  pub kind : d.kind ≡ Head
  pub is : r.kind ≡ Volume
  pub created : d.group ≡ r.created
  pub previous : d.before ≡ r.previous
  pub dead : d.dead ≡ []
  pub clones : r.clones ≡ 0
  pub list_is : r.dead_list ≡ list
  pub behind : d.before ≢ n
  pub leads : LeadsTo known group r d.blocks reading

-- some record before had the same dead list
abbrev pub WasListed : (ℕ → Option Object) → DatasetChanges → ℕ → DatasetRecord → Type 0
WasListed objects old m r = (s : DatasetRecord) × HasRecordNow objects old m s × (r.dead_list ≡ s.dead_list)

module _ (known : Contents) (group : ℕ) (objects : ℕ → Option Object) (old : DatasetChanges) (pool : Pool) (readings : ℕ → Reading)
    (spells : SpellsChains known group objects old pool readings) (n list : ℕ) (unused : IsUnused pool.datasets n) (fresh : free.IsNewList objects old n list)
    (new : DatasetChanges) (d : Dataset) (r : DatasetRecord) (reading : Reading) (head : IsHeadFor known group n list d r reading) where
  abbrev pub is : Pool
  is = with_dataset pool n d

  abbrev pub reads : ℕ → Reading
  reads = updated readings n reading

  at_n : is.datasets n ≡ d
  at_n = same_at pool.datasets n d

  none_behind : (m : ℕ) → (pool.datasets m).before ≢ n
  none_behind = free.none_behind known group objects old pool readings spells n list unused fresh

  no_clones : (m : ℕ) → ¬ IsCloneOf is n m
  no_clones m there = at_each pool.datasets n d (λ k x. x.before ≢ n) head.behind (λ k ne. none_behind k) m there.0

  -- the clones of what isn't before the new one are the same
  pub other_clones : (m : ℕ) → m ≢ 0 → d.before ≢ m → (k : ℕ) → IsCloneOf is m k ↔ IsCloneOf pool m k
  other_clones m some apart k = elim (cases_eq k n) [
    | inl e ↦
        let was : (pool.datasets k).before ≡ 0 = ap (λ (j : ℕ). (pool.datasets j).before) e ∙ ap (λ (x : Dataset). x.before) unused.1 in
        let now : (is.datasets k).before ≡ d.before = ap (λ (j : ℕ). (is.datasets j).before) e ∙ ap (λ (x : Dataset). x.before) at_n in
        (λ there. absurd (apart (sym now ∙ there.0)), λ there. absurd (some (sym there.0 ∙ was)))
    | inr ne ↦
        let same : (is.datasets k).before ≡ (pool.datasets k).before = ap (λ (x : Dataset). x.before) (other_at pool.datasets n d k ne) in
        (λ there. (sym same ∙ there.0, there.1), λ there. (same ∙ there.0, there.1))
  ]

  module _ (record_is : IsRecordAlone objects new n r) (list_made : list_at new list ≡ Some (lists.Made [])) where
    has_new : HasDataset known group objects new is reads n
    has_new = record {
      behind = fresh.number_is;
      r = r;
      has = (record_is r).1 refl;
      is = record {
        kind = ap (λ (x : Dataset). x.kind) at_n ∙ head.kind ∙ sym (ap kind_of head.is);
        created = ap (λ (x : Dataset). x.group) at_n ∙ head.created;
        previous = ap (λ (x : Dataset). x.before) at_n ∙ head.previous;
        next = λ e. let clash : Volume ≡ Snapshot = sym head.is ∙ e in absurd (cc);
      };
      clones = subst (λ (count : ℕ). HasCloneCount is n count) (sym head.clones) (count_none is n no_clones);
      leads = subst (λ (x : Dataset). LeadsTo known group r x.blocks (reads n)) (sym at_n)
          (subst (λ (reading : Reading). LeadsTo known group r d.blocks reading) (sym (same_at readings n reading)) head.leads);
      list_behind = subst IsNumber (sym head.list_is) fresh.list_is;
      dead = subst (λ (x : Dataset). HasListNow objects new r.dead_list x.dead) (sym at_n)
          (subst (HasListNow objects new r.dead_list) (sym head.dead) (subst (λ (k : ℕ). HasListNow objects new k []) (sym head.list_is) (free.made_empty objects new list list_made)));
    }

    module _ (over : AreOver objects new) (sound : IsSound is)
        (records : (m : ℕ) → m ≢ n → (m ≡ d.before → d.before ≡ 0) → record_at new m ≡ record_at old m)
        (lists : (k : ℕ) → k ≢ list → list_at new k ≡ list_at old k)
        (origin : d.before ≢ 0 → (pool.datasets d.before).kind ≢ Free → HasDataset known group objects new is reads d.before)
        (origin_was : d.before ≢ 0 → (s : DatasetRecord) → HasRecordNow objects new d.before s → WasListed objects old d.before s) where
      beside : (m : ℕ) → m ≢ n → d.before ≢ m → (pool.datasets m).kind ≢ Free → HasDataset known group objects new is reads m
      beside m ne apart kind =
          let has = spells.each m kind in
          stays known known group objects old new pool is readings reads m has.r.next has.r.clones (λ block bytes there. there) has
          (record_stays objects old new m has.r (records m ne (λ e. absurd (apart (sym e)))) has.has)
          (lists has.r.dead_list (free.unnamed known group objects old pool readings spells n list unused fresh m has.r has.has))
          (other_at pool.datasets n d m ne) (other_at readings n reading m ne) has.is.next
          (count_stays pool is m has.r.clones (other_clones m (free.some_number known group objects old pool readings spells m kind) apart) has.clones)

      others : (m : ℕ) → m ≢ n → (pool.datasets m).kind ≢ Free → HasDataset known group objects new is reads m
      others m ne kind = elim (cases_eq d.before m) [
        | inl e ↦ subst (HasDataset known group objects new is reads) e
            (origin (λ zero. free.some_number known group objects old pool readings spells m kind (sym e ∙ zero)) (subst (λ (k : ℕ). (pool.datasets k).kind ≢ Free) (sym e) kind))
        | inr apart ↦ beside m ne apart kind
      ]

      unchanged : (m : ℕ) (s : DatasetRecord) → record_at new m ≡ record_at old m → HasRecordNow objects new m s → WasListed objects old m s
      unchanged m s e there = (s, record_was objects old new m s e there, refl)

      was : (m : ℕ) (s : DatasetRecord) → m ≢ n → HasRecordNow objects new m s → WasListed objects old m s
      was m s ne there = elim (cases_eq d.before m) [
        | inl e ↦ elim (cases_eq d.before 0) [
          | inl zero ↦ unchanged m s (records m ne (λ _. zero)) there
          | inr some ↦ subst (λ (k : ℕ). WasListed objects old k s) e (origin_was some s (subst (λ (k : ℕ). HasRecordNow objects new k s) (sym e) there))
        ]
        | inr apart ↦ unchanged m s (records m ne (λ e. absurd (apart (sym e)))) there
      ]

      none : (m : ℕ) → (is.datasets m).kind ≡ Free → HasNoDataset objects new is m
      none m kind = elim (cases_eq m n) [
        | inl e ↦ let clash : Head ≡ Free = sym head.kind ∙ sym (ap (λ (x : Dataset). x.kind) at_n) ∙ sym (ap (λ (k : ℕ). (is.datasets k).kind) e) ∙ kind in absurd (cc)
        | inr ne ↦
            let same = other_at pool.datasets n d m ne in
            let free = spells.none m (sym (ap (λ (x : Dataset). x.kind) same) ∙ kind) in
            record { is = same ∙ free.is; none = λ s there. let w = was m s ne there in free.none w.0 w.1 }
      ]

      new_list : (s : DatasetRecord) (m : ℕ) → m ≡ n → HasRecordNow objects new m s → s.dead_list ≡ list
      new_list s m e there = ap (λ (x : DatasetRecord). x.dead_list) ((record_is s).0 (subst (λ (k : ℕ). HasRecordNow objects new k s) e there)) ∙ head.list_is

      other_list : (s : DatasetRecord) (m : ℕ) → m ≢ n → HasRecordNow objects new m s → s.dead_list ≢ list
      other_list s m ne there e = let w = was m s ne there in free.unnamed known group objects old pool readings spells n list unused fresh m w.0 w.1 (sym w.2 ∙ e)

      apart : (m k : ℕ) (a b : DatasetRecord) → HasRecordNow objects new m a → HasRecordNow objects new k b → a.dead_list ≡ b.dead_list → m ≡ k
      apart m k a b one two e = elim (cases_eq m n) [
        | inl mn ↦ elim (cases_eq k n) [
          | inl kn ↦ mn ∙ sym kn
          | inr nk ↦ absurd (other_list b k nk two (sym e ∙ new_list a m mn one))
        ]
        | inr nm ↦ elim (cases_eq k n) [
          | inl kn ↦ absurd (other_list a m nm one (e ∙ new_list b k kn two))
          | inr nk ↦ let w = was m a nm one in let v = was k b nk two in spells.apart m k w.0 v.0 w.1 v.1 (sym w.2 ∙ e ∙ v.2)
        ]
      ]

      pub head_spells : SpellsChains known group objects new is reads
      head_spells = record {
        over = over;
        sound = sound;
        now = spells.now;
        each = λ m kind. elim (cases_eq m n) [
          | inl e ↦ subst (HasDataset known group objects new is reads) (sym e) has_new
          | inr ne ↦ others m ne (λ free. kind (ap (λ (x : Dataset). x.kind) (other_at pool.datasets n d m ne) ∙ free))
        ];
        none = none;
        apart = apart;
      }
