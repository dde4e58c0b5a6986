-- The chains once a snapshot is out of them.
use Rattle.std.proofs.Common.{◌≡◌, ◌≢◌, ◌↔◌, ◌==◌, ◌&&◌, cond, ℕ, List, ◌∷◌, Option, Some, None, Contains, inl, inr, refl, sym, ap, ◌∙◌, subst}
use Rattle.std.proofs.lemmas.Bool.{cases_eq}
use Rattle.block_pointer.specs.declared.block.Block.{Block}
use Rattle.block_store.specs.Blocks.{Contents}
use Rattle.dataset_chains.specs.Chains.{HasCloneCount, HasDataset, HasNoDataset, Reading, SpellsChains}
use Rattle.dataset_chains.specs.Over.{HasListNow, HasRecordNow}
use Rattle.dataset_chains.specs.DatasetChanges.{DatasetChanges}
use Rattle.dead_list.specs.Datasets.{Dataset, Datasets, Free, Pool, nothing, updated}
use Rattle.dead_list.specs.Datasets.{Snapshot as ASnapshot}
use Rattle.dead_list.specs.Operations.{without_snapshot}
use Rattle.dead_list.specs.Sound.{IsSound}
use Rattle.meta_objset.specs.declared.record.DatasetRecord.{DatasetRecord}
use Rattle.objset.specs.Objects.{Object}
use Rattle.dataset_destroys.proofs.Chains.{before_not_after, before_is_snapshot, before_other, has_as, leads_as, not_none, of_snapshot}
use Rattle.dataset_destroys.proofs.Numbers.{IsWithout, first_or_later, is_first, is_later, once_more, other_at, passed_at, passed_not, same_at, without}
use Rattle.dataset_destroys.specs.Steps.{IsBefore, IsPassed, IsTheRecord, next_of}

-- the dead lists after: that at one number is this one, and one is gone
pub record AreLists (objects : ℕ → Option Object) (old new : DatasetChanges) (from into : ℕ) (merged : List Block) : Type 0 where
  pub has : HasListNow objects new into merged
  pub others : (number : ℕ) (list : List Block) → number ≢ from → number ≢ into → HasListNow objects old number list → HasListNow objects new number list

module _ (known : Contents) (group : ℕ) (objects : ℕ → Option Object) (old new : DatasetChanges) (pool : Pool) (readings : ℕ → Reading)
    (spells : SpellsChains known group objects old pool readings) (d : ℕ) (kind : (pool.datasets d).kind ≡ ASnapshot)
    (gone after : DatasetRecord) (before : Option DatasetRecord) (gone_is : IsTheRecord objects old d gone) (after_is : IsTheRecord objects old (pool.next d) after)
    (before_is : IsBefore objects old (pool.datasets d).before before)
    (passed_is : IsPassed objects old new d (pool.datasets d).before (pool.next d) after before)
    (dead : List Block) (lists : AreLists objects old new gone.dead_list after.dead_list dead) where
  abbrev s : Datasets
  s = pool.datasets

  -- what comes after it, and what is before it
  abbrev n : ℕ
  n = pool.next d

  abbrev p : ℕ
  p = (s d).before

  abbrev follower : Dataset
  follower = record (s n) { before = p; dead = dead }

  abbrev made : Pool
  made = without_snapshot pool d dead

  some : d ≢ 0
  some = not_none pool spells.sound d (λ e. cc)

  behind : (s n).before ≡ d
  behind = spells.sound.followed d kind

  some_next : n ≢ 0
  some_next e = some (sym behind ∙ ap (λ k. (s k).before) e ∙ ap (λ (x : Dataset). x.before) spells.sound.none)

  apart_next : n ≢ d
  apart_next e = before_other pool spells.sound d some (sym (ap (λ k. (s k).before) e) ∙ behind)

  before_d : p ≢ d
  before_d = before_other pool spells.sound d some

  before_n : p ≢ n
  before_n = before_not_after pool spells.sound d n behind some some_next

  at_d : made.datasets d ≡ nothing
  at_d = same_at (updated s n follower) d nothing d refl

  at_next : made.datasets n ≡ follower
  at_next = other_at (updated s n follower) d nothing n apart_next ∙ same_at s n follower n refl

  at_other : (m : ℕ) → m ≢ d → m ≢ n → made.datasets m ≡ s m
  at_other m nd nn = other_at (updated s n follower) d nothing m nd ∙ other_at s n follower m nn

  before_at_d : (made.datasets d).before ≡ 0
  before_at_d = ap (λ (x : Dataset). x.before) at_d

  before_at_next : (made.datasets n).before ≡ p
  before_at_next = ap (λ (x : Dataset). x.before) at_next

  before_at : (m : ℕ) → m ≢ d → m ≢ n → (made.datasets m).before ≡ (s m).before
  before_at m nd nn = ap (λ (x : Dataset). x.before) (at_other m nd nn)

  -- ---- clones

  -- what names another one as the one before is the same
  still_before : (m k : ℕ) → m ≢ 0 → m ≢ d → m ≢ p → ((s k).before ≡ m) ↔ ((made.datasets k).before ≡ m)
  still_before m k nz nd np = elim (cases_eq k d) [
    | inl e ↦ (
      λ is. absurd (np (sym is ∙ ap (λ j. (s j).before) e)),
      λ is. absurd (nz (sym is ∙ ap (λ j. (made.datasets j).before) e ∙ before_at_d)),
    )
    | inr kd ↦ elim (cases_eq k n) [
      | inl e ↦ (
        λ is. absurd (nd (sym is ∙ ap (λ j. (s j).before) e ∙ behind)),
        λ is. absurd (np (sym is ∙ ap (λ j. (made.datasets j).before) e ∙ before_at_next)),
      )
      | inr kn ↦ (λ is. before_at k kd kn ∙ is, λ is. sym (before_at k kd kn) ∙ is)
    ]
  ]

  clones_same : (m count : ℕ) → m ≢ 0 → m ≢ d → m ≢ p → HasCloneCount pool m count → HasCloneCount made m count
  clones_same m count nz nd np (clones, are, is) =
      let next : made.next m ≡ pool.next m = passed_not pool.next p d n m (λ e. absurd (np e)) in (
        clones,
        record {
          which = λ k. (
            λ held. let it = (are.which k).0 held in ((still_before m k nz nd np).0 it.0, λ e. it.1 (e ∙ next)),
            λ it. (are.which k).1 ((still_before m k nz nd np).1 it.0, λ e. it.1 (e ∙ sym next)),
          );
          once = are.once;
        },
        is,
      )

  -- the one before, where the snapshot came next: now what comes after it does
  clones_next : (count : ℕ) → p ≢ 0 → pool.next p ≡ d → HasCloneCount pool p count → HasCloneCount made p count
  clones_next count nz follows (clones, are, is) =
      let next : made.next p ≡ n = passed_at pool.next p d n p refl follows in (
        clones,
        record {
          which = λ k. (
            λ held. let it = (are.which k).0 held in elim (cases_eq k n) [
              | inl e ↦ absurd (before_d (sym it.0 ∙ ap (λ j. (s j).before) e ∙ behind))
              | inr kn ↦ (before_at k (λ e. it.1 (e ∙ sym follows)) kn ∙ it.0, λ e. kn (e ∙ next))
            ],
            λ it. elim (cases_eq k d) [
              | inl e ↦ absurd (nz (sym it.0 ∙ ap (λ j. (made.datasets j).before) e ∙ before_at_d))
              | inr kd ↦ (are.which k).1 (sym (before_at k kd (λ e. it.1 (e ∙ sym next))) ∙ it.0, λ e. kd (e ∙ follows))
            ],
          );
          once = are.once;
        },
        is,
      )

  -- and where it was a clone's first: what comes after it is the clone now
  clones_turn : (count : ℕ) → p ≢ 0 → (pool.next p ≢ d) → (s p).kind ≡ ASnapshot → HasCloneCount pool p count → HasCloneCount made p count
  clones_turn count nz turns snapshot (clones, are, is) =
      let next : made.next p ≡ pool.next p = passed_not pool.next p d n p (λ e. turns) in
      let less : IsWithout clones d = without clones d are.once ((are.which d).1 (refl, λ e. turns (sym e))) in
      let not_after : n ≢ pool.next p = λ e. before_d (sym (spells.sound.followed p snapshot) ∙ ap (λ j. (s j).before) (sym e) ∙ behind) in (
        n ∷ less.rest,
        record {
          which = λ k. (
            λ held. elim (first_or_later n k less.rest held) [
              | inl e ↦ subst (λ j. ((made.datasets j).before ≡ p) × (j ≢ made.next p)) e (before_at_next, λ f. not_after (f ∙ next))
              | inr later ↦
                  let there = (less.which k).0 later in
                  let it = (are.which k).0 there.0 in
                  let kn : k ≢ n = λ e. before_d (sym it.0 ∙ ap (λ j. (s j).before) e ∙ behind) in
                  (before_at k there.1 kn ∙ it.0, λ e. it.1 (e ∙ next))
            ],
            λ it. elim (cases_eq k n) [
              | inl e ↦ subst (λ j. Contains (n ∷ less.rest) j) (sym e) (is_first n less.rest)
              | inr kn ↦ elim (cases_eq k d) [
                | inl e ↦ absurd (nz (sym it.0 ∙ ap (λ j. (made.datasets j).before) e ∙ before_at_d))
                | inr kd ↦ is_later n k less.rest ((less.which k).1 ((are.which k).1 (sym (before_at k kd kn) ∙ it.0, λ e. it.1 (e ∙ sym next)), kd))
              ]
            ],
          );
          once = once_more n less.rest (λ held. before_d (sym ((are.which n).0 ((less.which n).0 held).0).0 ∙ behind)) less.once;
        },
        is ∙ less.count,
      )

  clones_before : (count : ℕ) → p ≢ 0 → HasCloneCount pool p count → HasCloneCount made p count
  clones_before count nz has = elim (cases_eq (pool.next p) d) [
    | inl follows ↦ clones_next count nz follows has
    | inr turns ↦ clones_turn count nz turns (before_is_snapshot pool spells.sound d nz) has
  ]

  clones_now : (m count : ℕ) → m ≢ 0 → m ≢ d → HasCloneCount pool m count → HasCloneCount made m count
  clones_now m count nz nd has = elim (cases_eq m p) [
    | inl e ↦ subst (λ j. HasCloneCount made j count) (sym e) (clones_before count (λ z. nz (e ∙ z)) (subst (λ j. HasCloneCount pool j count) e has))
    | inr np ↦ clones_same m count nz nd np has
  ]

  -- ---- what comes next

  -- what comes after the one before stands in its record
  next_before : (b : DatasetRecord) → p ≢ 0 → IsTheRecord objects old p b → pool.next p ≡ b.next
  next_before b nz one =
      let snapshot : (s p).kind ≡ ASnapshot = before_is_snapshot pool spells.sound d nz in
      let there = has_as known group objects old pool readings p b (spells.each p (λ free. let clash : Free ≡ ASnapshot = sym free ∙ snapshot in cc)) one in
      there.is.next (of_snapshot b.kind (sym there.is.kind ∙ snapshot))

  next_by : (b : Option DatasetRecord) → IsBefore objects old p b → (m next : ℕ) → m ≢ 0 → pool.next m ≡ next → made.next m ≡ next_of p b d n m next
  next_by None first m next nz e = passed_not pool.next p d n m (λ is. absurd (nz (is ∙ first))) ∙ e
  next_by (Some b) is m next nz e = λ i. cond (m == p && next_before b is.0 is.1 i == d) n (e i)

  -- ---- each dataset

  follower_has : HasDataset known group objects new made readings n
  follower_has =
      let there = has_as known group objects old pool readings n after (spells.each n (λ free. some_next_kind free)) after_is in
      record {
        behind = there.behind;
        r = record after { previous = p };
        has = passed_is.after_is.has;
        is = record {
          kind = ap (λ (x : Dataset). x.kind) at_next ∙ there.is.kind;
          created = ap (λ (x : Dataset). x.group) at_next ∙ there.is.created;
          previous = before_at_next;
          next = λ snapshot. passed_not pool.next p d n n (λ e. absurd (before_n (sym e))) ∙ there.is.next snapshot;
        };
        clones = clones_now n after.clones some_next apart_next there.clones;
        leads = leads_as known group after p after.next after.clones (s n).blocks (made.datasets n).blocks (readings n) (sym (ap (λ (x : Dataset). x.blocks) at_next)) there.leads;
        list_behind = there.list_behind;
        dead = subst (λ list. HasListNow objects new after.dead_list list) (sym (ap (λ (x : Dataset). x.dead) at_next)) lists.has;
      }
    where
      -- a free number has nothing before it
      some_next_kind : ¬ ((s n).kind ≡ Free)
      some_next_kind free = some (sym behind ∙ ap (λ (x : Dataset). x.before) (spells.none n free).is)

  other_has : (m : ℕ) → m ≢ d → m ≢ n → (s m).kind ≢ Free → HasDataset known group objects new made readings m
  other_has m nd nn used =
      let there = spells.each m used in
      let same = at_other m nd nn in
      let nz = not_none pool spells.sound m used in
      record {
        behind = there.behind;
        r = record there.r { next = next_of p before d n m there.r.next };
        has = passed_is.stay m there.r nd nn there.has;
        is = record {
          kind = ap (λ (x : Dataset). x.kind) same ∙ there.is.kind;
          created = ap (λ (x : Dataset). x.group) same ∙ there.is.created;
          previous = ap (λ (x : Dataset). x.before) same ∙ there.is.previous;
          next = λ snapshot. next_by before before_is m there.r.next nz (there.is.next snapshot);
        };
        clones = clones_now m there.r.clones nz nd there.clones;
        leads = leads_as known group there.r there.r.previous (next_of p before d n m there.r.next) there.r.clones (s m).blocks (made.datasets m).blocks (readings m) (sym (ap (λ (x : Dataset). x.blocks) same)) there.leads;
        list_behind = there.list_behind;
        dead = subst (λ list. HasListNow objects new there.r.dead_list list) (sym (ap (λ (x : Dataset). x.dead) same))
            (lists.others there.r.dead_list (s m).dead (λ e. nd (spells.apart m d there.r gone there.has gone_is.has e)) (λ e. nn (spells.apart m n there.r after there.has after_is.has e)) there.dead);
      }

  each_has : (m : ℕ) → (made.datasets m).kind ≢ Free → HasDataset known group objects new made readings m
  each_has m used = elim (cases_eq m d) [
    | inl e ↦ absurd (used (ap (λ j. (made.datasets j).kind) e ∙ ap (λ (x : Dataset). x.kind) at_d))
    | inr nd ↦ elim (cases_eq m n) [
      | inl e ↦ subst (λ j. HasDataset known group objects new made readings j) (sym e) follower_has
      | inr nn ↦ other_has m nd nn (λ free. used (ap (λ (x : Dataset). x.kind) (at_other m nd nn) ∙ free))
    ]
  ]

  none_has : (m : ℕ) → (made.datasets m).kind ≡ Free → HasNoDataset objects new made m
  none_has m free = elim (cases_eq m d) [
    | inl e ↦ subst (λ j. HasNoDataset objects new made j) (sym e) (record { is = at_d; none = passed_is.none })
    | inr nd ↦ elim (cases_eq m n) [
      | inl e ↦
          let free_next : (s n).kind ≡ Free = sym (ap (λ (x : Dataset). x.kind) at_next) ∙ sym (ap (λ j. (made.datasets j).kind) e) ∙ free in
          absurd (some (sym behind ∙ ap (λ (x : Dataset). x.before) (spells.none n free_next).is))
      | inr nn ↦
          let there = spells.none m (sym (ap (λ (x : Dataset). x.kind) (at_other m nd nn)) ∙ free) in
          record { is = at_other m nd nn ∙ there.is; none = λ r has. let was = passed_is.were m r nd nn has in there.none was.0 was.1 }
    ]
  ]

  -- each record that is there was there, with the same dead list
  WasThere : ℕ → DatasetRecord → Type 0
  WasThere m r = (was : DatasetRecord) × HasRecordNow objects old m was × (r.dead_list ≡ was.dead_list)

  was_there : (m : ℕ) (r : DatasetRecord) → HasRecordNow objects new m r → WasThere m r
  unfolding WasThere
  was_there m r has = elim (cases_eq m d) [
    | inl e ↦ absurd (passed_is.none r (subst (λ j. HasRecordNow objects new j r) e has))
    | inr nd ↦ elim (cases_eq m n) [
      | inl e ↦ (
        after,
        subst (λ j. HasRecordNow objects old j after) (sym e) after_is.has,
        ap (λ (x : DatasetRecord). x.dead_list) (passed_is.after_is.one r (subst (λ j. HasRecordNow objects new j r) e has)),
      )
      | inr nn ↦ let was = passed_is.were m r nd nn has in (was.0, was.1, ap (λ (x : DatasetRecord). x.dead_list) was.2)
    ]
  ]

  lists_apart : (m other : ℕ) (r x : DatasetRecord) → HasRecordNow objects new m r → HasRecordNow objects new other x → r.dead_list ≡ x.dead_list → m ≡ other
  unfolding WasThere
  lists_apart m other r x one two same =
      let first = was_there m r one in
      let second = was_there other x two in
      spells.apart m other first.0 second.0 first.1 second.1 (sym first.2 ∙ same ∙ second.2)

  pub chains_without : IsSound (without_snapshot pool d dead) → SpellsChains known group objects new (without_snapshot pool d dead) readings
  chains_without sound = record {
    over = passed_is.over;
    sound = sound;
    now = spells.now;
    each = each_has;
    none = none_has;
    apart = lists_apart;
  }
