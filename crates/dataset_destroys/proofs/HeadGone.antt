-- The chains once a head is out of them.
use Rattle.std.proofs.Common.{◌≡◌, ◌≢◌, ◌==◌, ◌-◌, ℕ, List, Option, Some, None, inl, inr, refl, sym, ap, ◌∙◌, subst, arith}
use Rattle.std.proofs.lemmas.Bool.{cases_eq, cond-true, cond-false, eq-eqb, ne_eqb}
use Rattle.block_pointer.specs.declared.block.Block.{Block}
use Rattle.block_store.specs.Blocks.{Contents}
use Rattle.dataset_chains.specs.Chains.{HasCloneCount, HasDataset, HasNoDataset, Reading, SpellsChains}
use Rattle.dataset_chains.specs.Over.{HasListNow, HasRecordNow}
use Rattle.dataset_chains.specs.DatasetChanges.{DatasetChanges}
use Rattle.dead_list.specs.Datasets.{Dataset, Datasets, Free, Head, Pool, nothing}
use Rattle.dead_list.specs.Operations.{HasNoSnapshots, with_dataset}
use Rattle.dead_list.specs.Sound.{IsSound}
use Rattle.meta_objset.specs.declared.record.DatasetRecord.{DatasetRecord}
use Rattle.objset.specs.Objects.{Object}
use Rattle.dataset_destroys.proofs.Chains.{before_other, leads_as, not_none}
use Rattle.dataset_destroys.proofs.Numbers.{IsWithout, other_at, same_at, without}
use Rattle.dataset_destroys.specs.Steps.{IsBefore, IsLeft, IsTheRecord, clones_of}

-- the dead lists after: each is there but for one
pub record AreOtherLists (objects : ℕ → Option Object) (old new : DatasetChanges) (from : ℕ) : Type 0 where
  pub others : (number : ℕ) (list : List Block) → number ≢ from → HasListNow objects old number list → HasListNow objects new number list

module _ (known : Contents) (group : ℕ) (objects : ℕ → Option Object) (old new : DatasetChanges) (pool : Pool) (readings : ℕ → Reading)
    (spells : SpellsChains known group objects old pool readings) (d : ℕ) (kind : (pool.datasets d).kind ≡ Head) (lone : HasNoSnapshots pool d)
    (gone : DatasetRecord) (before : Option DatasetRecord) (gone_is : IsTheRecord objects old d gone) (before_is : IsBefore objects old (pool.datasets d).before before)
    (left : IsLeft objects old new d (pool.datasets d).before before) (lists : AreOtherLists objects old new gone.dead_list) where
  abbrev s : Datasets
  s = pool.datasets

  -- what is before it
  abbrev p : ℕ
  p = (s d).before

  abbrev made : Pool
  made = with_dataset pool d nothing

  some : d ≢ 0
  some = not_none pool spells.sound d (λ e. cc)

  before_d : p ≢ d
  before_d = before_other pool spells.sound d some

  at_d : made.datasets d ≡ nothing
  at_d = same_at s d nothing d refl

  at_other : (m : ℕ) → m ≢ d → made.datasets m ≡ s m
  at_other m nd = other_at s d nothing m nd

  before_at_d : (made.datasets d).before ≡ 0
  before_at_d = ap (λ (x : Dataset). x.before) at_d

  before_at : (m : ℕ) → m ≢ d → (made.datasets m).before ≡ (s m).before
  before_at m nd = ap (λ (x : Dataset). x.before) (at_other m nd)

  -- ---- clones

  clones_same : (m count : ℕ) → m ≢ 0 → m ≢ p → HasCloneCount pool m count → HasCloneCount made m count
  clones_same m count nz np (clones, are, is) = (
    clones,
    record {
      which = λ k. (
        λ held. let it = (are.which k).0 held in (before_at k (λ e. np (sym it.0 ∙ ap (λ j. (s j).before) e)) ∙ it.0, it.1),
        λ it. elim (cases_eq k d) [
          | inl e ↦ absurd (nz (sym it.0 ∙ ap (λ j. (made.datasets j).before) e ∙ before_at_d))
          | inr kd ↦ (are.which k).1 (sym (before_at k kd) ∙ it.0, it.1)
        ],
      );
      once = are.once;
    },
    is,
  )

  -- it was a clone of the one before it
  was_clone : p ≢ 0 → d ≢ pool.next p
  was_clone nz e = elim lone [
    | inl first ↦ nz first
    | inr other ↦ other (sym e)
  ]

  clones_less : (count : ℕ) → p ≢ 0 → HasCloneCount pool p count → HasCloneCount made p (count - 1)
  clones_less count nz (clones, are, is) =
      let less : IsWithout clones d = without clones d are.once ((are.which d).1 (refl, was_clone nz)) in (
        less.rest,
        record {
          which = λ k. (
            λ held.
                let there = (less.which k).0 held in
                let it = (are.which k).0 there.0 in
                (before_at k there.1 ∙ it.0, it.1),
            λ it. elim (cases_eq k d) [
              | inl e ↦ absurd (nz (sym it.0 ∙ ap (λ j. (made.datasets j).before) e ∙ before_at_d))
              | inr kd ↦ (less.which k).1 ((are.which k).1 (sym (before_at k kd) ∙ it.0, it.1), kd)
            ],
          );
          once = less.once;
        },
        omega (arith, is, less.count),
      )

  clones_by : (b : Option DatasetRecord) → IsBefore objects old p b → (m count : ℕ) → m ≢ 0 → HasCloneCount pool m count → HasCloneCount made m (clones_of p b m count)
  clones_by None first m count nz has = clones_same m count nz (λ e. nz (e ∙ first)) has
  clones_by (Some b) is m count nz has = elim (cases_eq m p) [
    | inl e ↦
        subst (λ n. HasCloneCount made m n) (sym (cond-true (m == p) (count - 1) count (eq-eqb m p e)))
        (subst (λ j. HasCloneCount made j (count - 1)) (sym e) (clones_less count is.0 (subst (λ j. HasCloneCount pool j count) e has)))
    | inr np ↦ subst (λ n. HasCloneCount made m n) (sym (cond-false (m == p) (count - 1) count (ne_eqb m p np))) (clones_same m count nz np has)
  ]

  -- ---- each dataset

  other_has : (m : ℕ) → m ≢ d → (s m).kind ≢ Free → HasDataset known group objects new made readings m
  other_has m nd used =
      let there = spells.each m used in
      let same = at_other m nd in
      record {
        behind = there.behind;
        r = record there.r { clones = clones_of p before m there.r.clones };
        has = left.stay m there.r nd there.has;
        is = record {
          kind = ap (λ (x : Dataset). x.kind) same ∙ there.is.kind;
          created = ap (λ (x : Dataset). x.group) same ∙ there.is.created;
          previous = ap (λ (x : Dataset). x.before) same ∙ there.is.previous;
          next = there.is.next;
        };
        clones = clones_by before before_is m there.r.clones (not_none pool spells.sound m used) there.clones;
        leads = leads_as known group there.r there.r.previous there.r.next (clones_of p before m there.r.clones) (s m).blocks (made.datasets m).blocks (readings m) (sym (ap (λ (x : Dataset). x.blocks) same)) there.leads;
        list_behind = there.list_behind;
        dead = subst (λ list. HasListNow objects new there.r.dead_list list) (sym (ap (λ (x : Dataset). x.dead) same))
            (lists.others there.r.dead_list (s m).dead (λ e. nd (spells.apart m d there.r gone there.has gone_is.has e)) there.dead);
      }

  each_has : (m : ℕ) → (made.datasets m).kind ≢ Free → HasDataset known group objects new made readings m
  each_has m used = elim (cases_eq m d) [
    | inl e ↦ absurd (used (ap (λ j. (made.datasets j).kind) e ∙ ap (λ (x : Dataset). x.kind) at_d))
    | inr nd ↦ other_has m nd (λ free. used (ap (λ (x : Dataset). x.kind) (at_other m nd) ∙ free))
  ]

  none_has : (m : ℕ) → (made.datasets m).kind ≡ Free → HasNoDataset objects new made m
  none_has m free = elim (cases_eq m d) [
    | inl e ↦ subst (λ j. HasNoDataset objects new made j) (sym e) (record { is = at_d; none = left.none })
    | inr nd ↦
        let there = spells.none m (sym (ap (λ (x : Dataset). x.kind) (at_other m nd)) ∙ free) in
        record { is = at_other m nd ∙ there.is; none = λ r has. let was = left.were m r nd has in there.none was.0 was.1 }
  ]

  -- each record that is there was there, with the same dead list
  WasThere : ℕ → DatasetRecord → Type 0
  WasThere m r = (was : DatasetRecord) × HasRecordNow objects old m was × (r.dead_list ≡ was.dead_list)

  was_there : (m : ℕ) (r : DatasetRecord) → HasRecordNow objects new m r → WasThere m r
  unfolding WasThere
  was_there m r has = elim (cases_eq m d) [
    | inl e ↦ absurd (left.none r (subst (λ j. HasRecordNow objects new j r) e has))
    | inr nd ↦ let was = left.were m r nd has in (was.0, was.1, ap (λ (x : DatasetRecord). x.dead_list) was.2)
  ]

  lists_apart : (m other : ℕ) (r x : DatasetRecord) → HasRecordNow objects new m r → HasRecordNow objects new other x → r.dead_list ≡ x.dead_list → m ≡ other
  unfolding WasThere
  lists_apart m other r x one two same =
      let first = was_there m r one in
      let second = was_there other x two in
      spells.apart m other first.0 second.0 first.1 second.1 (sym first.2 ∙ same ∙ second.2)

  pub chains_without_head : IsSound (with_dataset pool d nothing) → SpellsChains known group objects new (with_dataset pool d nothing) readings
  chains_without_head sound = record {
    over = left.over;
    sound = sound;
    now = spells.now;
    each = each_has;
    none = none_has;
    apart = lists_apart;
  }
