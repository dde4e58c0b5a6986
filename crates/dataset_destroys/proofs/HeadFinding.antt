-- The records that the destroy of a head looks up.
use Rattle.std.proofs.Common.{◌≡◌, ◌≢◌, ◌-◌, ◌⊎◌, ℕ, Option, Some, None, inl, inr, refl, sym, ap, ◌∙◌, subst, arith}
use Rattle.std.proofs.lemmas.Bool.{cases_eq, cond-true, cond-false, eq-eqb, ne_eqb}
use Rattle.block_store.specs.Blocks.{Contents}
use Rattle.block_store.specs.Store.{Store}
use Rattle.block_store.specs.declared.refusal.Refusal.{Refusal}
use Rattle.block_store.specs.declared.refusal.Refusal.TheVariants.{BadPointer}
use Rattle.dataset_chains.specs.Chains.{HasCloneCount, Reading, SpellsChains}
use Rattle.dataset_chains.specs.Refused.{HasKnown}
use Rattle.dataset_chains.specs.Over.{HasRecordNow}
use Rattle.dataset_chains.specs.States.{HaveSameRecords, IsNumber}
use Rattle.dataset_chains.specs.DatasetChanges.{DatasetChanges}
use Rattle.dataset_chains.specs.RecordState.{RecordState}
use Rattle.dataset_chains.specs.RecordState.TheVariants as records
use Rattle.dead_list.specs.Datasets.{Pool}
use Rattle.dead_list.specs.Operations.{DestroyHead, MayDo}
use Rattle.meta_objset.specs.declared.record.DatasetKind.TheVariants.{Volume}
use Rattle.meta_objset.specs.declared.record.DatasetRecord.{DatasetRecord}
use Rattle.objset.specs.Objects.{Object}
use Rattle.dataset_destroys.proofs.Chains.{HasAs, before_is_snapshot, of_head, of_snapshot}
use Rattle.dataset_destroys.proofs.Finding.{snapshot_as, used_head}
use Rattle.dataset_destroys.specs.HeadPlaces.{IsBadBefore}
use Rattle.dataset_destroys.specs.Refused.{IsHeadUnfit}
use Rattle.block_pointer.specs.declared.block.Block.{Block}
use Rattle.dataset_destroys.specs.Younger.{IsTreeRefused}
use Rattle.dataset_destroys.specs.Steps.{AreOneLess, IsBefore, IsKnownBefore, IsLeft, IsPutNow, IsTakenOut, IsTheRecord, clones_of}

-- ---- refusals

pub unfit_by : (old new : Store) (changes far : DatasetChanges) (head : ℕ) (r : DatasetRecord) (before : Option DatasetRecord) (refusal : Refusal) → HasKnown far head r → IsKnownBefore far r.previous before
    → refusal ≡ BadPointer → IsBadBefore head before → IsHeadUnfit old new changes far head refusal
unfit_by old new changes far head r None refusal known known_before cause bad = absurd bad
unfit_by old new changes far head r (Some before) refusal known known_before cause (inl own) = inl (cause, (r, before, known, known_before.1, own))
unfit_by old new changes far head r (Some before) refusal known known_before cause (inr none) = inr (inl (cause, (r, before, known, known_before.1, none)))

pub known_same : (old new : DatasetChanges) (number : ℕ) (r : DatasetRecord) → HaveSameRecords old new → HasKnown old number r → HasKnown new number r
known_same old new number r same known =
    subst (λ (state : Option RecordState). (state ≡ Some (records.Read r)) ⊎ ((state ≡ Some (records.Changed r)) ⊎ (state ≡ Some (records.Made r)))) (sym (same number)) known

-- ---- what is there

pub record IsHeadThere (objects : ℕ → Option Object) (changes : DatasetChanges) (d : ℕ) : Type 0 where
  pub behind : IsNumber d
  pub r : DatasetRecord
  pub has : HasRecordNow objects changes d r
  pub kind : r.kind ≡ Volume

some_clone : (pool : Pool) (d count : ℕ) → d ≢ pool.next (pool.datasets d).before → HasCloneCount pool (pool.datasets d).before count → count ≢ 0
some_clone pool d count not (clones, are, is) none = let held = (are.which d).1 (refl, not) in omega (arith, held.1, is, none)

module _ (known : Contents) (group : ℕ) (objects : ℕ → Option Object) (changes : DatasetChanges) (pool : Pool) (readings : ℕ → Reading)
    (spells : SpellsChains known group objects changes pool readings) (d : ℕ) (may : MayDo pool (DestroyHead d)) where
  pub head_there : IsHeadThere objects changes d
  head_there =
      let there = spells.each d (used_head known group objects changes pool readings spells d may.0) in
      record { behind = there.behind; r = there.r; has = there.has; kind = of_head there.r.kind (sym there.is.kind ∙ may.0) }

  good_by : (b : Option DatasetRecord) → IsBefore objects changes (pool.datasets d).before b → ¬ IsBadBefore d b
  good_by None first bad = bad
  good_by (Some b) is bad =
      let snapshot = before_is_snapshot pool spells.sound d is.0 in
      let there = snapshot_as known group objects changes pool readings spells (pool.datasets d).before b snapshot is.1 in
      let next : pool.next (pool.datasets d).before ≡ b.next = there.is.next (of_snapshot b.kind (sym there.is.kind ∙ snapshot)) in
      elim may.1 [
        | inl first ↦ is.0 first
        | inr other ↦ elim bad [
          | inl own ↦ other (next ∙ own)
          | inr none ↦ some_clone pool d b.clones (λ e. other (sym e)) there.clones none
        ]
      ]

  pub is_good : (r : DatasetRecord) (before : Option DatasetRecord) → HasAs known group objects changes pool readings d r → IsBefore objects changes r.previous before → ¬ IsBadBefore d before
  is_good r before told is = good_by before (subst (λ k. IsBefore objects changes k before) (sym told.is.previous) is)

-- ---- a clone less

less_at : (previous other clones : ℕ) (before : DatasetRecord) → other ≡ previous → clones_of previous (Some before) other clones ≡ clones - 1
less_at previous other clones before e = cond-true _ _ _ (eq-eqb other previous e)

less_not : (previous other clones : ℕ) (before : DatasetRecord) → other ≢ previous → clones_of previous (Some before) other clones ≡ clones
less_not previous other clones before ne = cond-false _ _ _ (ne_eqb other previous ne)

pub one_less : (objects : ℕ → Option Object) (old new : DatasetChanges) (previous : ℕ) (before : DatasetRecord) → IsTheRecord objects old previous before
    → IsPutNow objects old new previous (record before { clones = before.clones - 1 }) → AreOneLess objects old new previous (Some before)
one_less objects old new previous before one put = record {
  over = put.over;
  stay = λ other r has. elim (cases_eq other previous) [
    | inl e ↦
        let same : r ≡ before = one.one r (subst (λ k. HasRecordNow objects old k r) e has) in
        subst (λ k. HasRecordNow objects new k (record r { clones = clones_of previous (Some before) other r.clones })) (sym e)
        (subst (λ x. HasRecordNow objects new previous x)
        (ap (λ (x : DatasetRecord). record x { clones = x.clones - 1 }) (sym same) ∙ ap (λ (n : ℕ). record r { clones = n }) (sym (less_at previous other r.clones before e))) put.is.has)
    | inr ne ↦
        subst (λ n. HasRecordNow objects new other (record r { clones = n })) (sym (less_not previous other r.clones before ne)) ((put.others other r ne).0 has)
  ];
  were = λ other r has. elim (cases_eq other previous) [
    | inl e ↦ (
      before,
      subst (λ k. HasRecordNow objects old k before) (sym e) one.has,
      put.is.one r (subst (λ k. HasRecordNow objects new k r) e has) ∙ ap (λ (n : ℕ). record before { clones = n }) (sym (less_at previous other before.clones before e)),
    )
    | inr ne ↦ (r, (put.others other r ne).1 has, ap (λ (n : ℕ). record r { clones = n }) (sym (less_not previous other r.clones before ne)))
  ];
}

pub left_behind : (objects : ℕ → Option Object) (old less new : DatasetChanges) (head previous : ℕ) (before : Option DatasetRecord) → AreOneLess objects old less previous before
    → IsTakenOut objects less new head → IsLeft objects old new head previous before
left_behind objects old less new head previous before first out = record {
  over = out.over;
  none = out.none;
  stay = λ other r not has. (out.others other (record r { clones = clones_of previous before other r.clones }) not).0 (first.stay other r has);
  were = λ other r not has. first.were other r ((out.others other r not).1 has);
}

-- after the same group
pub tree_since : (since group_too : ℕ) (old new : Store) (birth : ℕ) (block : Block) (before after : ℕ) (refusal : Refusal) → since ≡ group_too → IsTreeRefused since old new birth block before after refusal
    → IsTreeRefused group_too old new birth block before after refusal
tree_since since group_too old new birth block before after refusal same why = subst (λ n. IsTreeRefused n old new birth block before after refusal) same why
