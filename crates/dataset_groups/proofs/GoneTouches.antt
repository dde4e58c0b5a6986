-- Which records and dead lists there are once a dataset is destroyed.
use Rattle.std.proofs.Common.{◌≡◌, ◌≢◌, ℕ, List, Option, Some, None, inl, inr, refl, ap, subst, ◌∙◌}
use Rattle.std.proofs.lemmas.Bool.{cases_eq}
use Rattle.block_pointer.specs.declared.block.Block.{Block}
use Rattle.block_store.specs.Blocks.{Contents}
use Rattle.dataset_destroys.specs.Chains.{Reading, SpellsChains}
use Rattle.dataset_destroys.specs.Over.{IsListNow, IsRecordNow, IsRecordOver}
use Rattle.dataset_destroys.specs.Results.{AreMixed}
use Rattle.dataset_destroys.specs.States.{list_at, record_at}
use Rattle.dataset_destroys.specs.DatasetChanges.{DatasetChanges}
use Rattle.dataset_destroys.specs.ListState.{ListState}
use Rattle.dataset_destroys.specs.RecordState.{RecordState}
use Rattle.dataset_destroys.specs.RecordState.TheVariants as records
use Rattle.dataset_destroys.specs.Touched.{TouchesOwnLists}
use Rattle.dead_list.specs.Datasets.{Dataset, Free, Pool, nothing}
use Rattle.dataset_destroys.specs.Lists.{HasDeadList}
use Rattle.meta_objset.specs.declared.record.DatasetRecord.{DatasetRecord}
use Rattle.objset.specs.Objects.{Object}
use Rattle.dataset_groups.specs.Groups.{IsFresh}
use Rattle.dataset_groups.proofs.KnownBlocks.{free_or_not}
use Rattle.dataset_groups.proofs.OneLess.{IsOneLess}
use Rattle.dataset_groups.proofs.TouchedHeads.{for_list, for_record, no_object, not_both, record_made, some_or_none}

-- where there is no object a record that is there was made, and so was a dead list
made_there : (object : Option Object) (state : Option RecordState) → object ≡ None → IsRecordOver object state → state ≢ None → (r : DatasetRecord) × IsRecordNow object state r
made_there object None none over some = absurd (some refl)
made_there object (Some (records.Read r)) none over some = absurd (no_object object over.there none over.is)
made_there object (Some (records.Changed r)) none over some = absurd (no_object object over.0 none over.1)
made_there object (Some (records.Made r)) none over some = (r, refl)
made_there object (Some records.Gone) none over some = absurd (no_object object over.0 none over.1)

list_made : (object : Option Object) (state : Option ListState) (list : List Block) → object ≡ None → IsListNow object state list → state ≢ None
list_made object state list none now e =
    let there : HasDeadList object list = subst (λ (s : Option ListState). IsListNow object s list) e now in
    no_object object there.1.there none there.1.is

module _ (known : Contents) (group : ℕ) (objects : ℕ → Option Object) (old new : DatasetChanges) (pool after : Pool) (readings : ℕ → Reading) (n : ℕ)
    (spells : SpellsChains known group objects old pool readings) (spelled : SpellsChains known group objects new after readings) (less : IsOneLess pool after n) where
  -- each dataset was one before
  was_some : (m : ℕ) → (after.datasets m).kind ≢ Free → (pool.datasets m).kind ≢ Free
  was_some m some free = elim (cases_eq m n) [
    | inl e ↦ some (ap (λ k. (after.datasets k).kind) e ∙ ap (λ (d : Dataset). d.kind) less.gone)
    | inr other ↦ some (less.kinds m other ∙ free)
  ]

  pub some_before : (m : ℕ) → after.datasets m ≢ nothing → pool.datasets m ≢ nothing
  some_before m some none = elim (free_or_not (after.datasets m).kind) [
    | inl free ↦ some (spelled.none m free).is
    | inr used ↦ was_some m used (ap (λ (d : Dataset). d.kind) none)
  ]

  -- a record where no object is was there before
  record_before : (k : ℕ) → objects k ≡ None → record_at new k ≢ None → record_at old k ≢ None
  record_before k none some = elim (free_or_not (after.datasets k).kind) [
    | inl free ↦
        let made = made_there (objects k) (record_at new k) none (spelled.over.records k) some in
        absurd ((spelled.none k free).none made.0 made.1)
    | inr used ↦ let it = spells.each k (was_some k used) in record_made (objects k) (record_at old k) it.r none it.has
  ]

  module _ (touched : TouchesOwnLists objects old new) where
    -- and so was a dead list
    list_before : (k : ℕ) → objects k ≡ None → list_at new k ≢ None → list_at old k ≢ None
    list_before k none some = elim (touched k) [
      | inl kept ↦ λ e. some (kept ∙ e)
      | inr it ↦ list_made (objects k) (list_at old k) it.0 none it.1
    ]

    pub still_unmixed : ¬ AreMixed old → ¬ AreMixed new
    still_unmixed unmixed (k, some_record, some_list) =
        let none = not_both (objects k) (for_record (objects k) (record_at new k) (spelled.over.records k) some_record) (for_list (objects k) (list_at new k) (spelled.over.lists k) some_list) in
        unmixed (k, record_before k none some_record, list_before k none some_list)

    pub still_fresh : (k : ℕ) → IsFresh objects old k → IsFresh objects new k
    still_fresh k fresh = record {
      no_object = fresh.no_object;
      no_record = elim (some_or_none (record_at new k)) [
        | inl e ↦ e
        | inr some ↦ absurd (record_before k fresh.no_object some fresh.no_record)
      ];
      no_list = elim (some_or_none (list_at new k)) [
        | inl e ↦ e
        | inr some ↦ absurd (list_before k fresh.no_object some fresh.no_list)
      ];
    }
