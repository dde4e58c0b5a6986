-- Which records and dead lists there are once a dataset came to a pool.
use Rattle.std.proofs.Common.{◌≡◌, ◌≢◌, ◌⊎◌, ◌+◌, ◌≤◌, ℕ, Option, Some, None, inl, inr, refl, ap, ◌∙◌, arith}
use Rattle.std.proofs.lemmas.Bool.{cases_eq}
use Rattle.block_store.specs.Blocks.{Contents}
use Rattle.dataset_destroys.specs.Chains.{Reading, SpellsChains}
use Rattle.dataset_destroys.specs.Over.{IsRecordNow, IsRecordOver}
use Rattle.dataset_destroys.specs.Results.{AreMixed}
use Rattle.dataset_destroys.specs.States.{list_at, record_at}
use Rattle.dataset_destroys.specs.DatasetChanges.{DatasetChanges}
use Rattle.dataset_destroys.specs.RecordState.{RecordState}
use Rattle.dataset_destroys.specs.RecordState.TheVariants as records
use Rattle.dead_list.specs.Datasets.{Free, Kind, Pool}
use Rattle.dead_list.specs.Operations.{IsUnused}
use Rattle.meta_objset.specs.declared.record.DatasetRecord.{DatasetRecord}
use Rattle.objset.specs.Objects.{Object}
use Rattle.dataset_groups.specs.Groups.{IsFresh}
use Rattle.dataset_groups.proofs.KnownBlocks.{free_or_not}
use Rattle.dataset_groups.proofs.OneMore.{IsOneMore}
use Rattle.dataset_groups.proofs.TouchedHeads.{for_list, for_record, no_object, not_both, record_made, some_or_none}

-- where there is no object a record that is there was made
made_there : (object : Option Object) (state : Option RecordState) → object ≡ None → IsRecordOver object state → state ≢ None
    → (r : DatasetRecord) × IsRecordNow object state r
made_there object None none over some = absurd (some refl)
made_there object (Some (records.Read r)) none over some = absurd (no_object object over.there none over.is)
made_there object (Some (records.Changed r)) none over some = absurd (no_object object over.0 none over.1)
made_there object (Some (records.Made r)) none over some = (r, refl)
made_there object (Some records.Gone) none over some = absurd (no_object object over.0 none over.1)

-- a number that nothing was made of stands for no dataset
module _ (known : Contents) (group : ℕ) (objects : ℕ → Option Object) (old : DatasetChanges) (pool : Pool) (readings : ℕ → Reading)
    (spells : SpellsChains known group objects old pool readings) where
  fresh_free : (k : ℕ) → IsFresh objects old k → (pool.datasets k).kind ≡ Free
  fresh_free k fresh = elim (free_or_not (pool.datasets k).kind) [
    | inl free ↦ free
    | inr some ↦
        let it = spells.each k some in
        absurd (record_made (objects k) (record_at old k) it.r fresh.no_object it.has fresh.no_record)
  ]

  pub fresh_unused : (k : ℕ) → k ≢ 0 → IsFresh objects old k → IsUnused pool.datasets k
  fresh_unused k some fresh = (some, (spells.none k (fresh_free k fresh)).is)

  module _ (later : Contents) (new : DatasetChanges) (after : Pool) (now : ℕ → Reading) (n : ℕ) (of : Kind) (more : IsOneMore pool after n of)
      (spelled : SpellsChains later group objects new after now) (fresh_n : IsFresh objects old n) (fresh_list : IsFresh objects old (n + 1))
      (touched : (k : ℕ) → (list_at new k ≡ list_at old k) ⊎ (k ≡ n + 1)) where
    -- where there is no object and no dataset no record is there
    unrecorded : (k : ℕ) → k ≢ n → objects k ≡ None → (pool.datasets k).kind ≡ Free → record_at new k ≡ None
    unrecorded k nn none free = elim (some_or_none (record_at new k)) [
      | inl e ↦ e
      | inr some ↦
          let made = made_there (objects k) (record_at new k) none (spelled.over.records k) some in
          absurd ((spelled.none k (more.kinds k nn ∙ free)).none made.0 made.1)
    ]

    pub still_fresh : (k : ℕ) → n + 2 ≤ k → IsFresh objects old k → IsFresh objects new k
    still_fresh k le fresh = record {
      no_object = fresh.no_object;
      no_record = unrecorded k (λ e. omega (arith, le, e)) fresh.no_object (fresh_free k fresh);
      no_list = elim (touched k) [
        | inl kept ↦ kept ∙ fresh.no_list
        | inr here ↦ absurd (omega (arith, le, here))
      ];
    }

    pub still_unmixed : ¬ AreMixed old → ¬ AreMixed new
    still_unmixed unmixed (k, some_record, some_list) =
        let none : objects k ≡ None =
        not_both (objects k) (for_record (objects k) (record_at new k) (spelled.over.records k) some_record) (for_list (objects k) (list_at new k) (spelled.over.lists k) some_list) in
        elim (touched k) [
          | inr here ↦
              let at : record_at new (n + 1) ≡ None = unrecorded (n + 1) (λ e. omega (arith, e)) fresh_list.no_object (fresh_free (n + 1) fresh_list) in
              some_record (ap (record_at new) here ∙ at)
          | inl kept ↦ elim (cases_eq k n) [
            | inl e ↦ some_list (kept ∙ ap (list_at old) e ∙ fresh_n.no_list)
            | inr nn ↦ elim (free_or_not (pool.datasets k).kind) [
              | inl free ↦ some_record (unrecorded k nn none free)
              | inr some ↦
                  let it = spells.each k some in
                  unmixed (k, record_made (objects k) (record_at old k) it.r none it.has, λ e. some_list (kept ∙ e))
            ]
          ]
        ]
