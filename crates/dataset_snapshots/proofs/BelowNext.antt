-- Changes of which not all are of objects below the next number.
use Rattle.std.proofs.Common.{arith, ◌≢◌, ◌⊎◌, inl, inr, ℕ, ◌<◌, ◌≤◌, Bool, IsTrue, List, [], ◌∷◌, Option, None, All}
use Rattle.std.specs.Prelude.{Any}
use Rattle.std.proofs.lemmas.Bool.{cases_lt}
use Rattle.std.proofs.lemmas.List.Elements.{All-cons, All-contains, All-nil}
use Rattle.block_store.specs.Blocks.{Contents}
use Rattle.dataset_groups.specs.Chains.{Reading}
use Rattle.dataset_groups.specs.Results.{IsRecordChanged}
use Rattle.dataset_groups.specs.States.{list_at, record_at}
use Rattle.dataset_groups.specs.declared.datasets.GroupDatasets.{GroupDatasets}
use Rattle.dataset_groups.specs.Groups.{SpellsGroup}
use Rattle.dead_list.specs.Datasets.{Pool}
use Rattle.objset.specs.declared.changes.ObjectChange.{ObjectChange}
use Rattle.objset.specs.Objects.{Object}
use Rattle.pool_model.specs.Pools.{PlainPool}
use Rattle.dataset_snapshots.specs.Demands.{AreMisnumbered}
use Rattle.dataset_snapshots.proofs.ChangedRows.{any_of, is_first, is_later}

below_or_not : (next : ℕ) (changes : List ObjectChange) → All (λ change. change.number < next) changes ⊎ Any (λ change. next ≤ change.number) changes
below_or_not next [] = inl (All-nil (λ (change : ObjectChange). change.number < next))
below_or_not next (change ∷ changes) = elim (cases_lt change.number next) [
  | inl low ↦ elim (below_or_not next changes) [
    | inl all ↦ inl (All-cons (λ (change : ObjectChange). change.number < next) change changes low all)
    | inr any ↦ inr (any_of (λ (change : ObjectChange). next ≤ change.number) (change ∷ changes) any.1 (is_later change any.1 changes (any.0, any.2, any.3)) any.4)
  ]
  | inr high ↦ inr (any_of (λ (change : ObjectChange). next ≤ change.number) (change ∷ changes) change (is_first change changes) high)
]

-- where a test tells that they are not, one is behind it
pub some_behind : (next : ℕ) (changes : List ObjectChange) (below : Bool) → (All (λ change. change.number < next) changes → IsTrue below) → (IsTrue below → ⊥)
    → Any (λ change. next ≤ change.number) changes
some_behind next changes below all_so not = elim (below_or_not next changes) [
  | inl all ↦ absurd (not (all_so all))
  | inr any ↦ any
]

-- the changes of a group's datasets all are, and no number is of both a record and a dead list
pub not_misnumbered : (known : Contents) (group : ℕ) (objects : ℕ → Option Object) (datasets : GroupDatasets) (pool : Pool) (readings : ℕ → Reading) (plain : PlainPool)
    (next : ℕ) → datasets.next ≤ next → datasets.bounds.behind ≤ next → SpellsGroup known group objects datasets pool readings plain → ¬ AreMisnumbered datasets.changes next
not_misnumbered known group objects datasets pool readings plain next low after spells (inl mixed) = spells.unmixed mixed
not_misnumbered known group objects datasets pool readings plain next low after spells (inr (changes, are, behind)) =
    let change = behind.1 in
    let high = behind.4 in
    let fresh = spells.fresh change.number (omega (arith, low, high)) (inr (omega (arith, after, high))) in
    let touched = All-contains (λ (c : ObjectChange). IsRecordChanged (record_at datasets.changes c.number) ⊎ (list_at datasets.changes c.number ≢ None)) changes change are.touched
    (behind.0, behind.2, behind.3) in
    elim touched [
      | inl changed ↦ changed.0 fresh.no_record
      | inr there ↦ there fresh.no_list
    ]
