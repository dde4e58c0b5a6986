-- Which records and dead lists are touched where volumes and clones are made and snapshots taken.
use Rattle.std.proofs.Common.{◌≡◌, ◌⊎◌, ◌+◌, ◌*◌, ℕ, List, [], ◌∷◌, ◌++◌, length, Contains, inl, inr, refl, sym, ◌∙◌, arith}
use Rattle.std.proofs.lemmas.List.{length-append}
use Rattle.std.proofs.lemmas.List.Quantifiers.{Any-push}
use Rattle.dataset_destroys.specs.ChainRefused.{HasKnown}
use Rattle.dataset_destroys.specs.ChainTouched.{TouchesOnly}
use Rattle.dataset_destroys.proofs.ChainChained.{one_set_on}
use Rattle.dataset_destroys.proofs.ChainTouching.{at_most_on}
use Rattle.dataset_destroys.specs.States.{AreOfOneSet, record_at}
use Rattle.dataset_destroys.specs.DatasetChanges.{DatasetChanges}
use Rattle.meta_objset.specs.declared.directory.DirectoryRow.{DirectoryRow}
use Rattle.meta_objset.specs.declared.record.DatasetRecord.{DatasetRecord}
use Rattle.pool_model.specs.declared.item.Action.{Action}
use Rattle.pool_model.specs.declared.item.Change.{Change}
use Rattle.pool_model.specs.declared.item.Change.TheVariants.{Clone, Create, Destroy, Snapshot}
use Rattle.dataset_groups.specs.Touched.{IsBeforeTaken, IsClonedBy, IsHeadTaken, IsNewNumber, IsOriginTaken, IsTakenBy, TouchesChange, TouchesMade, TouchesNew}
use Rattle.dataset_groups.proofs.ListParts.{any_append_left}

-- ---- one change

pub touches_one : (old new : DatasetChanges) (next list : ℕ) → list ≡ next + 1 → TouchesOnly old new (λ one. one ≡ next) (λ one. one ≡ list) → TouchesNew old new next
touches_one old new next list behind touched = record {
  records = λ number. elim (touched.records number) [
    | inl kept ↦ inl kept
    | inr here ↦ inr (omega (arith, here), omega (arith, here))
  ];
  lists = λ number. elim (touched.lists number) [
    | inl kept ↦ inl kept
    | inr here ↦ inr (omega (arith, here, behind), omega (arith, here, behind))
  ];
}

-- a record of the volume that the change takes a snapshot of, as it came so far, has this one before it
abbrev IsBeforeOne : DatasetChanges → List DirectoryRow → Change → ℕ → Type 0
IsBeforeOne changes rows change number =
    (far : DatasetChanges) × AreOfOneSet changes far × (head : ℕ) × IsTakenBy rows head change × ((r : DatasetRecord) × HasKnown far head r × (r.previous ≡ number))

-- one of the records that a change touches
abbrev IsTouchedBy : DatasetChanges → List DirectoryRow → ℕ → Change → ℕ → Type 0
IsTouchedBy changes rows next change number = IsNewNumber next 1 number ⊎ (IsTakenBy rows number change ⊎ (IsBeforeOne changes rows change number ⊎ IsClonedBy rows number change))

by_change : (old new : DatasetChanges) (rows : List DirectoryRow) (next : ℕ) (change : Change) → TouchesChange old new rows next change
    → TouchesOnly old new (IsTouchedBy old rows next change) (IsNewNumber next 1)
by_change old new rows next (Destroy name) touched = absurd touched
by_change old new rows next (Create name size block_size) touched = record {
  records = λ number. elim (touched.records number) [
    | inl kept ↦ inl kept
    | inr made ↦ inr (inl made)
  ];
  lists = touched.lists;
}
by_change old new rows next (Snapshot volume part) (row, held, named, taken) = record {
  records = λ number. elim (taken.touched.records number) [
    | inl kept ↦ inl kept
    | inr (inl made) ↦ inr (inl (omega (arith, made), omega (arith, made)))
    | inr (inr (inl head)) ↦ inr (inr (inl (row, held, named, sym head)))
    | inr (inr (inr before)) ↦ inr (inr (inr (inl (taken.far, taken.one_set, row.object, (row, held, named, refl), (taken.r, taken.known, sym before.0)))))
  ];
  lists = λ number. elim (taken.touched.lists number) [
    | inl kept ↦ inl kept
    | inr made ↦ inr (omega (arith, made), omega (arith, made))
  ];
}
by_change old new rows next (Clone snapshot name) (row, held, named, cloned) = record {
  records = λ number. elim (cloned.records number) [
    | inl kept ↦ inl kept
    | inr (inl made) ↦ inr (inl (omega (arith, made), omega (arith, made)))
    | inr (inr origin) ↦ inr (inr (inr (inr (row, held, named, sym origin))))
  ];
  lists = λ number. elim (cloned.lists number) [
    | inl kept ↦ inl kept
    | inr made ↦ inr (omega (arith, made), omega (arith, made))
  ];
}

-- ---- one after the other

pub touches_none : (changes : DatasetChanges) (rows : List DirectoryRow) (next : ℕ) → TouchesMade changes changes rows next []
touches_none changes rows next = record { records = λ number. inl (inl refl); lists = λ number. inl refl }

module _ (next mid : ℕ) (made : List Action) (action : Action) (at : mid ≡ next + 2 * length made) (rows more_rows : List DirectoryRow)
    (grows : (row : DirectoryRow) → Contains rows row → Contains more_rows row) (old between new : DatasetChanges) (one_set : AreOfOneSet old between) where
  abbrev all : List Action
  all = made ++ action ∷ []

  one_more : length all ≡ length made + 1
  one_more = length-append made (action ∷ [])

  number_sooner : (number : ℕ) → IsNewNumber next (length made) number → IsNewNumber next (length all) number
  number_sooner number is = let low = is.1 in (is.0, omega (arith, low, one_more))

  number_later : (number : ℕ) → IsNewNumber mid 1 number → IsNewNumber next (length all) number
  number_later number is = let high = is.0 in let low = is.1 in (omega (arith, high, at), omega (arith, low, at, one_more))

  taken_grows : (number : ℕ) (change : Change) → IsTakenBy rows number change → IsTakenBy more_rows number change
  taken_grows number (Create name size block_size) taken = taken
  taken_grows number (Snapshot volume part) (row, held, named, is) = (row, grows row held, named, is)
  taken_grows number (Clone snapshot name) taken = taken
  taken_grows number (Destroy name) taken = taken

  cloned_grows : (number : ℕ) (change : Change) → IsClonedBy rows number change → IsClonedBy more_rows number change
  cloned_grows number (Create name size block_size) cloned = cloned
  cloned_grows number (Snapshot volume part) cloned = cloned
  cloned_grows number (Destroy name) cloned = cloned
  cloned_grows number (Clone snapshot name) (row, held, named, is) = (row, grows row held, named, is)

  taken_sooner : (number : ℕ) → IsHeadTaken rows made number → IsHeadTaken more_rows all number
  taken_sooner number taken =
      any_append_left (λ (a : Action). IsTakenBy more_rows number a.change) made action (taken.0, taken.1, taken.2, taken.3, taken_grows number taken.1.change taken.4)

  taken_later : (number : ℕ) → IsTakenBy rows number action.change → IsHeadTaken more_rows all number
  taken_later number taken = Any-push (λ (a : Action). IsTakenBy more_rows number a.change) made action (taken_grows number action.change taken)

  before_sooner : (number : ℕ) → IsBeforeTaken old rows made number → IsBeforeTaken old more_rows all number
  before_sooner number (far, same, head, taken, before) = (far, same, head, taken_sooner head taken, before)

  before_later : (number : ℕ) → IsBeforeOne between rows action.change number → IsBeforeTaken old more_rows all number
  before_later number (far, same, head, taken, before) = (far, one_set_on old between far one_set same, head, taken_later head taken, before)

  origin_sooner : (number : ℕ) → IsOriginTaken rows made number → IsOriginTaken more_rows all number
  origin_sooner number cloned =
      any_append_left (λ (a : Action). IsClonedBy more_rows number a.change) made action (cloned.0, cloned.1, cloned.2, cloned.3, cloned_grows number cloned.1.change cloned.4)

  origin_later : (number : ℕ) → IsClonedBy rows number action.change → IsOriginTaken more_rows all number
  origin_later number cloned = Any-push (λ (a : Action). IsClonedBy more_rows number a.change) made action (cloned_grows number action.change cloned)

  pub touches_on : TouchesMade old between rows next made → TouchesChange between new rows mid action.change → TouchesMade old new more_rows next all
  touches_on one change =
      let two = by_change between new rows mid action.change change in
      record {
        records = λ number. elim (one.records number) [
          | inr (inl is) ↦ inr (inl (number_sooner number is))
          | inr (inr (inl taken)) ↦ inr (inr (inl (taken_sooner number taken)))
          | inr (inr (inr (inl before))) ↦ inr (inr (inr (inl (before_sooner number before))))
          | inr (inr (inr (inr origin))) ↦ inr (inr (inr (inr (origin_sooner number origin))))
          | inl kept ↦ elim (two.records number) [
            | inr (inl is) ↦ inr (inl (number_later number is))
            | inr (inr (inl taken)) ↦ inr (inr (inl (taken_later number taken)))
            | inr (inr (inr (inl before))) ↦ inr (inr (inr (inl (before_later number before))))
            | inr (inr (inr (inr origin))) ↦ inr (inr (inr (inr (origin_later number origin))))
            | inl still ↦ inl (at_most_on (record_at old number) (record_at between number) (record_at new number) kept still)
          ]
        ];
        lists = λ number. elim (one.lists number) [
          | inr is ↦ inr (number_sooner number is)
          | inl kept ↦ elim (two.lists number) [
            | inr is ↦ inr (number_later number is)
            | inl still ↦ inl (still ∙ kept)
          ]
        ];
      }
