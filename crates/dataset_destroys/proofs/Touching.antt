-- Which records and dead lists the destroy of a dataset touches.
use Rattle.std.proofs.Common.{◌≡◌, ◌≢◌, ◌⊎◌, ◌∙◌, ℕ, List, Option, inl, inr, sym, subst}
use Rattle.std.proofs.lemmas.Bool.{cases_eq}
use Rattle.block_pointer.specs.declared.block.Block.{Block}
use Rattle.dataset_chains.proofs.Touching.{all_read, at_most_on}
use Rattle.dataset_chains.specs.Refused.{HasKnown}
use Rattle.dataset_chains.specs.Touched.{AreAtMostRead, IsAtMostRead}
use Rattle.dataset_chains.specs.Over.{HasListNow, IsListNow}
use Rattle.dataset_chains.specs.States.{AreOfOneSet, HasListPut, HaveSameLists, HaveSameRecords, list_at, record_at}
use Rattle.dataset_chains.specs.DatasetChanges.{DatasetChanges}
use Rattle.dataset_chains.specs.ListState.{ListState}
use Rattle.dataset_chains.specs.RecordState.{RecordState}
use Rattle.meta_objset.specs.declared.record.DatasetKind.TheVariants.{Snapshot}
use Rattle.meta_objset.specs.declared.record.DatasetRecord.{DatasetRecord}
use Rattle.objset.specs.Objects.{Object}
use Rattle.dataset_destroys.proofs.ReadSteps.{one_set_on}
use Rattle.dataset_destroys.specs.Touched.{IsBeside, IsDestroyTouched, IsListBeside, TouchesOwnLists}

-- ---- records

-- the records are the same but for those of a dataset and of what is beside it
abbrev pub AreBesideTouched : DatasetChanges → DatasetChanges → ℕ → DatasetRecord → Type 0
AreBesideTouched old new number r = (one : ℕ) → (record_at new one ≡ record_at old one) ⊎ ((one ≡ number) ⊎ IsBeside r one)

-- ---- dead lists

-- the dead lists are the same but for two
abbrev pub AreTwoTouched : DatasetChanges → DatasetChanges → ℕ → ℕ → Type 0
AreTwoTouched old new from into = (list : ℕ) → (list_at new list ≡ list_at old list) ⊎ ((from ≡ list) ⊎ (into ≡ list))

-- ---- destroys

-- the records that are touched, behind those that were read
touched_read : (old read new : Option RecordState) (Touched : Type 0) → IsAtMostRead old read → (new ≡ read) ⊎ Touched → IsAtMostRead old new ⊎ Touched
touched_read old read new Touched reads (inl same) = inl (subst (λ (state : Option RecordState). IsAtMostRead old state) (sym same) reads)
touched_read old read new Touched reads (inr there) = inr there

module _ (old read new : DatasetChanges) (number : ℕ) (r : DatasetRecord) (one_set : AreOfOneSet old read) (reads : AreAtMostRead old read) (same_lists : HaveSameLists old read)
    (known : HasKnown read number r) where
  -- what was read is touched
  destroys : AreBesideTouched read new number r → ((list : ℕ) → (list_at new list ≡ list_at read list) ⊎ IsListBeside read r list) → IsDestroyTouched old new number
  destroys records lists = record {
    read = read;
    one_set = one_set;
    were = reads;
    r = r;
    known = known;
    touched = record {
      records = λ one. touched_read (record_at old one) (record_at read one) (record_at new one) ((one ≡ number) ⊎ IsBeside r one) (reads one) (records one);
      lists = λ list. elim (lists list) [
        | inl same ↦ inl (same ∙ same_lists list)
        | inr there ↦ inr there
      ];
    };
  }

  -- a snapshot's dead list is given over, the records are linked past it, and the list goes
  pub snapshot_touched : (given linked : DatasetChanges) (after : DatasetRecord) (state : Option ListState) → r.kind ≡ Snapshot → HasKnown read r.next after → r.next ≢ 0 → HaveSameRecords read given
      → AreTwoTouched read given r.dead_list after.dead_list → AreBesideTouched given linked number r → HaveSameLists given linked → HasListPut linked r.dead_list state new
      → HaveSameRecords linked new → IsDestroyTouched old new number
  snapshot_touched given linked after state kind known_after some kept two passed kept_lists put same = destroys
      (λ one. elim (passed one) [
        | inl is ↦ inl (same one ∙ is ∙ kept one)
        | inr there ↦ inr there
      ]) (λ list. elim (cases_eq list r.dead_list) [
        | inl own ↦ inr (inl (sym own))
        | inr other ↦ elim (two list) [
          | inl is ↦ inl (put.1 list other ∙ kept_lists list ∙ is)
          | inr (inl own) ↦ inr (inl own)
          | inr (inr its) ↦ inr (inr (kind, some, (after, known_after, its)))
        ]
      ])

  -- a head's dead list goes, and its record
  pub head_touched : (freed : DatasetChanges) (state : Option ListState) → HasListPut read r.dead_list state freed → HaveSameRecords read freed → AreBesideTouched freed new number r
      → HaveSameLists freed new → IsDestroyTouched old new number
  head_touched freed state put kept left kept_lists = destroys
      (λ one. elim (left one) [
        | inl is ↦ inl (is ∙ kept one)
        | inr there ↦ inr there
      ]) (λ list. elim (cases_eq list r.dead_list) [
        | inl own ↦ inr (inl (sym own))
        | inr other ↦ inl (kept_lists list ∙ put.1 list other)
      ])

-- behind the read of its record
pub touched_behind : (old read new : DatasetChanges) (number : ℕ) → AreOfOneSet old read → AreAtMostRead old read → HaveSameLists old read → IsDestroyTouched read new number
    → IsDestroyTouched old new number
touched_behind old read new number one_set reads lists it = record {
  read = it.read;
  one_set = one_set_on old read it.read one_set it.one_set;
  were = all_read old read it.read reads it.were;
  r = it.r;
  known = it.known;
  touched = record {
    records = λ one. elim (it.touched.records one) [
      | inl kept ↦ inl (at_most_on (record_at old one) (record_at read one) (record_at new one) (reads one) kept)
      | inr there ↦ inr there
    ];
    lists = λ list. elim (it.touched.lists list) [
      | inl same ↦ inl (same ∙ lists list)
      | inr there ↦ inr there
    ];
  };
}

-- ---- dead lists that were there

-- a dead list that was there, at a number that is the same
own_list : (objects : ℕ → Option Object) (old : DatasetChanges) (number list : ℕ) (dead : List Block) → list ≡ number → HasListNow objects old number dead
    → (own : List Block) × HasListNow objects old list own
own_list objects old number list dead is has = (dead, subst (λ k. HasListNow objects old k dead) (sym is) has)

module _ (objects : ℕ → Option Object) (old read new : DatasetChanges) (same_lists : HaveSameLists old read) where
  -- a snapshot's dead list was there, and that of what comes after it
  pub snapshot_own_lists : (given linked : DatasetChanges) (from into : ℕ) (state : Option ListState) (own dead : List Block) → HasListNow objects old from own → HasListNow objects old into dead
      → AreTwoTouched read given from into → HaveSameLists given linked → HasListPut linked from state new → TouchesOwnLists objects old new
  snapshot_own_lists given linked from into state own dead has has_after two kept_lists put list = elim (cases_eq list from) [
    | inl is ↦ inr (own_list objects old from list own is has)
    | inr other ↦ elim (two list) [
      | inl same ↦ inl (put.1 list other ∙ kept_lists list ∙ same ∙ same_lists list)
      | inr (inl is) ↦ inr (own_list objects old from list own (sym is) has)
      | inr (inr is) ↦ inr (own_list objects old into list dead (sym is) has_after)
    ]
  ]

  -- so was a head's
  pub head_own_lists : (freed : DatasetChanges) (number : ℕ) (state : Option ListState) (dead : List Block) → HasListNow objects old number dead → HasListPut read number state freed
      → HaveSameLists freed new → TouchesOwnLists objects old new
  head_own_lists freed number state dead has put kept_lists list = elim (cases_eq list number) [
    | inl is ↦ inr (own_list objects old number list dead is has)
    | inr other ↦ inl (kept_lists list ∙ put.1 list other ∙ same_lists list)
  ]

  -- those that were there behind the read of its record were there
  pub own_lists_behind : TouchesOwnLists objects read new → TouchesOwnLists objects old new
  own_lists_behind there list = elim (there list) [
    | inl same ↦ inl (same ∙ same_lists list)
    | inr own ↦ inr (own.0, subst (λ (state : Option ListState). IsListNow (objects list) state own.0) (same_lists list) own.1)
  ]
