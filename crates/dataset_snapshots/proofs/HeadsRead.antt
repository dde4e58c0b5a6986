-- A head that a group reads, and what its datasets are then.
use Rattle.std.proofs.Common.{◌≡◌, ◌⊎◌, inl, inr, ℕ, ◌<◌, List, [], Contains, Option, Some, None, refl, sym, ap, subst, ◌∙◌, arith}
use Rattle.std.proofs.lemmas.Bool.{cases_eq, cases_lt}
use Rattle.block_pointer.specs.declared.block.Block.{Block}
use Rattle.block_store.specs.Blocks.{Contents}
use Rattle.block_store.specs.declared.refusal.Refusal.{Refusal}
use Rattle.block_store.specs.declared.refusal.Refusal.TheVariants.{NoMemory}
use Rattle.block_store.specs.Spaces.{VdevSpace}
use Rattle.block_store.specs.Steps.{OnlyReadsBlocks}
use Rattle.block_store.specs.Store.{Store}
use Rattle.dataset_groups.proofs.ChainReadRecords.{read_on}
use Rattle.dataset_groups.proofs.ChainTouching.{at_most_on, read_at_most}
use Rattle.dataset_groups.specs.ChainTouched.{IsAtMostRead, TouchesOnly}
use Rattle.dataset_groups.specs.Over.{AreOver, HasRecordNow, IsListOver, IsRecordNow}
use Rattle.dataset_groups.specs.ChangesRefused.{IsRecordUnread}
use Rattle.dataset_groups.specs.Numbers.{IsNumber}
use Rattle.dataset_groups.specs.States.{AreOfOneSet, HasRecordPut, HaveSameLists, birth_of, list_at, once_read, record_at, set_of}
use Rattle.dataset_groups.specs.DatasetChanges.{DatasetChanges}
use Rattle.dataset_groups.specs.ListState.{ListState}
use Rattle.dataset_groups.specs.ListState.TheVariants as lists
use Rattle.dataset_groups.specs.RecordState.{RecordState}
use Rattle.dataset_groups.specs.RecordState.TheVariants as records
use Rattle.dataset_groups.specs.declared.datasets.GroupDatasets.{GroupDatasets}
use Rattle.dataset_groups.specs.Groups.{IsWithin}
use Rattle.dataset_groups.specs.declared.writing.WrittenHead.{WrittenHead}
use Rattle.dataset_groups.specs.Names.{NamesPool}
use Rattle.dataset_groups.specs.Lists.{dead_list_kind}
use Rattle.dnode.specs.declared.object_set.ObjectSet.{ObjectSet}
use Rattle.dnode.specs.ObjectSet.{FitsObjectSet}
use Rattle.meta_objset.specs.Datasets.{HasRecord}
use Rattle.meta_objset.specs.declared.directory.DirectoryRow.{DirectoryRow}
use Rattle.meta_objset.specs.declared.record.DatasetRecord.{DatasetRecord}
use Rattle.meta_objset.specs.Found.{IsRecordRefused}
use Rattle.object_table.specs.Tables.{IsOfKind}
use Rattle.objset.specs.Objects.{AreObjects, Object}
use Rattle.pool_model.specs.declared.item.Write.{Write}
use Rattle.pool_model.specs.declared.volume.PlainVolume.{PlainVolume}
use Rattle.volume.specs.declared.volume.VolumeSet.{VolumeSet}
use Rattle.volume.specs.Volume.{HasShape, IsVolume, Spells, block_of, block_size_of, size_of}
use Rattle.dataset_snapshots.specs.Opening.{AreBlocksRefused, IsHeadFound, IsOneUnread, IsWrittenOf, IsWrittenRefused}
use Rattle.dataset_snapshots.specs.Pools.{SpellsDataset}
use Rattle.dataset_snapshots.proofs.ChangedRows.{none_behind}
use Rattle.dataset_snapshots.specs.Writing.{HasRow, IsNone, IsVolumeIn, KeepsDatasets, KeepsGroup}

-- ---- an object has no dead list where it has a record

not_both : (object : Option Object) (r : DatasetRecord) (there : Object) → HasRecord object r → object ≡ Some there → IsOfKind dead_list_kind there → ⊥
not_both object r there has is kind =
    let same : has.there ≡ there = let e : Some has.there ≡ Some there = sym has.is ∙ is in cc in
    let type_is = ap (λ (o : Object). o.object_type) same in
    let one = has.of_record.object_type in
    let two = kind.0 in
    omega (arith, type_is, one, two)

no_list : (object : Option Object) (state : Option ListState) (r : DatasetRecord) → IsListOver object state → HasRecord object r → state ≡ None
no_list object None r over has = refl
no_list object (Some (lists.Added end blocks)) r over has = let table = over.2.table in absurd (not_both object r table.there has table.is table.of_kind)
no_list object (Some (lists.Whole list)) r over has = absurd (not_both object r over.0 has over.1 over.2)
no_list object (Some (lists.Made list)) r over has = let clash : Some has.there ≡ None = sym has.is ∙ over in absurd cc
no_list object (Some lists.Gone) r over has = absurd (not_both object r over.0 has over.1 over.2)

-- ---- a record that its object has

pub record_here : (there : ℕ → Option Object) (changes : DatasetChanges) (m n : ℕ) (r : DatasetRecord) → m ≡ n → record_at changes n ≡ None → HasRecord (there m) r → HasRecordNow there changes n r
record_here there changes m n r same none has =
    subst (λ (state : Option RecordState). IsRecordNow (there n) state r) (sym none) (subst (λ (k : ℕ). HasRecord (there k) r) same has)

pub number_is : (stored : Contents) (birth : ℕ) (set : ObjectSet) (there : ℕ → Option Object) (own : List Block) (blocks : ℕ → List Block) (m n : ℕ) (r : DatasetRecord) → FitsObjectSet set
    → AreObjects stored birth set there own blocks → m ≡ n → 4 < m → HasRecord (there m) r → IsNumber n
number_is stored birth set there own blocks m n r fits are same behind has =
    let most = fits.1.within in
    let high = fits.0.0.highest in (
      omega (arith, same, behind),
      elim (cases_lt n set.objects) [
        | inl lt ↦ omega (arith, lt, most, high)
        | inr ge ↦ let clash : None ≡ Some has.there = sym (none_behind stored birth set there own blocks n are ge) ∙ (ap there (sym same) ∙ has.is) in absurd cc
      ],
    )

-- ---- the datasets, once a record was read

module _ (old new : GroupDatasets) (n : ℕ) (found : DatasetRecord) (directory : new.directory ≡ old.directory) (next : new.next ≡ old.next) (bounds : new.bounds ≡ old.bounds)
    (put : HasRecordPut old.changes n (Some (once_read (record_at old.changes n) found)) new.changes) (same_lists : HaveSameLists old.changes new.changes) where
  pub keeps_datasets : AreOfOneSet old.changes new.changes → KeepsDatasets old new
  keeps_datasets one_set = record {
    directory = directory;
    next = next;
    bounds = bounds;
    one_set = one_set;
    touched = record { records = λ m. inl (read_at_most old.changes new.changes n found put m); lists = λ m. inl (same_lists m) };
  }

  pub keeps_group : (there : ℕ → Option Object) → record_at old.changes n ≡ None
      → (AreOver there old.changes → AreOver there new.changes × HasRecordNow there old.changes n found × ((r : DatasetRecord) → HasRecordNow there old.changes n r → r ≡ found))
      → KeepsGroup there old new
  keeps_group there none value known group pool readings plain spells =
      let is = value spells.chains.over in
      let has : HasRecord (there n) found = subst (λ (state : Option RecordState). IsRecordNow (there n) state found) none is.1 in
      record {
        chains = read_on known group there pool readings old.changes new.changes n found put same_lists is spells.chains;
        names = subst (λ (rows : List DirectoryRow). NamesPool pool readings rows plain) (sym directory) spells.names;
        fresh = λ number le within.
            let fresh = spells.fresh number (omega (arith, le, next)) (subst (λ b. IsWithin b number) bounds within) in
            record {
              no_object = fresh.no_object;
              no_record = elim (cases_eq number n) [
                | inl e ↦ let clash : Some has.there ≡ None = sym has.is ∙ (ap there (sym e) ∙ fresh.no_object) in absurd cc
                | inr ne ↦ put.1 number ne ∙ fresh.no_record
              ];
              no_list = same_lists number ∙ fresh.no_list;
            };
        unmixed = λ mixed. elim (cases_eq mixed.0 n) [
          | inl e ↦ mixed.2 (same_lists mixed.0 ∙ (ap (λ (k : ℕ). list_at old.changes k) e ∙ no_list (there n) (list_at old.changes n) found (spells.chains.over.lists n) has))
          | inr ne ↦ spells.unmixed (mixed.0, λ free. mixed.1 (put.1 mixed.0 ne ∙ free), λ free. mixed.2 (same_lists mixed.0 ∙ free))
        ];
      }

-- ---- one after another

at_most : (old new : DatasetChanges) → TouchesOnly old new IsNone IsNone → (n : ℕ) → IsAtMostRead (record_at old n) (record_at new n)
at_most old new only n = elim (only.records n) [
  | inl read ↦ read
  | inr wrong ↦ absurd wrong
]

same_list : (old new : DatasetChanges) → TouchesOnly old new IsNone IsNone → HaveSameLists old new
same_list old new only n = elim (only.lists n) [
  | inl same ↦ same
  | inr wrong ↦ absurd wrong
]

pub kept_on : (old mid new : GroupDatasets) → KeepsDatasets old mid → KeepsDatasets mid new → KeepsDatasets old new
kept_on old mid new one two = record {
  directory = two.directory ∙ one.directory;
  next = two.next ∙ one.next;
  bounds = two.bounds ∙ one.bounds;
  one_set = (two.one_set.0 ∙ one.one_set.0, two.one_set.1 ∙ one.one_set.1);
  touched = record {
    records = λ n. inl
        (at_most_on (record_at old.changes n) (record_at mid.changes n) (record_at new.changes n) (at_most old.changes mid.changes one.touched n) (at_most mid.changes new.changes two.touched n));
    lists = λ n. inl (same_list mid.changes new.changes two.touched n ∙ same_list old.changes mid.changes one.touched n);
  };
}

module _ (before now : GroupDatasets) (kept : KeepsDatasets before now) where
  pub objects_kept : (stored : Contents) (birth : ℕ) (there : ℕ → Option Object) (own : List Block) (blocks : ℕ → List Block) → AreObjects stored birth (set_of before.changes) there own blocks
      → AreObjects stored birth (set_of now.changes) there own blocks
  objects_kept stored birth there own blocks are = subst (λ (set : ObjectSet). AreObjects stored birth set there own blocks) (sym kept.one_set.0) are

  pub rows_kept : (P : List DirectoryRow → Type 0) → P before.directory → P now.directory
  rows_kept P is = subst P (sym kept.directory) is

  pub from_kept : (P : List DirectoryRow → Type 0) → P now.directory → P before.directory
  from_kept P is = subst P kept.directory is

  module _ (old mid : Store) (birth : ℕ) (writes : List Write) (reads : OnlyReadsBlocks old mid []) where
    pub found_first : (head : WrittenHead) → IsWrittenOf mid.spaces (set_of now.changes) birth writes now.directory head → IsWrittenOf old.spaces (set_of before.changes) birth writes before.directory head
    found_first head found =
        subst (λ (spaces : List VdevSpace). IsWrittenOf spaces (set_of before.changes) birth writes before.directory head) (ap (λ (s : Store). s.spaces) reads.rest)
        (subst (λ (set : ObjectSet). IsWrittenOf mid.spaces set birth writes before.directory head) kept.one_set.0
        (subst (λ (rows : List DirectoryRow). IsWrittenOf mid.spaces (set_of now.changes) birth writes rows head) kept.directory found))

    pub unread_last : (new : Store) (objects : List ℕ) (n : ℕ) (refusal : Refusal) → Contains objects n
        → (row : DirectoryRow) × HasRow now.directory n row × IsWrittenRefused mid new (set_of now.changes) birth writes row refusal
        → IsOneUnread old new (set_of before.changes) birth writes before.directory objects refusal
    unread_last new objects n refusal one (row, is, why) = record {
      row = row;
      is_one = subst (Contains objects) (sym is.1) one;
      is_row = subst (λ (rows : List DirectoryRow). Contains rows row) kept.directory is.0;
      mid = mid;
      before = reads;
      why = subst (λ (set : ObjectSet). IsWrittenRefused mid new set birth writes row refusal) kept.one_set.0 why;
    }

-- ---- the volume of a record

module _ (stored : Contents) (birth : ℕ) (there : ℕ → Option Object) (row : DirectoryRow) (volume : PlainVolume) (found : DatasetRecord) (set : VolumeSet)
    (is : SpellsDataset stored birth there row volume) (same : is.r ≡ found) (shape : HasShape set found.size found.block_size) (block : block_of set ≡ found.object_set) where
  size_is : is.r.size ≡ size_of set
  size_is = ap (λ (r : DatasetRecord). r.size) same ∙ sym shape.0

  pub block_size_is : is.r.block_size ≡ block_size_of set
  block_size_is = ap (λ (r : DatasetRecord). r.block_size) same ∙ sym shape.1

  block_is : is.r.object_set ≡ block_of set
  block_is = ap (λ (r : DatasetRecord). r.object_set) same ∙ sym block

  pub volume_in : IsVolumeIn set is.r
  volume_in = ((sym size_is, sym block_size_is), sym block_is)

  pub volume_spelled : Spells stored birth set volume.bytes
  volume_spelled =
      subst (λ (n : ℕ). IsVolume stored birth (block_of set) (size_of set) n volume.bytes) block_size_is
      (subst (λ (n : ℕ). IsVolume stored birth (block_of set) n is.r.block_size volume.bytes) size_is
      (subst (λ (b : Block). IsVolume stored birth b is.r.size is.r.block_size volume.bytes) block_is is.bytes))

-- ---- why it isn't read

pub record_refused : (old new : Store) (changes : DatasetChanges) (birth : ℕ) (writes : List Write) (row : DirectoryRow) (n : ℕ) (refusal : Refusal) → row.object ≡ n → birth_of changes ≡ birth
    → record_at changes n ≡ None → IsRecordUnread old new changes n refusal → IsWrittenRefused old new (set_of changes) birth writes row refusal
record_refused old new changes birth writes row n refusal same born none (inl memory) = inl memory
record_refused old new changes birth writes row n refusal same born none (inr (inl why)) =
    inr (inr (inl (subst (λ (b : ℕ). IsRecordRefused old new [] (set_of changes) b row.object refusal) born
    (subst (λ (m : ℕ). IsRecordRefused old new [] (set_of changes) (birth_of changes) m refusal) (sym same) why))))
record_refused old new changes birth writes row n refusal same born none (inr (inr (bad, inl other))) =
    inr (inl (bad, λ number. other (subst IsNumber same number)))
record_refused old new changes birth writes row n refusal same born none (inr (inr (bad, inr gone))) =
    let clash : None ≡ Some records.Gone = sym none ∙ gone in absurd cc

pub blocks_refused : (old mid new : Store) (set : ObjectSet) (birth : ℕ) (writes : List Write) (row : DirectoryRow) (volume : VolumeSet) (refusal : Refusal) → OnlyReadsBlocks old mid []
    → IsHeadFound old.spaces set birth row volume → (refusal ≡ NoMemory) ⊎ AreBlocksRefused mid new volume birth writes row refusal → IsWrittenRefused old new set birth writes row refusal
blocks_refused old mid new set birth writes row volume refusal before found (inl memory) = inl memory
blocks_refused old mid new set birth writes row volume refusal before found (inr why) =
    inr (inr (inr (record { volume = volume; found = found; mid = mid; before = before; why = why })))
