-- What a group is planned from, once its datasets are destroyed.
use Rattle.std.specs.Prelude.{Any}
use Rattle.std.proofs.Common.{◌≡◌, ◌↔◌, Bool, IsTrue, false, true≢false, ℕ, ◌<◌, ◌-◌, List, [], ◌∷◌, All, Contains, inl, inr, sym, ap, subst, ◌∙◌}
use Rattle.std.proofs.lemmas.List.Elements.{All-contains}
use Rattle.block_pointer.specs.declared.block.Block.{Block}
use Rattle.block_store.specs.Blocks.{Contents}
use Rattle.block_store.specs.Spaces.{VdevSpace}
use Rattle.dataset_groups.specs.Chains.{Reading}
use Rattle.dataset_groups.specs.States.{birth_of, set_of}
use Rattle.dataset_groups.specs.declared.datasets.GroupDatasets.{GroupDatasets}
use Rattle.dataset_groups.specs.declared.writing.WrittenHead.{WrittenHead}
use Rattle.dataset_groups.specs.Demands.{IsNameThere}
use Rattle.dataset_groups.specs.Destroys.{AreDestroyed, DestroysAll, DestroysOne, IsRowGone, KeepsNamed}
use Rattle.dataset_groups.specs.Leaving.{IsReachExchanged}
use Rattle.dataset_groups.specs.Names.{IsOfKind, NamesVolume, reach_by}
use Rattle.dataset_groups.specs.Writing.{AreWritten, IsAfterWrites, IsHeadRead}
use Rattle.dead_list.specs.Datasets.{Kind, Pool}
use Rattle.dead_list.specs.Operations.{IsHead, IsWritable}
use Rattle.dnode.specs.declared.object_set.ObjectSet.{ObjectSet}
use Rattle.meta_objset.specs.declared.directory.DirectoryRow.{DirectoryRow}
use Rattle.meta_objset.specs.Names.{IsNamed}
use Rattle.objset.specs.Objects.{AreObjects}
use Rattle.pool_model.specs.declared.item.Write.{Write}
use Rattle.pool_model.specs.declared.volume.PlainVolume.{PlainVolume}
use Rattle.pool_model.specs.Pools.{PlainPool}
use Rattle.dataset_snapshots.specs.declared.groups.Begun.{Begun}
use Rattle.dataset_snapshots.specs.Groups.{AreRowsLeft, IsBegunFrom}
use Rattle.dataset_snapshots.specs.Opening.{IsBegunFound}
use Rattle.dataset_snapshots.specs.Pools.{SpellsPool}
use Rattle.dataset_snapshots.specs.Writing.{IsWritten, IsWrittenBut}
use Rattle.dataset_snapshots.proofs.ChangedRows.{all_from, any_of, first_or_later, is_first, is_later, nothing_in}

any_first : {X : Type 0} (P : X → Type 0) (x : X) (xs : List X) → P x → Any P (x ∷ xs)
any_first P x xs is = any_of P (x ∷ xs) x (is_first x xs) is

any_later : {X : Type 0} (P : X → Type 0) (x : X) (xs : List X) → Any P xs → Any P (x ∷ xs)
any_later P x xs (k, y, low, at, is) = any_of P (x ∷ xs) y (is_later x y xs (k, low, at)) is

-- ---- the rows that are left

row_gone : (old new : GroupDatasets) (name : List ℕ) → DestroysOne old new name → IsRowGone old.directory name new.directory
row_gone old new name (inl (none, same)) row =
    let rows : new.directory ≡ old.directory = ap (λ (d : GroupDatasets). d.directory) same in (
      λ held. let there = subst (λ (list : List DirectoryRow). Contains list row) rows held in (there, λ named. none (row, there, named)),
      λ both. subst (λ (list : List DirectoryRow). Contains list row) (sym rows) both.0,
    )
row_gone old new name (inr one) row = one.rows row

pub rows_left : (old new : GroupDatasets) (names : List (List ℕ)) → DestroysAll old new names → AreRowsLeft old.directory names new.directory
rows_left old new [] same row =
    let rows : new.directory ≡ old.directory = ap (λ (d : GroupDatasets). d.directory) same in (
      λ held. (subst (λ (list : List DirectoryRow). Contains list row) rows held, λ name none. absurd (nothing_in name none)),
      λ both. subst (λ (list : List DirectoryRow). Contains list row) (sym rows) both.0,
    )
rows_left old new (name ∷ names) (mid, one, rest) row =
    let first = row_gone old mid name one row in
    let later = rows_left mid new names rest row in (
      λ held.
          let still = later.0 held in
          let before = first.0 still.0 in (
            before.0,
            λ other named is. elim (first_or_later name other names named) [
              | inl same ↦ before.1 (subst (IsNamed row.name) (sym same) is)
              | inr behind ↦ still.1 other behind is
            ],
          ),
      λ both. later.1 (first.1 (both.0, both.1 name (is_first name names)), λ other behind. both.1 other (is_later name other names behind)),
    )

next_stays : (old new : GroupDatasets) (name : List ℕ) → DestroysOne old new name → new.next ≡ old.next
next_stays old new name (inl (none, same)) = ap (λ (d : GroupDatasets). d.next) same
next_stays old new name (inr one) = one.next

pub next_left : (old new : GroupDatasets) (names : List (List ℕ)) → DestroysAll old new names → new.next ≡ old.next
next_left old new [] same = ap (λ (d : GroupDatasets). d.next) same
next_left old new (name ∷ names) (mid, one, rest) = next_left mid new names rest ∙ next_stays old mid name one

bounds_stay : (old new : GroupDatasets) (name : List ℕ) → DestroysOne old new name → new.bounds ≡ old.bounds
bounds_stay old new name (inl (none, same)) = ap (λ (d : GroupDatasets). d.bounds) same
bounds_stay old new name (inr one) = one.bounds

pub bounds_left : (old new : GroupDatasets) (names : List (List ℕ)) → DestroysAll old new names → new.bounds ≡ old.bounds
bounds_left old new [] same = ap (λ (d : GroupDatasets). d.bounds) same
bounds_left old new (name ∷ names) (mid, one, rest) = bounds_left mid new names rest ∙ bounds_stay old mid name one

-- where no name is there nothing goes
pub rows_same : (old new : GroupDatasets) (names : List (List ℕ)) → DestroysAll old new names → ¬ Any (IsNameThere old.directory) names → new.directory ≡ old.directory
rows_same old new [] same none = ap (λ (d : GroupDatasets). d.directory) same
rows_same old new (name ∷ names) (mid, inl (not_there, same), rest) none =
    let rows : mid.directory ≡ old.directory = ap (λ (d : GroupDatasets). d.directory) same in
    rows_same mid new names rest (λ some. none (any_later (IsNameThere old.directory) name names (subst (λ (list : List DirectoryRow). Any (IsNameThere list) names) rows some))) ∙ rows
rows_same old new (name ∷ names) (mid, inr one, rest) none = absurd (none (any_first (IsNameThere old.directory) name names (one.row, one.held, one.named)))

-- so the rows are those that there were
pub not_renamed : (old new : GroupDatasets) (names : List (List ℕ)) (renamed : Bool) → DestroysAll old new names → (IsTrue renamed ↔ Any (IsNameThere old.directory) names) → renamed ≡ false
    → new.directory ≡ old.directory
not_renamed old new names renamed which is none = rows_same old new names which (λ some. true≢false (sym (is.1 some) ∙ none))

-- what is written to by the rows that are left is so by all, and not destroyed
pub written_but : (rows left : List DirectoryRow) (destroyed : List (List ℕ)) (writes : List Write) (object : ℕ) → AreRowsLeft rows destroyed left → IsWritten left writes object
    → IsWrittenBut rows destroyed writes object
written_but rows left destroyed writes object still (k, write, low, at, (volume, (row, held, named, is))) =
    let there = (still row).0 held in
    (k, write, low, at, (volume, ((λ gone. there.1 write.volume gone named), (row, there.0, named, is))))

-- ---- heads that are written to

module _ (pool after : Pool) (readings : ℕ → Reading) (rows : List DirectoryRow) (keeps : KeepsNamed pool after rows) where
  named_before : (row : DirectoryRow) (volume : PlainVolume) → Contains rows row → NamesVolume after readings row volume → NamesVolume pool readings row volume
  named_before row volume held named = record {
    name = named.name;
    good = named.good;
    kind = subst (λ (kind : Kind). IsOfKind volume.kind kind) (keeps.kinds row held) named.kind;
    created = sym (keeps.groups row held) ∙ named.created;
    array = named.array;
    block_size = named.block_size;
  }

  module _ (stored : Contents) (bound : ℕ) (writes : List Write) (heads : List WrittenHead) (are : AreWritten stored bound pool readings rows writes heads) where
    row_of : (head : WrittenHead) → Contains heads head → (row : DirectoryRow) × Contains rows row × (row.object ≡ head.number)
    row_of head held = All-contains (λ (h : WrittenHead). (row : DirectoryRow) × Contains rows row × (row.object ≡ h.number)) heads head are.named held

    read_still : (head : WrittenHead) → Contains heads head → IsHeadRead stored bound after readings head
    read_still head held =
        let row = row_of head held in
        let read = All-contains (IsHeadRead stored bound pool readings) heads head are.read held in
        record {
          is = read.is;
          blocks = subst (λ (n : ℕ). (after.datasets n).blocks ≡ (pool.datasets n).blocks) row.2 (keeps.blocks row.0 row.1) ∙ read.blocks;
          block_size = read.block_size;
        }

    head_still : (head : WrittenHead) → Contains heads head → IsHead after.datasets head.number
    head_still head held =
        let row = row_of head held in
        subst (λ (n : ℕ). (after.datasets n).kind ≡ (pool.datasets n).kind) row.2 (keeps.kinds row.0 row.1) ∙ All-contains (λ (h : WrittenHead). IsHead pool.datasets h.number) heads head are.are held

    writable_still : (head : WrittenHead) → Contains heads head → IsWritable after head.number
    writable_still head held =
        let row = row_of head held in
        subst (λ (n : ℕ). IsWritable pool n → IsWritable after n) row.2 (keeps.writable row.0 row.1)
        (All-contains (λ (h : WrittenHead). IsWritable pool h.number) heads head are.writable held)

    after_still : (head : WrittenHead) → Contains heads head → IsAfterWrites after readings rows writes head
    after_still head held row volume within at named =
        All-contains (IsAfterWrites pool readings rows writes) heads head are.after held row volume within at (named_before row volume within named)

    -- they are so still where what the rows name is what it was
    pub written_still : AreWritten stored bound after readings rows writes heads
    written_still = record {
      once = are.once;
      named = are.named;
      read = all_from (IsHeadRead stored bound after readings) heads read_still;
      are = all_from (λ (head : WrittenHead). IsHead after.datasets head.number) heads head_still;
      writable = all_from (λ (head : WrittenHead). IsWritable after head.number) heads writable_still;
      after = all_from (IsAfterWrites after readings rows writes) heads after_still;
      all = λ row volume held named wrote. are.all row volume held (named_before row volume held named) wrote;
    }

-- ---- the group, once it has begun

module _ (spaces : List VdevSpace) (birth : ℕ) (root : Block) (rows : List DirectoryRow) (destroyed : List (List ℕ)) (writes : List Write) (begun : Begun)
    (found : IsBegunFound spaces birth root rows destroyed writes begun) where
  pub set_begun : set_of begun.datasets.changes ≡ begun.set
  set_begun = found.begins.one_set.0 ∙ found.begins.of_set

  module _ (stored : Contents) (group : ℕ) (plain : PlainPool) (is : SpellsPool stored birth root plain) (from : IsBegunFrom stored birth root plain is destroyed writes begun) where
    pub objects_begun : AreObjects stored (birth_of begun.datasets.changes) (set_of begun.datasets.changes) is.objects is.own is.blocks
    objects_begun =
        subst (λ (n : ℕ). AreObjects stored n (set_of begun.datasets.changes) is.objects is.own is.blocks) (sym from.born)
        (subst (λ (set : ObjectSet). AreObjects stored root.birth set is.objects is.own is.blocks) (sym (set_begun ∙ from.set)) is.are)

    module _ (new : GroupDatasets) (which : DestroysAll begun.datasets new destroyed) (after : PlainPool) (gone : List Block)
        (done : AreDestroyed group is.objects stored begun.datasets new (record is.datasets { group = group }) is.readings after gone) where
      pub exchanged_from : (freed : List Block) → freed ≡ gone
          → IsReachExchanged group stored stored (reach_by is.datasets is.rows) (reach_by done.after new.directory) freed
      exchanged_from freed same =
          subst (λ (list : List DirectoryRow). IsReachExchanged group stored stored (reach_by is.datasets list) (reach_by done.after new.directory) freed) from.directory
          (subst (λ (blocks : List Block). IsReachExchanged group stored stored (reach_by is.datasets begun.datasets.directory) (reach_by done.after new.directory) blocks) (sym same)
          done.exchanged)

      pub written_from : root.birth < group → AreWritten stored root.birth done.after is.readings new.directory writes begun.written.items
      written_from lt =
          written_still (record is.datasets { group = group }) done.after is.readings new.directory done.keeps stored root.birth writes begun.written.items
          (from.written group new.directory lt
          (subst (λ (list : List DirectoryRow). AreRowsLeft list destroyed new.directory) from.directory (rows_left begun.datasets new destroyed which)))
