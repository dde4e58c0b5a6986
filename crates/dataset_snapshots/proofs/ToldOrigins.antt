-- Volumes with the origins that rows tell of their names.
use Rattle.std.proofs.Common.{◌≡◌, ◌≢◌, ℕ, ◌+◌, ◌<◌, List, [], ◌∷◌, ◌++◌, length, map, take, get_or, Bool, true, false, true≢false, Option, Some, None, AllPairs, Contains, All, inl, inr, refl, sym, ap, ◌∙◌, subst}
use Rattle.std.specs.Prelude.{cond}
use Rattle.std.specs.List.{AllByRecursion, AllZip}
use Rattle.std.proofs.lemmas.List.{take_more}
use Rattle.std.proofs.lemmas.List.Elements.{All-from_recursion, All-head, All-tail, Contains-append_left, Contains-push, Contains-push_cases}
use Rattle.block_store.specs.Blocks.{Contents}
use Rattle.block_store.specs.Spaces.{VdevSpace}
use Rattle.dataset_groups.specs.Chains.{Reading}
use Rattle.dataset_groups.specs.ChainStanding.{HasChains}
use Rattle.dataset_groups.proofs.ListParts.{is_first, is_later, nothing_in}
use Rattle.dataset_groups.specs.Names.{BranchesOff, HasClone, NamesPool, objects_of_rows}
use Rattle.dead_list.specs.Datasets.{Pool}
use Rattle.dnode.specs.declared.object_set.ObjectSet.{ObjectSet}
use Rattle.meta_objset.specs.Datasets.{HasRecord}
use Rattle.meta_objset.specs.declared.directory.DirectoryRow.{DirectoryRow}
use Rattle.meta_objset.specs.Names.{IsBefore, IsNamed}
use Rattle.objset.specs.Objects.{Object}
use Rattle.pool_model.proofs.Places.{is_same, same_is}
use Rattle.pool_model.specs.declared.volume.PlainVolume.{PlainVolume}
use Rattle.pool_model.specs.Names.{same, volume_part}
use Rattle.pool_model.specs.Pools.{PlainPool}
use Rattle.volume_rules.specs.declared.index.NameIndex.{NameIndex}
use Rattle.volume_rules.specs.Index.{Knows, cloned_of}
use Rattle.dataset_snapshots.specs.declared.chaining.RowRecord.{RowRecord}
use Rattle.dataset_snapshots.specs.Clones.{HasToldOrigin, IsSetBy, IsToldOrigin, RowBranchesOff, TellsClone, TellsOrigin}
use Rattle.dataset_snapshots.specs.Contents.{IsVolumeNamed}
use Rattle.dataset_snapshots.specs.Pools.{SpellsDataset}
use Rattle.dataset_snapshots.proofs.ChainIndexes.{object_of}
use Rattle.dataset_snapshots.proofs.FittingRecords.{branches_by, branches_too}
use Rattle.dataset_snapshots.proofs.Origins.{one_of_name}
use Rattle.dataset_snapshots.proofs.Rows.{names_same}

abbrev Before : DirectoryRow → DirectoryRow → Type 0
Before row later = IsBefore row.name later.name

-- ---- by one row

module _ (Told : List ℕ → List ℕ → Type 0) where
  pub none_set : (volumes : List PlainVolume) → ((name origin : List ℕ) → ¬ Told name origin) → AllZip (IsSetBy Told) volumes volumes
  none_set [] none = tt
  none_set (volume ∷ volumes) none = (record { same = refl; told = inr (none volume.name, refl) }, none_set volumes none)

  module _ (name origin : List ℕ) (told : Told name origin) (only : (other also : List ℕ) → Told other also → other ≡ name) where
    one_set : (volume : PlainVolume) (b : Bool) → same volume.name name ≡ b → IsSetBy Told volume (cond b (record volume { origin = Some origin }) volume)
    one_set volume true e = record { same = refl; told = inl (origin, subst (λ n. Told n origin) (sym (same_is volume.name name e)) told, refl) }
    one_set volume false e = record { same = refl; told = inr (λ also it. true≢false (sym (is_same volume.name name (only volume.name also it)) ∙ e), refl) }

    all_set : (volumes : List PlainVolume) → AllZip (IsSetBy Told) volumes (map (cloned_of name origin) volumes)
    all_set [] = tt
    all_set (volume ∷ volumes) = (one_set volume (same volume.name name) refl, all_set volumes)

-- a row that branches off none tells nothing
pub tells_none : (rows : List DirectoryRow) (all : List RowRecord) (row : DirectoryRow) → ((before : DirectoryRow) → Contains rows before → ¬ RowBranchesOff all row before)
    → (volumes : List PlainVolume) → AllZip (IsSetBy (TellsClone rows all row)) volumes volumes
tells_none rows all row none volumes = none_set (TellsClone rows all row) volumes (λ name origin it. none it.before it.among it.branches)

-- another tells it of the volume that it is of
pub tells_one : (rows : List DirectoryRow) (all : List RowRecord) (row before : DirectoryRow) (called volume origin : List ℕ) → IsNamed row.name called → volume ≡ volume_part called
    → Contains rows before → RowBranchesOff all row before → IsNamed before.name origin
    → (volumes : List PlainVolume) → AllZip (IsSetBy (TellsClone rows all row)) volumes (map (cloned_of volume origin) volumes)
tells_one rows all row before called volume origin named part among branches snapshot volumes =
    all_set (TellsClone rows all row) volume origin
    (record { before = before; among = among; branches = branches; called = called; named = named; part = sym part; snapshot = snapshot })
    (λ other also it. sym it.part ∙ ap volume_part (names_same row.name it.called called it.named named) ∙ sym part) volumes

-- ---- by one row after the other

-- one of the first rows tells it
abbrev pub IsToldBy : List DirectoryRow → List DirectoryRow → List RowRecord → List ℕ → List ℕ → Type 0
IsToldBy first rows all name origin = (row : DirectoryRow) × Contains first row × TellsClone rows all row name origin

abbrev pub HasNoOrigin : PlainVolume → Type 0
HasNoOrigin volume = volume.origin ≡ None

module _ (rows : List DirectoryRow) (all : List RowRecord) where
  pub none_told : (volumes : List PlainVolume) → All HasNoOrigin volumes → AllZip (HasToldOrigin (IsToldBy [] rows all)) volumes volumes
  none_told [] none = tt
  none_told (volume ∷ volumes) none = (
    record {
      same = refl;
      told = subst (IsToldOrigin (IsToldBy [] rows all volume.name)) (sym (All-head HasNoOrigin volume volumes none)) (λ origin it. nothing_in it.0 it.1);
    },
    none_told volumes (All-tail HasNoOrigin volume volumes none),
  )

  module _ (first : List DirectoryRow) (row : DirectoryRow) where
    still_told : (name : List ℕ) (origin : Option (List ℕ)) → IsToldOrigin (IsToldBy first rows all name) origin → ((also : List ℕ) → ¬ TellsClone rows all row name also)
        → IsToldOrigin (IsToldBy (first ++ row ∷ []) rows all name) origin
    still_told name None none also = λ origin it. elim (Contains-push_cases first row it.0 it.1) [
      | inl before ↦ none origin (it.0, before, it.2)
      | inr is ↦ also origin (subst (λ (r : DirectoryRow). TellsClone rows all r name origin) (sym is) it.2)
    ]
    still_told name (Some origin) it also = (it.0, Contains-append_left first (row ∷ []) it.0 it.1, it.2)

    one_told : (bare volume now : PlainVolume) → HasToldOrigin (IsToldBy first rows all) bare volume → IsSetBy (TellsClone rows all row) volume now
        → HasToldOrigin (IsToldBy (first ++ row ∷ []) rows all) bare now
    one_told bare volume now has set =
        let name_is : volume.name ≡ bare.name = ap (λ (v : PlainVolume). v.name) has.same in
        record {
          same = set.same ∙ ap (λ (v : PlainVolume). record v { origin = now.origin }) has.same;
          told = elim set.told [
            | inl it ↦
                subst (IsToldOrigin (IsToldBy (first ++ row ∷ []) rows all bare.name)) (sym it.2)
                (row, Contains-push first row, subst (λ n. TellsClone rows all row n it.0) name_is it.1)
            | inr none ↦
                subst (IsToldOrigin (IsToldBy (first ++ row ∷ []) rows all bare.name)) (sym none.1)
                (still_told bare.name volume.origin has.told (λ also it. none.0 also (subst (λ n. TellsClone rows all row n also) (sym name_is) it)))
          ];
        }

    told_more : (bare volumes now : List PlainVolume) → AllZip (HasToldOrigin (IsToldBy first rows all)) bare volumes → AllZip (IsSetBy (TellsClone rows all row)) volumes now
        → AllZip (HasToldOrigin (IsToldBy (first ++ row ∷ []) rows all)) bare now
    told_more [] [] [] has set = tt
    told_more [] [] (n ∷ now) has set = absurd set
    told_more [] (v ∷ volumes) now has set = absurd has
    told_more (b ∷ bare) [] now has set = absurd has
    told_more (b ∷ bare) (v ∷ volumes) [] has set = absurd set
    told_more (b ∷ bare) (v ∷ volumes) (n ∷ now) has set = (one_told b v n has.0 set.0, told_more bare volumes now has.1 set.1)

  pub told_next : (k : ℕ) (row other : DirectoryRow) (bare volumes now : List PlainVolume) → k < length rows → row ≡ get_or rows k other
      → AllZip (HasToldOrigin (IsToldBy (take k rows) rows all)) bare volumes → AllZip (IsSetBy (TellsClone rows all row)) volumes now
      → AllZip (HasToldOrigin (IsToldBy (take (k + 1) rows) rows all)) bare now
  told_next k row other bare volumes now low is has set =
      let taken : take k rows ++ row ∷ [] ≡ take (k + 1) rows = ap (λ (r : DirectoryRow). take k rows ++ r ∷ []) is ∙ sym (take_more rows k other low) in
      subst (λ (first : List DirectoryRow). AllZip (HasToldOrigin (IsToldBy first rows all)) bare now) taken (told_more (take k rows) row bare volumes now has set)

-- an index knows volumes with the origins that these rows tell
abbrev pub KnowsTold : List DirectoryRow → List DirectoryRow → List RowRecord → List PlainVolume → NameIndex → Type 0
KnowsTold first rows all bare names =
    (volumes : List PlainVolume) × AllZip (HasToldOrigin (IsToldBy first rows all)) bare volumes × Knows names (record { volumes = volumes })

-- ---- what is told

pub told_all : (Told : List ℕ → List ℕ → Type 0) (bare volumes : List PlainVolume) → AllZip (HasToldOrigin Told) bare volumes
    → All (λ (volume : PlainVolume). IsToldOrigin (Told volume.name) volume.origin) volumes
told_all Told bare volumes has = All-from_recursion (λ (volume : PlainVolume). IsToldOrigin (Told volume.name) volume.origin) volumes (each bare volumes has)
  where
    each : (bare volumes : List PlainVolume) → AllZip (HasToldOrigin Told) bare volumes → AllByRecursion (λ (volume : PlainVolume). IsToldOrigin (Told volume.name) volume.origin) volumes
    each [] [] has = tt
    each [] (v ∷ volumes) has = absurd has
    each (b ∷ bare) [] has = absurd has
    each (b ∷ bare) (v ∷ volumes) has = (
      subst (λ n. IsToldOrigin (Told n) v.origin) (sym (ap (λ (o : PlainVolume). o.name) has.0.same)) has.0.told,
      each bare volumes has.1,
    )

module _ (spaces : List VdevSpace) (set : ObjectSet) (birth : ℕ) (Told : List ℕ → List ℕ → Type 0) where
  still_one : (row : DirectoryRow) (bare volume : PlainVolume) → IsVolumeNamed spaces set birth row bare → HasToldOrigin Told bare volume → IsVolumeNamed spaces set birth row volume
  still_one row bare volume named has =
      subst (IsVolumeNamed spaces set birth row) (sym has.same)
      (record {
        name = named.name;
        r = named.r;
        has = named.has;
        is = record { kind = named.is.kind; size = named.is.size; block_size = named.is.block_size; created = named.is.created };
      })

  pub still_named : (rows : List DirectoryRow) (bare volumes : List PlainVolume) → AllZip (IsVolumeNamed spaces set birth) rows bare → AllZip (HasToldOrigin Told) bare volumes
      → AllZip (IsVolumeNamed spaces set birth) rows volumes
  still_named [] [] [] named has = tt
  still_named [] [] (v ∷ volumes) named has = absurd has
  still_named [] (b ∷ bare) volumes named has = absurd named
  still_named (row ∷ rows) [] volumes named has = absurd named
  still_named (row ∷ rows) (b ∷ bare) [] named has = absurd has
  still_named (row ∷ rows) (b ∷ bare) (v ∷ volumes) named has = (still_one row b v named.0 has.0, still_named rows bare volumes named.1 has.1)

-- ---- a whole pool

-- the volume without its origin
abbrev pub bare_of : PlainVolume → PlainVolume
bare_of volume = record volume { origin = None }

pub none_bare : (volumes : List PlainVolume) → All HasNoOrigin (map bare_of volumes)
none_bare volumes = All-from_recursion HasNoOrigin (map bare_of volumes) (each volumes)
  where
    each : (volumes : List PlainVolume) → AllByRecursion HasNoOrigin (map bare_of volumes)
    each [] = tt
    each (volume ∷ volumes) = (refl, each volumes)

pub bare_spelled : (stored : Contents) (birth : ℕ) (objects : ℕ → Option Object) (rows : List DirectoryRow) (volumes : List PlainVolume) → AllZip (SpellsDataset stored birth objects) rows volumes
    → AllZip (SpellsDataset stored birth objects) rows (map bare_of volumes)
bare_spelled stored birth objects [] [] all = tt
bare_spelled stored birth objects [] (volume ∷ volumes) all = absurd all
bare_spelled stored birth objects (row ∷ rows) [] all = absurd all
bare_spelled stored birth objects (row ∷ rows) (volume ∷ volumes) all = (
  record {
    name = all.0.name;
    good = all.0.good;
    behind = all.0.behind;
    r = all.0.r;
    has = all.0.has;
    is = record { kind = all.0.is.kind; size = all.0.is.size; block_size = all.0.is.block_size; created = all.0.is.created };
    bytes = all.0.bytes;
  },
  bare_spelled stored birth objects rows volumes all.1,
)

module _ (stored : Contents) (birth : ℕ) (objects : ℕ → Option Object) (pool : Pool) (readings : ℕ → Reading) (chains : HasChains stored birth objects pool readings) (rows : List DirectoryRow)
    (plain : PlainPool) (names : NamesPool pool readings rows plain) (records : List RowRecord) (are : map object_of records ≡ objects_of_rows rows)
    (each : All (λ (one : RowRecord). HasRecord (objects one.object) one.record) records) (order : AllPairs Before rows) where
  -- of what is told there is such a clone
  clone_there : (row : DirectoryRow) (name origin : List ℕ) → Contains rows row → TellsClone rows records row name origin → HasClone plain name origin
  clone_there row name origin held it =
      let off = branches_by stored birth objects pool readings chains rows plain names records are each row it.before it.branches in
      subst (λ n. HasClone plain n origin) it.part
      (names.chains.branches row.object it.called origin off.0 (row, held, refl, it.named) (it.before, it.among, sym off.1, it.snapshot))

  -- and each clone is told
  clone_told : (volume : PlainVolume) (origin : List ℕ) → Contains plain.volumes volume → volume.origin ≡ Some origin → TellsOrigin rows records volume.name origin
  clone_told volume origin held is =
      let from = names.chains.clones volume origin held is in
      let row = from.3.0 in
      let before = from.5.0 in (
        row,
        from.3.1,
        record {
          before = before;
          among = from.5.1;
          branches = branches_too stored birth objects pool readings chains rows plain names records are each row before (subst (BranchesOff pool) (sym from.3.2) from.2)
              (ap (λ n. (pool.datasets n).before) from.3.2 ∙ sym from.5.2);
          called = from.1;
          named = from.3.3;
          part = from.4;
          snapshot = from.5.3;
        },
      )

  none_is : (volume : PlainVolume) (origin : Option (List ℕ)) → Contains plain.volumes volume → ((told : List ℕ) → ¬ TellsOrigin rows records volume.name told) → volume.origin ≡ origin
      → None ≡ volume.origin
  none_is volume None held none is = sym is
  none_is volume (Some origin) held none is = absurd (none origin (clone_told volume origin held is))

  origin_is : (volume : PlainVolume) (origin : Option (List ℕ)) → Contains plain.volumes volume → IsToldOrigin (TellsOrigin rows records volume.name) origin → origin ≡ volume.origin
  origin_is volume None held none = none_is volume volume.origin held none refl
  origin_is volume (Some origin) held it =
      let clone = clone_there it.0 volume.name origin it.1 it.2 in
      let one : clone.0 ≡ volume = one_of_name pool readings rows plain.volumes clone.0 volume order names.volumes clone.1 held clone.2 in
      sym clone.3 ∙ ap (λ (v : PlainVolume). v.origin) one

  volume_is : (volume now : PlainVolume) → Contains plain.volumes volume → HasToldOrigin (TellsOrigin rows records) (bare_of volume) now → now ≡ volume
  volume_is volume now held has = has.same ∙ ap (λ (o : Option (List ℕ)). record volume { origin = o }) (origin_is volume now.origin held has.told)

  volumes_are : (volumes now : List PlainVolume) → ((volume : PlainVolume) → Contains volumes volume → Contains plain.volumes volume)
      → AllZip (HasToldOrigin (TellsOrigin rows records)) (map bare_of volumes) now → now ≡ volumes
  volumes_are [] [] among has = refl
  volumes_are [] (n ∷ now) among has = absurd has
  volumes_are (volume ∷ volumes) [] among has = absurd has
  volumes_are (volume ∷ volumes) (n ∷ now) among has =
      let one = volume_is volume n (among volume (is_first volume volumes)) has.0 in
      let rest = volumes_are volumes now (λ v held. among v (is_later volume v volumes held)) has.1 in
      λ i. one i ∷ rest i

  -- so what is told of all volumes is what they are
  pub told_is : (now : List PlainVolume) → AllZip (HasToldOrigin (TellsOrigin rows records)) (map bare_of plain.volumes) now → now ≡ plain.volumes
  told_is now has = volumes_are plain.volumes now (λ volume held. held) has
