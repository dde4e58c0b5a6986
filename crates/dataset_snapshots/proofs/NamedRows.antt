-- The names of rows, known one after the other.
use Rattle.std.proofs.Common.{◌≡◌, ◌≢◌, ℕ, zero, suc, ◌+◌, ◌<◌, ◌≤◌, List, [], ◌∷◌, ◌++◌, length, map, take, get_or, Bool, true, false, true≢false, Option, Some, None, AllPairs, Contains, inl, inr, refl, sym, ap, ◌∙◌, subst, arith}
use Rattle.std.specs.Prelude.{cond, min, replicate, All}
use Rattle.std.specs.Cmp.Lexicographic.{slice_cmp}
use Rattle.std.specs.declared.cmp.Ordering.{Ordering}
use Rattle.std.specs.declared.cmp.Ordering.TheVariants.{Less, Equal, Greater}
use Rattle.std.specs.List.{AllByRecursion, AllZip}
use Rattle.std.specs.List.Sorted.{IsStrictlySortedBy}
use Rattle.std.specs.Ordering.{nat_cmp, is_lt}
use Rattle.std.specs.Option.{option_map}
use Rattle.std.proofs.lemmas.List.{get_or-take, get_or_default, length-replicate, length-take, take_all, take_more}
use Rattle.std.proofs.lemmas.List.Elements.{All-contains, All-head, All-push, All-tail, Contains-push}
use Rattle.std.proofs.lemmas.List.Folds.{find-append}
use Rattle.std.proofs.lemmas.Slice.Zip.{all_zipped_more}
use Rattle.block_store.specs.Blocks.{Contents}
use Rattle.block_store.specs.declared.refusal.Refusal.{Refusal}
use Rattle.block_store.specs.declared.refusal.Refusal.TheVariants.{NoSpace}
use Rattle.block_store.specs.Spaces.{VdevSpace}
use Rattle.block_store.specs.Steps.{OnlyReadsBlocks}
use Rattle.block_store.specs.Store.{Store}
use Rattle.dataset_groups.proofs.NamingOrder.{before_named}
use Rattle.dataset_groups.specs.Names.{objects_of_rows}
use Rattle.dnode.specs.declared.object_set.ObjectSet.{ObjectSet}
use Rattle.dnode_tree.specs.ReadRefusals.{IsForRead}
use Rattle.meta_objset.proofs.Edits.{apart, pairs_head, pairs_tail}
use Rattle.meta_objset.specs.declared.directory.DirectoryRow.{DirectoryRow}
use Rattle.meta_objset.specs.declared.record.DatasetRecord.{DatasetRecord}
use Rattle.meta_objset.specs.Datasets.{HasRecord}
use Rattle.meta_objset.specs.Found.{IsRecordFound}
use Rattle.meta_objset.specs.Names.{IsBefore, IsName, IsNamed}
use Rattle.object_table.proofs.Tables.{spaces_stay}
use Rattle.objset.specs.Objects.{Object}
use Rattle.pool_model.proofs.Places.{same_is, volume_more}
use Rattle.pool_model.specs.declared.volume.PlainVolume.{PlainVolume}
use Rattle.pool_model.specs.Names.{same}
use Rattle.pool_model.specs.Pools.{AreAscending, PlainPool, volume_at, with_volume}
use Rattle.volume_rules.specs.declared.index.NameIndex.{NameIndex}
use Rattle.volume_rules.specs.declared.index.NewName.{NewName}
use Rattle.volume_rules.specs.declared.shape.VolumeShape.{VolumeShape}
use Rattle.volume_rules.specs.Index.{IsNameOf, Knows}
use Rattle.volume_rules.specs.Shapes.{entry_of, shape_of}
use Rattle.dataset_snapshots.specs.declared.chaining.RowRecord.{RowRecord}
use Rattle.dataset_snapshots.specs.Clones.{HasToldOrigin, TellsOrigin}
use Rattle.dataset_snapshots.specs.Contents.{AreVolumesNamed, IsRowRecord, IsShapeIn, IsVolumeNamed}
use Rattle.dataset_snapshots.specs.Pools.{IsRecordOf, SpellsDataset}
use Rattle.dataset_snapshots.proofs.Chained.{one_kind}
use Rattle.dataset_snapshots.proofs.ChainIndexes.{object_of}
use Rattle.dataset_snapshots.proofs.Pushing.{all_more}
use Rattle.dataset_snapshots.proofs.Rows.{at, padded_same}
use Rattle.dataset_snapshots.proofs.ToldOrigins.{HasNoOrigin, still_named, told_all}

abbrev Before : DirectoryRow → DirectoryRow → Type 0
Before row later = IsBefore row.name later.name

-- ---- the next volume

not_first : (b : Bool) (name : List ℕ) (volume : PlainVolume) (volumes : List PlainVolume) → same volume.name name ≡ b → b ≢ true → at name volumes ≡ None
    → at name (volume ∷ volumes) ≡ None
not_first true name volume volumes e clash none = absurd (clash refl)
not_first false name volume volumes e clash none = ap (λ t. cond t (Some volume) (at name volumes)) e ∙ none

module _ (stored : Contents) (birth : ℕ) (objects : ℕ → Option Object) where
  -- the row spells the volume that follows on the first ones, and none of these has its name
  pub record IsNext (row : DirectoryRow) (k : ℕ) (volumes : List PlainVolume) : Type 0 where
    pub volume : PlainVolume
    pub is : SpellsDataset stored birth objects row volume
    pub more : take (suc k) volumes ≡ take k volumes ++ volume ∷ []
    pub new : at volume.name (take k volumes) ≡ None

  pub next_volume : (rows : List DirectoryRow) (volumes : List PlainVolume) (k : ℕ) (row other : DirectoryRow) → AllPairs Before rows → AllZip (SpellsDataset stored birth objects) rows volumes
      → k < length rows → row ≡ get_or rows k other → IsNext row k volumes
  next_volume [] volumes k row other order all low is = absurd (omega (arith, low))
  next_volume (first ∷ rows) [] k row other order all low is = absurd all
  next_volume (first ∷ rows) (volume ∷ volumes) zero row other order all low is = record {
    volume = volume;
    is = subst (λ (r : DirectoryRow). SpellsDataset stored birth objects r volume) (sym is) all.0;
    more = refl;
    new = refl;
  }
  next_volume (first ∷ rows) (volume ∷ volumes) (suc k) row other order all low is =
      let next = next_volume rows volumes k row other (pairs_tail Before first rows order) all.1 (omega (arith, low)) is in
      let before : Before first row = subst (λ (r : DirectoryRow). Before first r) (sym is) (pairs_head Before first rows order k other (omega (arith, low))) in
      record {
        volume = next.volume;
        is = next.is;
        more = ap (λ vs. volume ∷ vs) next.more;
        new = not_first (same volume.name next.volume.name) next.volume.name volume (take k volumes) refl
            (λ e. apart first.name row.name before (padded_same first.name row.name volume.name next.volume.name all.0.name next.is.name (same_is volume.name next.volume.name e))) next.new;
      }

-- ---- what is known

is_less : (o : Ordering) → is_lt o ≡ true → o ≡ Less
is_less Less e = refl
is_less Equal e = absurd (true≢false (sym e))
is_less Greater e = absurd (true≢false (sym e))

-- volumes ascend as the rows do that name them
above_name : {R : DirectoryRow → PlainVolume → Type 0} (named : (row : DirectoryRow) (volume : PlainVolume) → R row volume → IsNamed row.name volume.name) (first : DirectoryRow) (volume : PlainVolume)
    (rows : List DirectoryRow) (volumes : List PlainVolume) → IsNamed first.name volume.name → All (Before first) rows → AllZip R rows volumes
    → AllByRecursion (λ name. slice_cmp nat_cmp volume.name name ≡ Less) (map (λ (v : PlainVolume). v.name) volumes)
above_name named first volume [] [] is before all = tt
above_name named first volume [] (next ∷ volumes) is before all = absurd all
above_name named first volume (row ∷ rows) [] is before all = absurd all
above_name named first volume (row ∷ rows) (next ∷ volumes) is before all = (
  is_less (slice_cmp nat_cmp volume.name next.name) (before_named first.name volume.name row.name next.name is (named row next all.0) (All-head (Before first) row rows before)),
  above_name named first volume rows volumes is (All-tail (Before first) row rows before) all.1,
)

ascending : {R : DirectoryRow → PlainVolume → Type 0} (named : (row : DirectoryRow) (volume : PlainVolume) → R row volume → IsNamed row.name volume.name) (rows : List DirectoryRow)
    (volumes : List PlainVolume) → AllPairs Before rows → AllZip R rows volumes → AreAscending volumes
unfolding IsStrictlySortedBy
ascending named [] [] order all = tt
ascending named [] (volume ∷ volumes) order all = absurd all
ascending named (row ∷ rows) [] order all = absurd all
ascending named (row ∷ rows) (volume ∷ volumes) order all = (
  above_name named row volume rows volumes (named row volume all.0) (pairs_head Before row rows order) all.1,
  ascending named rows volumes (pairs_tail Before row rows order) all.1,
)

pairs_taken : (rows : List DirectoryRow) (n : ℕ) → AllPairs Before rows → AllPairs Before (take n rows)
pairs_taken rows n order i j d less low =
    let len : length (take n rows) ≡ min n (length rows) = length-take n rows in
    subst (λ (row : DirectoryRow). Before row (get_or (take n rows) j d)) (sym (get_or-take n rows i d (omega (arith, less, low, len))))
    (subst (λ (row : DirectoryRow). Before (get_or rows i d) row) (sym (get_or-take n rows j d (omega (arith, low, len)))) (order i j d less (omega (arith, low, len))))

zip_taken : {X Y : Type 0} (R : X → Y → Type 0) (n : ℕ) (xs : List X) (ys : List Y) → AllZip R xs ys → AllZip R (take n xs) (take n ys)
zip_taken R zero xs ys all = tt
zip_taken R (suc n) [] [] all = tt
zip_taken R (suc n) [] (y ∷ ys) all = absurd all
zip_taken R (suc n) (x ∷ xs) [] all = absurd all
zip_taken R (suc n) (x ∷ xs) (y ∷ ys) all = (all.0, zip_taken R n xs ys all.1)

-- an index that knows volumes and one with a new name knows them in this order
knows_more : (names : NameIndex) (volumes : List PlainVolume) (volume : PlainVolume) → AreAscending (volumes ++ volume ∷ []) → Knows names (with_volume volume (record { volumes = volumes }))
    → Knows names (record { volumes = volumes ++ volume ∷ [] })
knows_more names volumes volume up known =
    let pool : PlainPool = record { volumes = volumes } in
    record {
      entries = λ name.
          let found : volume_at name (with_volume volume pool) ≡ at name (volumes ++ volume ∷ []) =
          volume_more pool volume name ∙ sym (find-append (λ (v : PlainVolume). same v.name name) volumes (volume ∷ [])) in
          known.entries name ∙ ap (option_map entry_of) found;
      ascending = up;
    }

pub knows_next : (stored : Contents) (birth : ℕ) (objects : ℕ → Option Object) (rows : List DirectoryRow) (names : NameIndex) (volumes : List PlainVolume) (k : ℕ) (volume : PlainVolume)
    → AllPairs Before rows → AllZip (SpellsDataset stored birth objects) rows volumes → take (suc k) volumes ≡ take k volumes ++ volume ∷ []
    → Knows names (with_volume volume (record { volumes = take k volumes })) → Knows names (record { volumes = take (k + 1) volumes })
knows_next stored birth objects rows names volumes k volume order all more known =
    let one_more : k + 1 ≡ suc k = omega arith in
    let up : AreAscending (take (suc k) volumes) =
    ascending (λ (row : DirectoryRow) (v : PlainVolume) (is : SpellsDataset stored birth objects row v). is.name) (take (suc k) rows) (take (suc k) volumes) (pairs_taken rows (suc k) order)
    (zip_taken (SpellsDataset stored birth objects) (suc k) rows volumes all) in
    subst (λ (vs : List PlainVolume). Knows names (record { volumes = vs })) (sym (ap (λ n. take n volumes) one_more ∙ more))
    (knows_more names (take k volumes) volume (subst AreAscending more up) known)

-- a volume of this shape and of no origin has this entry
pub named_so : (new : NewName) (volume : PlainVolume) (shape : VolumeShape) → volume.name ≡ new.name → new.entry.shape ≡ shape → new.entry.origin ≡ None → shape_of volume ≡ shape
    → volume.origin ≡ None → IsNameOf new volume
named_so new volume shape name shape_is none_is same none = record {
  name = name;
  entry = λ i. record { shape = (same ∙ sym shape_is) i; origin = (none ∙ sym none_is) i };
}

shapes_same : (shape other : VolumeShape) → shape.size ≡ other.size → shape.block_size ≡ other.block_size → shape.group ≡ other.group → shape.kind ≡ other.kind → shape ≡ other
shapes_same shape other size block_size group kind = λ i. record { size = size i; block_size = block_size i; group = group i; kind = kind i }

-- the record of a volume has its shape
pub shape_is : (volume : PlainVolume) (r found : DatasetRecord) (shape : VolumeShape) → found ≡ r → IsShapeIn found shape → IsRecordOf r volume → shape_of volume ≡ shape
shape_is volume r found shape same has is =
    let here : IsShapeIn r shape = subst (λ (of : DatasetRecord). IsShapeIn of shape) same has in
    shapes_same (shape_of volume) shape (sym is.size ∙ sym here.size) (sym is.block_size ∙ sym here.block_size) (sym is.created ∙ sym here.created)
    (one_kind volume.kind shape.kind r.kind is.kind here.kind)

-- ---- whatever the root is

-- the rows before one have names that stand before its own
before_row : (rows : List DirectoryRow) (k : ℕ) (row other : DirectoryRow) → AllPairs Before rows → k < length rows → row ≡ get_or rows k other → All (λ first. Before first row) (take k rows)
before_row rows k row other order low is i d within =
    let len : length (take k rows) ≡ min k (length rows) = length-take k rows in
    let small : i < k = omega (arith, within, len) in
    let there : row ≡ get_or rows k d = is ∙ get_or_default rows k other d low in
    subst (λ (r : DirectoryRow). Before (get_or (take k rows) i d) r) (sym there)
    (subst (λ (r : DirectoryRow). Before r (get_or rows k d)) (sym (get_or-take k rows i d small)) (order i k d small low))

module _ (spaces : List VdevSpace) (set : ObjectSet) (birth : ℕ) where
  -- the index knows volumes of the rows, which have no origins
  abbrev pub AreBareNamed : List DirectoryRow → NameIndex → Type 0
  AreBareNamed rows names =
      (volumes : List PlainVolume) × AllZip (IsVolumeNamed spaces set birth) rows volumes × All HasNoOrigin volumes × Knows names (record { volumes = volumes })

  no_name : (rows : List DirectoryRow) (volumes : List PlainVolume) (row : DirectoryRow) (name : List ℕ) → AllZip (IsVolumeNamed spaces set birth) rows volumes → All (λ first. Before first row) rows
      → IsNamed row.name name → at name volumes ≡ None
  no_name [] [] row name all before named = refl
  no_name [] (volume ∷ volumes) row name all before named = absurd all
  no_name (first ∷ rows) [] row name all before named = absurd all
  no_name (first ∷ rows) (volume ∷ volumes) row name all before named =
      not_first (same volume.name name) name volume volumes refl
      (λ e. apart first.name row.name (All-head (λ one. Before one row) first rows before) (padded_same first.name row.name volume.name name all.0.name named (same_is volume.name name e)))
      (no_name rows volumes row name all.1 (All-tail (λ one. Before one row) first rows before) named)

  -- one row more
  named_more : (rows : List DirectoryRow) (k : ℕ) (row other : DirectoryRow) (names after : NameIndex) (r : DatasetRecord) (shape : VolumeShape) → AllPairs Before rows → k < length rows → row ≡ get_or rows k other
      → IsName row.name → IsRecordFound spaces set birth row.object r → IsShapeIn r shape → AreBareNamed (take k rows) names
      → ((pool : PlainPool) (volume : PlainVolume) → Knows names pool → IsNamed row.name volume.name → volume_at volume.name pool ≡ None → shape_of volume ≡ shape → volume.origin ≡ None
      → Knows after (with_volume volume pool))
      → AreBareNamed (take (k + 1) rows) after
  named_more rows k row other names after r shape order low is named has found (before, all, none_of, known) added =
      let none : ℕ = 0 in
      let volume : PlainVolume = record { name = named.0; bytes = replicate r.size none; block_size = r.block_size; group = r.created; kind = shape.kind; origin = None } in
      let size : length volume.bytes ≡ r.size = length-replicate r.size none in
      let record_is : IsRecordOf r volume = record { kind = found.kind; size = sym size; block_size = refl; created = refl } in
      let is_named : IsVolumeNamed spaces set birth row volume = record { name = named.1; r = r; has = has; is = record_is } in
      let new : at volume.name before ≡ None = no_name (take k rows) before row volume.name all (before_row rows k row other order low is) named.1 in
      let same_shape : shape_of volume ≡ shape =
      shapes_same (shape_of volume) shape (size ∙ sym found.size) (sym found.block_size) (sym found.created) refl in
      let taken : take k rows ++ row ∷ [] ≡ take (k + 1) rows = ap (λ (r : DirectoryRow). take k rows ++ r ∷ []) is ∙ sym (take_more rows k other low) in
      let now_all : AllZip (IsVolumeNamed spaces set birth) (take (k + 1) rows) (before ++ volume ∷ []) =
      subst (λ (rs : List DirectoryRow). AllZip (IsVolumeNamed spaces set birth) rs (before ++ volume ∷ [])) taken
      (all_zipped_more (IsVolumeNamed spaces set birth) (take k rows) before row volume all is_named) in
      let up : AreAscending (before ++ volume ∷ []) =
      ascending (λ (row : DirectoryRow) (v : PlainVolume) (is : IsVolumeNamed spaces set birth row v). is.name) (take (k + 1) rows) (before ++ volume ∷ []) (pairs_taken rows (k + 1) order) now_all in (
        before ++ volume ∷ [],
        now_all,
        All-push HasNoOrigin before volume none_of refl,
        knows_more after before volume up (added (record { volumes = before }) volume known named.1 new same_shape refl),
      )

-- behind reads
pub named_next : (old mid : Store) (missing : List ℕ) (set : ObjectSet) (birth : ℕ) (rows : List DirectoryRow) (k : ℕ) (row other : DirectoryRow) (names after : NameIndex) (r : DatasetRecord) (shape : VolumeShape)
    → OnlyReadsBlocks old mid missing → AllPairs Before rows → k < length rows → IsRecordFound mid.spaces set birth row.object r → IsShapeIn r shape → row ≡ get_or rows k other → IsName row.name
    → AreBareNamed old.spaces set birth (take k rows) names
    → ((pool : PlainPool) (volume : PlainVolume) → Knows names pool → IsNamed row.name volume.name → volume_at volume.name pool ≡ None → shape_of volume ≡ shape → volume.origin ≡ None
    → Knows after (with_volume volume pool))
    → AreBareNamed old.spaces set birth (take (k + 1) rows) after
named_next old mid missing set birth rows k row other names after r shape reads order low has found is named before added =
    named_more old.spaces set birth rows k row other names after r shape order low is named
    (subst (λ (spaces : List VdevSpace). IsRecordFound spaces set birth row.object r) (spaces_stay old mid missing reads) has) found before added

-- the record of one row more
pub records_next : (old mid : Store) (missing : List ℕ) (set : ObjectSet) (birth : ℕ) (rows : List DirectoryRow) (k : ℕ) (row other : DirectoryRow) (records now : List RowRecord) (r : DatasetRecord)
    → OnlyReadsBlocks old mid missing → k < length rows → IsRecordFound mid.spaces set birth row.object r → row ≡ get_or rows k other → now ≡ records ++ record { object = row.object; «record» = r } ∷ []
    → AllZip (IsRowRecord old.spaces set birth) (take k rows) records → AllZip (IsRowRecord old.spaces set birth) (take (k + 1) rows) now
records_next old mid missing set birth rows k row other records now r reads low has is now_is before =
    let one : RowRecord = record { object = row.object; «record» = r } in
    let here : IsRowRecord old.spaces set birth row one = record {
      object = refl;
      has = subst (λ (spaces : List VdevSpace). IsRecordFound spaces set birth row.object r) (spaces_stay old mid missing reads) has;
    } in
    let taken : take k rows ++ row ∷ [] ≡ take (k + 1) rows = ap (λ (r : DirectoryRow). take k rows ++ r ∷ []) is ∙ sym (take_more rows k other low) in
    subst (λ (them : List RowRecord). AllZip (IsRowRecord old.spaces set birth) (take (k + 1) rows) them) (sym now_is)
    (subst (λ (rs : List DirectoryRow). AllZip (IsRowRecord old.spaces set birth) rs (records ++ one ∷ [])) taken
    (all_zipped_more (IsRowRecord old.spaces set birth) (take k rows) records row one before here))

-- at the end these are those of all rows
pub all_read : (spaces : List VdevSpace) (set : ObjectSet) (birth : ℕ) (rows : List DirectoryRow) (k : ℕ) (records : List RowRecord) → length rows ≤ k
    → AllZip (IsRowRecord spaces set birth) (take k rows) records → AllZip (IsRowRecord spaces set birth) rows records
all_read spaces set birth rows k records past = subst (λ (them : List DirectoryRow). AllZip (IsRowRecord spaces set birth) them records) (take_all k rows past)

contains_taken : (volumes : List PlainVolume) (n : ℕ) (volume : PlainVolume) → Contains (take n volumes) volume → Contains volumes volume
contains_taken volumes n volume (k, low, is) =
    let len : length (take n volumes) ≡ min n (length volumes) = length-take n volumes in
    (k, omega (arith, low, len), sym (get_or-take n volumes k volume (omega (arith, low, len))) ∙ is)

-- the next volume has no origin where none has
pub none_next : (volumes : List PlainVolume) (k : ℕ) (volume : PlainVolume) → take (suc k) volumes ≡ take k volumes ++ volume ∷ [] → All HasNoOrigin volumes → volume.origin ≡ None
none_next volumes k volume more none =
    All-contains HasNoOrigin volumes volume none
    (contains_taken volumes (suc k) volume (subst (λ (vs : List PlainVolume). Contains vs volume) (sym more) (Contains-push (take k volumes) volume)))

-- with the origins that are told they are the volumes of the rows
pub all_named : (spaces : List VdevSpace) (set : ObjectSet) (birth : ℕ) (rows : List DirectoryRow) (records : List RowRecord) (bare : List PlainVolume) (names : NameIndex)
    → AllZip (IsRowRecord spaces set birth) rows records → AllZip (IsVolumeNamed spaces set birth) rows bare
    → (volumes : List PlainVolume) × AllZip (HasToldOrigin (TellsOrigin rows records)) bare volumes × Knows names (record { volumes = volumes }) → AreVolumesNamed spaces set birth rows names
all_named spaces set birth rows records bare names read named (volumes, told, known) = (
  records,
  read,
  volumes,
  still_named spaces set birth (TellsOrigin rows records) rows bare volumes named told,
  told_all (TellsOrigin rows records) bare volumes told,
  known,
)

-- their objects are those of the rows
pub objects_read : (spaces : List VdevSpace) (set : ObjectSet) (birth : ℕ) (rows : List DirectoryRow) (records : List RowRecord) → AllZip (IsRowRecord spaces set birth) rows records
    → map object_of records ≡ objects_of_rows rows
objects_read spaces set birth [] [] all = refl
objects_read spaces set birth (row ∷ rows) (one ∷ records) all = λ i. all.0.object i ∷ objects_read spaces set birth rows records all.1 i
objects_read spaces set birth [] (one ∷ records) all = absurd all
objects_read spaces set birth (row ∷ rows) [] all = absurd all

-- and it is that of its object
pub objects_next : (objects : ℕ → Option Object) (object : ℕ) (r found : DatasetRecord) (records now : List RowRecord) → now ≡ records ++ record { object = object; «record» = found } ∷ [] → found ≡ r
    → HasRecord (objects object) r → All (λ (one : RowRecord). HasRecord (objects one.object) one.record) records → All (λ (one : RowRecord). HasRecord (objects one.object) one.record) now
objects_next objects object r found records now now_is same has all =
    all_more (λ (one : RowRecord). HasRecord (objects one.object) one.record) records now (record { object = object; «record» = found }) now_is all
    (subst (λ (of : DatasetRecord). HasRecord (objects object) of) (sym same) has)

-- ---- what a read is refused for

pub needs_no_room : (refusal : Refusal) → IsForRead refusal → refusal ≢ NoSpace
needs_no_room refusal (inl memory) is = absurd (cc)
needs_no_room refusal (inr (inl fault)) is = absurd (cc)
needs_no_room refusal (inr (inr (inl bad))) is = absurd (cc)
needs_no_room refusal (inr (inr (inr digest))) is = absurd (cc)
