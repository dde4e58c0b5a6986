-- The volumes that rows name once a group's writes are made.
use Rattle.std.proofs.Common.{◌≡◌, ◌≢◌, ◌⊎◌, ℕ, Bool, true, false, cond, List, [], ◌∷◌, map, None, Contains, AllPairs, inl, inr, refl, sym, ap, subst, ◌∙◌}
use Rattle.std.specs.Prelude.{◌&&◌, fold, not}
use Rattle.std.specs.List.{AllZip}
use Rattle.std.proofs.lemmas.Bool.{cases_eq}
use Rattle.std.proofs.lemmas.Simd.{map-map}
use Rattle.std.proofs.lemmas.List.Elements.{All-contains}
use Rattle.dataset_destroys.specs.Chains.{Reading}
use Rattle.dead_list.specs.Datasets.{Head, Kind, Pool}
use Rattle.dead_list.specs.Datasets.{Snapshot as ASnapshot}
use Rattle.meta_objset.specs.declared.directory.DirectoryRow.{DirectoryRow}
use Rattle.meta_objset.specs.Names.{IsNamed}
use Rattle.meta_objset.proofs.Edits.{pairs_head, pairs_tail}
use Rattle.pool_model.specs.declared.item.Write.{Write}
use Rattle.pool_model.specs.declared.volume.PlainVolume.{PlainVolume}
use Rattle.pool_model.specs.declared.volume.VolumeKind.{VolumeKind}
use Rattle.pool_model.specs.declared.volume.VolumeKind.TheVariants.{Snapshot, Volume}
use Rattle.pool_model.specs.Names.{is_name_for, same}
use Rattle.pool_model.specs.Names.{stored as with_bytes}
use Rattle.pool_model.specs.Pools.{PlainPool, is_snapshot, volume_after, written}
use Rattle.pool_model.proofs.Places.{same_is}
use Rattle.volume_rules.specs.declared.shape.VolumeShape.{VolumeShape}
use Rattle.volume_rules.specs.Overlay.{after_writes}
use Rattle.volume_rules.proofs.Overlays.{name_after_writes, shape_after_writes}
use Rattle.dataset_groups.specs.Names.{IsOfKind, NamesVolume, objects_of_rows}
use Rattle.dataset_groups.specs.Writing.{IsVolumeWritten}
use Rattle.dataset_groups.proofs.ListParts.{first_or_later, is_first, is_later, nothing_in}
use Rattle.dataset_groups.proofs.Overwriting.{HaveSameShapes}
use Rattle.dataset_groups.proofs.Rows.{names_same}

-- ---- writes

-- a volume that no write names is as it was
unwritten : (volume : PlainVolume) (writes : List Write) → ((write : Write) → Contains writes write → write.volume ≢ volume.name) → after_writes volume writes ≡ volume
unwritten volume [] none = refl
unwritten volume (write ∷ writes) none =
    ap (λ (v : PlainVolume). after_writes v writes) (passed_by volume write (same volume.name write.volume) refl (none write (is_first write writes)))
    ∙ unwritten volume writes (λ other held. none other (is_later write other writes held))
  where
    passed_by : (v : PlainVolume) (w : Write) (b : Bool) → same v.name w.volume ≡ b → w.volume ≢ v.name → volume_after w v ≡ v
    passed_by v w true e apart = absurd (apart (sym (same_is v.name w.volume e)))
    passed_by v w false e apart = ap (λ t. cond (t && not (is_snapshot v.kind)) (record v { bytes = with_bytes w.offset w.bytes v.bytes }) v) e

-- and so is a snapshot
snapshot_stays : (volume : PlainVolume) (writes : List Write) → is_snapshot volume.kind ≡ true → after_writes volume writes ≡ volume
snapshot_stays volume [] is = refl
snapshot_stays volume (write ∷ writes) is =
    ap (λ (v : PlainVolume). after_writes v writes) (passed_by volume write (same volume.name write.volume) refl is) ∙ snapshot_stays volume writes is
  where
    passed_by : (v : PlainVolume) (w : Write) (named : Bool) → same v.name w.volume ≡ named → is_snapshot v.kind ≡ true → volume_after w v ≡ v
    passed_by v w false e is = ap (λ t. cond (t && not (is_snapshot v.kind)) (record v { bytes = with_bytes w.offset w.bytes v.bytes }) v) e
    passed_by v w true e is =
        ap (λ t. cond (t && not (is_snapshot v.kind)) (record v { bytes = with_bytes w.offset w.bytes v.bytes }) v) e
        ∙ ap (λ t. cond (not t) (record v { bytes = with_bytes w.offset w.bytes v.bytes }) v) is

-- ---- origins

-- the volume as it were if it was no clone
abbrev pub no_clone : PlainVolume → PlainVolume
no_clone volume = record volume { origin = None }

-- writes leave the origin
origin_after : (write : Write) (volume : PlainVolume) → (volume_after write volume).origin ≡ volume.origin
origin_after write volume =
    elim (same volume.name write.volume && not (is_snapshot volume.kind)) as (λ b. (cond b (record volume { bytes = with_bytes write.offset write.bytes volume.bytes }) volume).origin ≡ volume.origin) [
      | true ↦ refl
      | false ↦ refl
    ]

pub origin_after_writes : (volume : PlainVolume) (writes : List Write) → (after_writes volume writes).origin ≡ volume.origin
origin_after_writes volume [] = refl
origin_after_writes volume (write ∷ writes) = origin_after_writes (volume_after write volume) writes ∙ origin_after write volume

-- and they don't ask for it
no_clone_after : (write : Write) (volume : PlainVolume) → volume_after write (no_clone volume) ≡ no_clone (volume_after write volume)
no_clone_after write volume =
    elim (same volume.name write.volume && not (is_snapshot volume.kind))
    as (λ b. cond b (record (no_clone volume) { bytes = with_bytes write.offset write.bytes volume.bytes }) (no_clone volume)
    ≡ no_clone (cond b (record volume { bytes = with_bytes write.offset write.bytes volume.bytes }) volume)) [
      | true ↦ refl
      | false ↦ refl
    ]

no_clone_after_writes : (volume : PlainVolume) (writes : List Write) → after_writes (no_clone volume) writes ≡ no_clone (after_writes volume writes)
no_clone_after_writes volume [] = refl
no_clone_after_writes volume (write ∷ writes) = ap (λ (v : PlainVolume). after_writes v writes) (no_clone_after write volume) ∙ no_clone_after_writes (volume_after write volume) writes

pub same_bytes_after : (volume other : PlainVolume) (writes : List Write) → no_clone volume ≡ no_clone other → (after_writes volume writes).bytes ≡ (after_writes other writes).bytes
same_bytes_after volume other writes same =
    ap (λ (v : PlainVolume). v.bytes) (sym (no_clone_after_writes volume writes) ∙ ap (λ (v : PlainVolume). after_writes v writes) same ∙ no_clone_after_writes other writes)

-- the pool after writes has each volume after them
pub written_each : (pool : PlainPool) (writes : List Write) → fold written pool writes ≡ record pool { volumes = map (λ volume. after_writes volume writes) pool.volumes }
written_each pool [] = λ i. record pool { volumes = map_same pool.volumes i }
  where
    map_same : (volumes : List PlainVolume) → volumes ≡ map (λ volume. after_writes volume []) volumes
    map_same [] = refl
    map_same (volume ∷ volumes) = λ i. volume ∷ map_same volumes i
written_each pool (write ∷ writes) =
    written_each (written pool write) writes ∙ (λ i. record pool { volumes = map-map (λ volume. after_writes volume writes) (volume_after write) pool.volumes i })

-- ---- rows

-- what is behind a row leads on
pub zip_has : {A B : Type 0} (R : A → B → Type 0) (xs : List A) (ys : List B) (x : A) → AllZip R xs ys → Contains xs x → (y : B) × R x y
zip_has R [] ys x all held = absurd (nothing_in x held)
zip_has R (first ∷ xs) [] x all held = absurd all
zip_has R (first ∷ xs) (y ∷ ys) x all held = elim (first_or_later first x xs held) [
  | inl is ↦ (y, subst (λ z. R z y) is all.0)
  | inr later ↦ zip_has R xs ys x all.1 later
]

-- each row goes on to name a volume
pub zip_to : {A B : Type 0} (R S : A → B → Type 0) (f : B → B) (xs : List A) (ys : List B) → ((x : A) (y : B) → Contains xs x → R x y → S x (f y)) → AllZip R xs ys → AllZip S xs (map f ys)
zip_to R S f [] [] step all = all
zip_to R S f [] (y ∷ ys) step all = absurd all
zip_to R S f (x ∷ xs) [] step all = absurd all
zip_to R S f (x ∷ xs) (y ∷ ys) step all = (step x y (is_first x xs) all.0, zip_to R S f xs ys (λ other z held is. step other z (is_later x other xs held) is) all.1)

pub object_held : (rows : List DirectoryRow) (row : DirectoryRow) → Contains rows row → Contains (objects_of_rows rows) row.object
object_held [] row held = absurd (nothing_in row held)
object_held (first ∷ rows) row held = elim (first_or_later first row rows held) [
  | inl is ↦ subst (λ (r : DirectoryRow). Contains (objects_of_rows (first ∷ rows)) r.object) is (is_first first.object (objects_of_rows rows))
  | inr later ↦ is_later first.object row.object (objects_of_rows rows) (object_held rows row later)
]

-- an object is that of one row
pub one_row : (rows : List DirectoryRow) (row other : DirectoryRow) → AllPairs (λ m later. m ≢ later) (objects_of_rows rows) → Contains rows row → Contains rows other → row.object ≡ other.object
    → row ≡ other
one_row [] row other once held also e = absurd (nothing_in row held)
one_row (first ∷ rows) row other once held also e =
    let apart : (r : DirectoryRow) → Contains rows r → first.object ≢ r.object = λ r there.
    All-contains (λ m. first.object ≢ m) (objects_of_rows rows) r.object (pairs_head (λ (m later : ℕ). m ≢ later) first.object (objects_of_rows rows) once) (object_held rows r there) in
    elim (first_or_later first row rows held) [
      | inl one ↦ elim (first_or_later first other rows also) [
        | inl two ↦ sym one ∙ two
        | inr later ↦ absurd (apart other later (ap (λ (r : DirectoryRow). r.object) one ∙ e))
      ]
      | inr later ↦ elim (first_or_later first other rows also) [
        | inl two ↦ absurd (apart row later (ap (λ (r : DirectoryRow). r.object) two ∙ sym e))
        | inr behind ↦ one_row rows row other (pairs_tail (λ (m later : ℕ). m ≢ later) first.object (objects_of_rows rows) once) later behind e
      ]
    ]

-- the kind of its dataset tells that of the volume
one_kind : (kind other : VolumeKind) (is : Kind) → IsOfKind kind is → IsOfKind other is → kind ≡ other
one_kind Volume Volume is one two = refl
one_kind Snapshot Snapshot is one two = refl
one_kind Volume Snapshot is one two = absurd (let clash : Head ≡ ASnapshot = sym one ∙ two in cc)
one_kind Snapshot Volume is one two = absurd (let clash : Head ≡ ASnapshot = sym two ∙ one in cc)

-- and a row names one volume, but for its origin
pub one_volume : (pool : Pool) (readings : ℕ → Reading) (row : DirectoryRow) (volume other : PlainVolume) → NamesVolume pool readings row volume → NamesVolume pool readings row other
    → no_clone volume ≡ no_clone other
one_volume pool readings row volume other one two =
    let name : volume.name ≡ other.name = names_same row.name volume.name other.name one.name two.name in
    let bytes : volume.bytes ≡ other.bytes = sym one.array ∙ two.array in
    let block_size : volume.block_size ≡ other.block_size = sym one.block_size ∙ two.block_size in
    let group : volume.group ≡ other.group = sym one.created ∙ two.created in
    let kind = one_kind volume.kind other.kind (pool.datasets row.object).kind one.kind two.kind in
    λ i. record { name = name i; bytes = bytes i; block_size = block_size i; group = group i; kind = kind i; origin = None }

-- a row names the volume after the writes where its dataset reads so
pub named_after : (pool after : Pool) (readings now : ℕ → Reading) (row : DirectoryRow) (volume : PlainVolume) (writes : List Write) → HaveSameShapes pool after
    → NamesVolume pool readings row volume → (now row.object).array ≡ (after_writes volume writes).bytes → (now row.object).block_size ≡ (readings row.object).block_size
    → NamesVolume after now row (after_writes volume writes)
named_after pool after readings now row volume writes same is array block_size =
    let shape = shape_after_writes volume writes in
    let name = name_after_writes volume writes in
    let kind : (after_writes volume writes).kind ≡ volume.kind = ap (λ (s : VolumeShape). s.kind) shape in
    record {
      name = subst (IsNamed row.name) (sym name) is.name;
      good = ap (λ k. is_name_for k (after_writes volume writes).name) kind ∙ ap (is_name_for volume.kind) name ∙ is.good;
      kind = subst (λ k. IsOfKind k (after.datasets row.object).kind) (sym kind) (subst (IsOfKind volume.kind) (sym (same row.object).kind) is.kind);
      created = (same row.object).group ∙ is.created ∙ sym (ap (λ (s : VolumeShape). s.group) shape);
      array = array;
      block_size = block_size ∙ is.block_size ∙ sym (ap (λ (s : VolumeShape). s.block_size) shape);
    }

-- a volume that is not written to has the bytes that it had
pub unwritten_bytes : (volume : PlainVolume) (writes : List Write) → ¬ IsVolumeWritten writes volume → volume.bytes ≡ (after_writes volume writes).bytes
unwritten_bytes volume writes idle = ap (λ (v : PlainVolume). v.bytes) (sym (by_kind (is_snapshot volume.kind) refl))
  where
    by_kind : (taken : Bool) → is_snapshot volume.kind ≡ taken → after_writes volume writes ≡ volume
    by_kind true is = snapshot_stays volume writes is
    by_kind false is = unwritten volume writes (λ write held e. idle (is, (write, held, e)))

-- whether a number is one of these
pub number_or_not : (numbers : List ℕ) (n : ℕ) → Contains numbers n ⊎ ¬ Contains numbers n
number_or_not [] n = inr (λ held. nothing_in n held)
number_or_not (m ∷ numbers) n = elim (cases_eq m n) [
  | inl e ↦ inl (subst (Contains (m ∷ numbers)) e (is_first m numbers))
  | inr ne ↦ elim (number_or_not numbers n) [
    | inl later ↦ inl (is_later m n numbers later)
    | inr none ↦ inr (λ held. elim (first_or_later m n numbers held) [
      | inl e ↦ ne e
      | inr there ↦ none there
    ])
  ]
]
