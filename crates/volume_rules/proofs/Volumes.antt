-- What writes and actions make of the volume of a name.
use Rattle.std.proofs.Common.{◌≡◌, ℕ, zero, suc, ◌+◌, ◌≤◌, Bool, true, false, List, [], ◌∷◌, ◌++◌, length, map, take, drop, Option, Some, None, refl, sym, ap, ◌∙◌, subst, arith}
use Rattle.std.specs.Prelude.{◌&&◌, ◌||◌, cond, filter, find, fold, insert, is_some, nat_le, not, replicate}
use Rattle.std.specs.Cmp.Lexicographic.{slice_cmp}
use Rattle.std.specs.List.{list_any, position_or_len}
use Rattle.std.specs.List.Sorted.{IsStrictlySortedBy}
use Rattle.std.specs.Option.{option_map, option_or}
use Rattle.std.specs.Ordering.{nat_cmp}
use Rattle.std.proofs.lemmas.Bool.Decides.{nat_tests}
use Rattle.std.proofs.lemmas.List.{length-append, length-replicate, length-take, length-drop}
use Rattle.std.proofs.lemmas.List.Folds.{fold_along}
use Rattle.pool_model.specs.declared.item.Change.{Change}
use Rattle.pool_model.specs.declared.item.Change.TheVariants.{Clone, Create, Destroy, Snapshot}
use Rattle.pool_model.specs.declared.item.Write.{Write}
use Rattle.pool_model.specs.declared.volume.PlainVolume.{PlainVolume}
use Rattle.pool_model.specs.Names.{is_before, same, snapshot_name, stored}
use Rattle.pool_model.specs.Pools.{AreAscending, PlainPool, Entry, has_clones, has_snapshots, is_clone_of, is_snapshot, is_snapshot_of, placed, volume_at, volume_after, without, written, clone_of, created, snapshot_of, with_clone, with_snapshot, with_volume, changed, applied}
use Rattle.volume_rules.specs.declared.shape.VolumeEntry.{VolumeEntry}
use Rattle.volume_rules.specs.Shapes.{entry_at, entry_of, outline, shape_of, shape_at, HaveSameShapes}

-- ---- a write

stored_cases : (b : Bool) (offset : ℕ) (new old : List ℕ) → nat_le (offset + length new) (length old) ≡ b → length (cond b (take offset old ++ (new ++ drop (offset + length new) old)) old) ≡ length old
stored_cases true offset new old e =
    let fits : offset + length new ≤ length old = grind (arith, nat_tests, e) in
    simp (length-append, length-take, length-drop) (omega arith)
stored_cases false offset new old e = refl

pub length-stored : (offset : ℕ) (new old : List ℕ) → length (stored offset new old) ≡ length old
length-stored offset new old = stored_cases (nat_le (offset + length new) (length old)) offset new old refl

pub shape_after : (w : Write) (volume : PlainVolume) → shape_of (volume_after w volume) ≡ shape_of volume
shape_after w volume =
    let after : PlainVolume = record volume { bytes = stored w.offset w.bytes volume.bytes } in
    elim (same volume.name w.volume && not (is_snapshot volume.kind)) as (λ b. shape_of (cond b after volume) ≡ shape_of volume) [
      | true ↦ λ i. record (shape_of volume) { size = length-stored w.offset w.bytes volume.bytes i }
      | false ↦ refl
    ]

-- ---- pools but for their volumes' bytes

-- each volume but for what its bytes are
abbrev pub outlined : PlainPool → PlainPool
outlined pool = record { volumes = map outline pool.volumes }

pub outlined_by : (pool other : PlainPool) → HaveSameShapes pool other → outlined pool ≡ outlined other
outlined_by pool other h = λ i. record { volumes = h.outlines i }

pub shapes_by : (pool other : PlainPool) → outlined pool ≡ outlined other → HaveSameShapes pool other
shapes_by pool other e = record { outlines = ap (λ (p : PlainPool). p.volumes) e }

pub shapes_self : (pool : PlainPool) → HaveSameShapes pool pool
shapes_self pool = record { outlines = refl }

pub shapes_back : (pool other : PlainPool) → HaveSameShapes pool other → HaveSameShapes other pool
shapes_back pool other h = record { outlines = sym h.outlines }

pub shapes_chain : (pool other third : PlainPool) → HaveSameShapes pool other → HaveSameShapes other third → HaveSameShapes pool third
shapes_chain pool other third h k = record { outlines = h.outlines ∙ k.outlines }

pub outline_shape : (volume : PlainVolume) → shape_of (outline volume) ≡ shape_of volume
outline_shape volume = ap (λ n. record (shape_of volume) { size = n }) (length-replicate {A = ℕ} (length volume.bytes) 0)

pub outlined_at : (name : List ℕ) (pool : PlainPool) → volume_at name (outlined pool) ≡ option_map outline (volume_at name pool)
outlined_at name pool = along pool.volumes
  where
    along : (volumes : List PlainVolume) → find (λ v. same v.name name) (map outline volumes) ≡ option_map outline (find (λ v. same v.name name) volumes)
    along [] = refl
    along (volume ∷ volumes) =
        ap (cond (same volume.name name) (Some (outline volume))) (along volumes)
        ∙ elim (same volume.name name) as (λ b. cond b (Some (outline volume)) (option_map outline (find (λ v. same v.name name) volumes)) ≡ option_map outline (cond b (Some volume) (find (λ v. same v.name name) volumes))) [ true ↦ refl | false ↦ refl ]

entry_outlined : (name : List ℕ) (pool : PlainPool) → entry_at name (outlined pool) ≡ entry_at name pool
entry_outlined name pool = ap (option_map entry_of) (outlined_at name pool) ∙ same_entry (volume_at name pool)
  where
    same_entry : (o : Option PlainVolume) → option_map entry_of (option_map outline o) ≡ option_map entry_of o
    same_entry None = refl
    same_entry (Some volume) = λ i. Some (record { shape = outline_shape volume i; origin = volume.origin })

-- the same shapes and origins stand at each name
pub same_entries : (name : List ℕ) (pool other : PlainPool) → HaveSameShapes pool other → entry_at name pool ≡ entry_at name other
same_entries name pool other h = sym (entry_outlined name pool) ∙ (ap (entry_at name) (outlined_by pool other h) ∙ entry_outlined name other)

pub shape_by_entry : (name : List ℕ) (pool : PlainPool) → shape_at name pool ≡ option_map (λ (e : VolumeEntry). e.shape) (entry_at name pool)
shape_by_entry name pool = cases (volume_at name pool)
  where
    cases : (o : Option PlainVolume) → option_map shape_of o ≡ option_map (λ (e : VolumeEntry). e.shape) (option_map entry_of o)
    cases None = refl
    cases (Some volume) = refl

pub same_shapes_at : (name : List ℕ) (pool other : PlainPool) → HaveSameShapes pool other → shape_at name pool ≡ shape_at name other
same_shapes_at name pool other h =
    shape_by_entry name pool ∙ (ap (option_map (λ (e : VolumeEntry). e.shape)) (same_entries name pool other h) ∙ sym (shape_by_entry name other))

names_outlined : (volumes : List PlainVolume) → map (λ (v : PlainVolume). v.name) (map outline volumes) ≡ map (λ (v : PlainVolume). v.name) volumes
names_outlined [] = refl
names_outlined (v ∷ volumes) = ap (λ names. v.name ∷ names) (names_outlined volumes)

-- and in the same order
pub ascending_alike : (pool other : PlainPool) → HaveSameShapes pool other → AreAscending other.volumes → AreAscending pool.volumes
ascending_alike pool other h up =
    subst (IsStrictlySortedBy (slice_cmp nat_cmp))
    (sym (names_outlined other.volumes) ∙ (ap (map (λ (v : PlainVolume). v.name)) (sym h.outlines) ∙ names_outlined pool.volumes)) up

-- ---- writes

outline_after : (w : Write) (volume : PlainVolume) → outline (volume_after w volume) ≡ outline volume
outline_after w volume =
    let after : PlainVolume = record volume { bytes = stored w.offset w.bytes volume.bytes } in
    elim (same volume.name w.volume && not (is_snapshot volume.kind)) as (λ b. outline (cond b after volume) ≡ outline volume) [
      | true ↦ λ i. record volume { bytes = replicate (length-stored w.offset w.bytes volume.bytes i) 0 }
      | false ↦ refl
    ]

outlines_after : (w : Write) (volumes : List PlainVolume) → map outline (map (volume_after w) volumes) ≡ map outline volumes
outlines_after w [] = refl
outlines_after w (v ∷ volumes) = λ i. outline_after w v i ∷ outlines_after w volumes i

pub shapes_written : (pool : PlainPool) (w : Write) → HaveSameShapes (written pool w) pool
shapes_written pool w = record { outlines = outlines_after w pool.volumes }

pub shapes_of_writes : (pool : PlainPool) (writes : List Write) → HaveSameShapes (fold written pool writes) pool
shapes_of_writes pool [] = shapes_self pool
shapes_of_writes pool (w ∷ writes) =
    shapes_chain (fold written (written pool w) writes) (written pool w) pool (shapes_of_writes (written pool w) writes) (shapes_written pool w)

-- ---- an action

pub or_none : {A : Type 0} (o : Option A) → option_or o None ≡ o
or_none None = refl
or_none (Some x) = refl

insert_map : {A B : Type 0} (f : A → B) (xs : List A) (n : ℕ) (x : A) → map f (insert xs n x) ≡ insert (map f xs) n (f x)
insert_map f [] zero x = refl
insert_map f [] (suc n) x = refl
insert_map f (y ∷ ys) zero x = refl
insert_map f (y ∷ ys) (suc n) x = ap (λ zs. f y ∷ zs) (insert_map f ys n x)

position_map : {A B : Type 0} (f : A → B) (test : B → Bool) (xs : List A) → position_or_len test (map f xs) ≡ position_or_len (λ x. test (f x)) xs
position_map f test [] = refl
position_map f test (x ∷ xs) = ap (λ n. cond (not (test (f x))) (1 + n) 0) (position_map f test xs)

some_map : {A B : Type 0} (f : A → B) (o : Option A) → is_some (option_map f o) ≡ is_some o
some_map f None = refl
some_map f (Some x) = refl

-- whether something stands there
pub some_outlined : (name : List ℕ) (pool : PlainPool) → is_some (volume_at name (outlined pool)) ≡ is_some (volume_at name pool)
some_outlined name pool = ap is_some (outlined_at name pool) ∙ some_map outline (volume_at name pool)

more_outlined : (volume : PlainVolume) (pool : PlainPool) → with_volume (outline volume) (outlined pool) ≡ outlined (with_volume volume pool)
more_outlined volume pool =
    ap (λ b. cond b (outlined pool) (record { volumes = placed (outline volume) (map outline pool.volumes) })) (some_outlined volume.name pool)
    ∙ elim (is_some (volume_at volume.name pool)) as (λ b. cond b (outlined pool) (record { volumes = placed (outline volume) (map outline pool.volumes) })
    ≡ outlined (cond b pool (record { volumes = placed volume pool.volumes }))) [
      | true ↦ refl
      | false ↦ λ i. record { volumes = there i }
    ]
  where
    there : placed (outline volume) (map outline pool.volumes) ≡ map outline (placed volume pool.volumes)
    there =
        ap (λ n. insert (map outline pool.volumes) n (outline volume)) (position_map outline (λ v. is_before volume.name v.name) pool.volumes)
        ∙ sym (insert_map outline pool.volumes (position_or_len (λ v. is_before volume.name v.name) pool.volumes) volume)

any_outlined : (test : PlainVolume → Bool) → ((v : PlainVolume) → test (outline v) ≡ test v) → (volumes : List PlainVolume) → list_any test (map outline volumes) ≡ list_any test volumes
any_outlined test e [] = refl
any_outlined test e (v ∷ volumes) = λ i. e v i || any_outlined test e volumes i

pub snapshots_outlined : (name : List ℕ) (pool : PlainPool) → has_snapshots name (outlined pool) ≡ has_snapshots name pool
snapshots_outlined name pool = any_outlined (is_snapshot_of name) (λ v. refl) pool.volumes

pub clones_outlined : (name : List ℕ) (pool : PlainPool) → has_clones name (outlined pool) ≡ has_clones name pool
clones_outlined name pool = any_outlined (is_clone_of name) (λ v. refl) pool.volumes

without_outlined : (name : List ℕ) (pool : PlainPool) → without name (outlined pool) ≡ outlined (without name pool)
without_outlined name pool = λ i. record { volumes = along pool.volumes i }
  where
    along : (volumes : List PlainVolume) → filter (λ (v : PlainVolume). not (same v.name name)) (map outline volumes) ≡ map outline (filter (λ (v : PlainVolume). not (same v.name name)) volumes)
    along [] = refl
    along (v ∷ volumes) =
        ap (λ rest. cond (not (same v.name name)) (outline v ∷ rest) rest) (along volumes)
        ∙ elim (not (same v.name name)) as (λ b. cond b (outline v ∷ map outline (filter (λ (v : PlainVolume). not (same v.name name)) volumes)) (map outline (filter (λ (v : PlainVolume). not (same v.name name)) volumes))
        ≡ map outline (cond b (v ∷ filter (λ (v : PlainVolume). not (same v.name name)) volumes) (filter (λ (v : PlainVolume). not (same v.name name)) volumes))) [ true ↦ refl | false ↦ refl ]

-- what a change makes of outlines is the outline of what it makes
pub outlined_changed : (group : ℕ) (pool : PlainPool) (change : Change) → changed group (outlined pool) change ≡ outlined (changed group pool change)
outlined_changed group pool (Create called size block_size) =
    ap (λ n. with_volume (record (created group called size block_size) { bytes = replicate n 0 }) (outlined pool)) (sym (length-replicate {A = ℕ} size 0))
    ∙ more_outlined (created group called size block_size) pool
outlined_changed group pool (Snapshot volume part) =
    ap (λ o. with_snapshot group (snapshot_name volume part) o (outlined pool)) (outlined_at volume pool) ∙ taken (volume_at volume pool)
  where
    taken : (found : Option PlainVolume) → with_snapshot group (snapshot_name volume part) (option_map outline found) (outlined pool) ≡ outlined (with_snapshot group (snapshot_name volume part) found pool)
    taken None = refl
    taken (Some it) =
        let snapshot : PlainVolume = snapshot_of group (snapshot_name volume part) it in
        elim (is_snapshot it.kind) as (λ b. cond b (outlined pool) (with_volume (outline snapshot) (outlined pool)) ≡ outlined (cond b pool (with_volume snapshot pool))) [
          | true ↦ refl
          | false ↦ more_outlined snapshot pool
        ]
outlined_changed group pool (Clone snapshot called) =
    ap (λ o. with_clone group called o (outlined pool)) (outlined_at snapshot pool) ∙ cloned (volume_at snapshot pool)
  where
    cloned : (found : Option PlainVolume) → with_clone group called (option_map outline found) (outlined pool) ≡ outlined (with_clone group called found pool)
    cloned None = refl
    cloned (Some it) =
        let clone : PlainVolume = clone_of group called it in
        elim (is_snapshot it.kind) as (λ b. cond b (with_volume (outline clone) (outlined pool)) (outlined pool) ≡ outlined (cond b (with_volume clone pool) pool)) [
          | true ↦ more_outlined clone pool
          | false ↦ refl
        ]
outlined_changed group pool (Destroy name) =
    (λ i. cond (snapshots_outlined name pool i || clones_outlined name pool i) (outlined pool) (without_outlined name pool i))
    ∙ elim (has_snapshots name pool || has_clones name pool) as (λ b. cond b (outlined pool) (outlined (without name pool)) ≡ outlined (cond b pool (without name pool))) [ true ↦ refl | false ↦ refl ]

pub shapes_changed : (group : ℕ) (pool other : PlainPool) (change : Change) → HaveSameShapes pool other → HaveSameShapes (changed group pool change) (changed group other change)
shapes_changed group pool other change h =
    shapes_by (changed group pool change) (changed group other change)
    (sym (outlined_changed group pool change) ∙ (ap (λ p. changed group p change) (outlined_by pool other h) ∙ outlined_changed group other change))

-- what a group makes of shapes follows from its actions alone
pub shapes_applied : (group : ℕ) (pool other : PlainPool) (entry also : Entry) → entry.actions ≡ also.actions → HaveSameShapes pool other → HaveSameShapes (applied group pool entry) (applied group other also)
shapes_applied group pool other entry also e h =
    subst (λ actions. HaveSameShapes (applied group pool entry) (fold (λ p a. changed group p a.change) (fold written other also.writes) actions)) e
    (fold_along (λ p a. changed group p a.change) (λ p a. changed group p a.change) HaveSameShapes (λ p q a k. shapes_changed group p q a.change k) (fold written pool entry.writes) (fold written other also.writes) entry.actions
    (shapes_chain (fold written pool entry.writes) pool (fold written other also.writes) (shapes_of_writes pool entry.writes)
    (shapes_chain pool other (fold written other also.writes) h (shapes_back (fold written other also.writes) other (shapes_of_writes other also.writes)))))
