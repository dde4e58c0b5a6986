-- Writes leave what may be destroyed, and go with destroys in either order.
use Rattle.std.proofs.Common.{◌≡◌, ℕ, Bool, true, false, List, [], ◌∷◌, map, Option, Some, None, refl, sym, ap, ◌∙◌, subst}
use Rattle.std.specs.Prelude.{◌&&◌, ◌||◌, cond, filter, fold, not}
use Rattle.std.specs.List.{list_any}
use Rattle.std.specs.Option.{option_map}
use Rattle.pool_model.specs.declared.item.Write.{Write}
use Rattle.pool_model.specs.declared.volume.PlainVolume.{PlainVolume}
use Rattle.pool_model.specs.Names.{is_name_for, same, stored, volume_part}
use Rattle.pool_model.specs.Pools.{AreAscending, MayBeDestroyed, PlainPool, all_destroyed, destroyed, has_clones, has_snapshots, is_clone_of, is_origin, is_snapshot, is_snapshot_of, volume_after, volume_at, without, written}
use Rattle.pool_model.proofs.Places.{ascending_gone, ascending_written, name_after, volume_written}
use Rattle.volume_rules.specs.NowMoves.{HasGoodNames}
use Rattle.volume_rules.proofs.PartChanges.{some_is}

-- ---- a write

kind_after : (w : Write) (v : PlainVolume) → (volume_after w v).kind ≡ v.kind
kind_after w v = elim (same v.name w.volume && not (is_snapshot v.kind)) as (λ b. (cond b (record v { bytes = stored w.offset w.bytes v.bytes }) v).kind ≡ v.kind) [ true ↦ refl | false ↦ refl ]

origin_after : (w : Write) (v : PlainVolume) → (volume_after w v).origin ≡ v.origin
origin_after w v = elim (same v.name w.volume && not (is_snapshot v.kind)) as (λ b. (cond b (record v { bytes = stored w.offset w.bytes v.bytes }) v).origin ≡ v.origin) [ true ↦ refl | false ↦ refl ]

any_map : (test : PlainVolume → Bool) (f : PlainVolume → PlainVolume) → ((v : PlainVolume) → test (f v) ≡ test v) → (volumes : List PlainVolume) → list_any test (map f volumes) ≡ list_any test volumes
any_map test f same_test [] = refl
any_map test f same_test (v ∷ volumes) = λ i. same_test v i || any_map test f same_test volumes i

filter_map_is : (test : PlainVolume → Bool) (f : PlainVolume → PlainVolume) → ((v : PlainVolume) → test (f v) ≡ test v) → (volumes : List PlainVolume) → filter test (map f volumes) ≡ map f (filter test volumes)
filter_map_is test f same_test [] = refl
filter_map_is test f same_test (v ∷ volumes) =
    (λ i. cond (same_test v i) (f v ∷ filter_map_is test f same_test volumes i) (filter_map_is test f same_test volumes i))
    ∙ elim (test v) as (λ b. cond b (f v ∷ map f (filter test volumes)) (map f (filter test volumes)) ≡ map f (cond b (v ∷ filter test volumes) (filter test volumes))) [ true ↦ refl | false ↦ refl ]

snapshots_written : (name : List ℕ) (pool : PlainPool) (w : Write) → has_snapshots name (written pool w) ≡ has_snapshots name pool
snapshots_written name pool w = any_map (is_snapshot_of name) (volume_after w) (λ v i. is_snapshot (kind_after w v i) && same (volume_part (name_after w v i)) name) pool.volumes

clones_written : (name : List ℕ) (pool : PlainPool) (w : Write) → has_clones name (written pool w) ≡ has_clones name pool
clones_written name pool w = any_map (is_clone_of name) (volume_after w) (λ v. ap (is_origin name) (origin_after w v)) pool.volumes

without_written : (name : List ℕ) (pool : PlainPool) (w : Write) → without name (written pool w) ≡ written (without name pool) w
without_written name pool w = λ i. record pool { volumes = filter_map_is (λ v. not (same v.name name)) (volume_after w) (λ v. ap (λ n. not (same n name)) (name_after w v)) pool.volumes i }

destroyed_written : (name : List ℕ) (pool : PlainPool) (w : Write) → destroyed name (written pool w) ≡ written (destroyed name pool) w
destroyed_written name pool w =
    (λ i. cond (snapshots_written name pool w i || clones_written name pool w i) (written pool w) (without_written name pool w i))
    ∙ elim (has_snapshots name pool || has_clones name pool) as (λ b. cond b (written pool w) (written (without name pool) w) ≡ written (cond b pool (without name pool)) w) [ true ↦ refl | false ↦ refl ]

all_destroyed_written : (names : List (List ℕ)) (pool : PlainPool) (w : Write) → all_destroyed names (written pool w) ≡ written (all_destroyed names pool) w
all_destroyed_written [] pool w = refl
all_destroyed_written (name ∷ names) pool w = ap (all_destroyed names) (destroyed_written name pool w) ∙ all_destroyed_written names (destroyed name pool) w

may_written : (names : List (List ℕ)) (pool : PlainPool) (w : Write) → MayBeDestroyed names (written pool w) → MayBeDestroyed names pool
may_written [] pool w may = tt
may_written (name ∷ names) pool w may = (
  sym (snapshots_written name pool w) ∙ may.0,
  sym (clones_written name pool w) ∙ may.1,
  may_written names (destroyed name pool) w (subst (MayBeDestroyed names) (destroyed_written name pool w) may.2),
)

good_written : (pool : PlainPool) (w : Write) → HasGoodNames pool → HasGoodNames (written pool w)
good_written pool w named name volume e = cases (volume_at name pool) refl
  where
    cases : (found : Option PlainVolume) → volume_at name pool ≡ found → is_name_for volume.kind name ≡ true
    cases None f = absurd (let g : None ≡ Some volume = sym (volume_written pool w name ∙ ap (option_map (volume_after w)) f) ∙ e in cc)
    cases (Some x) f =
        let is = some_is (volume_after w x) volume (sym (volume_written pool w name ∙ ap (option_map (volume_after w)) f) ∙ e) in
        subst (λ kind. is_name_for kind name ≡ true) (sym (kind_after w x) ∙ ap (λ (v : PlainVolume). v.kind) is) (named name x f)

-- ---- all writes of a group

pub all_destroyed_writes : (names : List (List ℕ)) (pool : PlainPool) (writes : List Write) → fold written (all_destroyed names pool) writes ≡ all_destroyed names (fold written pool writes)
all_destroyed_writes names pool [] = refl
all_destroyed_writes names pool (w ∷ writes) = ap (λ p. fold written p writes) (sym (all_destroyed_written names pool w)) ∙ all_destroyed_writes names (written pool w) writes

pub may_writes : (names : List (List ℕ)) (pool : PlainPool) (writes : List Write) → MayBeDestroyed names (fold written pool writes) → MayBeDestroyed names pool
may_writes names pool [] may = may
may_writes names pool (w ∷ writes) may = may_written names pool w (may_writes names (written pool w) writes may)

pub good_writes : (pool : PlainPool) (writes : List Write) → HasGoodNames pool → HasGoodNames (fold written pool writes)
good_writes pool [] named = named
good_writes pool (w ∷ writes) named = good_writes (written pool w) writes (good_written pool w named)

pub ascending_writes : (pool : PlainPool) (writes : List Write) → AreAscending pool.volumes → AreAscending (fold written pool writes).volumes
ascending_writes pool [] up = up
ascending_writes pool (w ∷ writes) up = ascending_writes (written pool w) writes (ascending_written pool w up)

-- ---- names destroyed in order

pub ascending_destroyed : (names : List (List ℕ)) (pool : PlainPool) → AreAscending pool.volumes → AreAscending (all_destroyed names pool).volumes
ascending_destroyed [] pool up = up
ascending_destroyed (name ∷ names) pool up = ascending_destroyed names (destroyed name pool) (ascending_gone name pool up)
