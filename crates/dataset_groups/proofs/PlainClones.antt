-- Clones and snapshots in plain pools.
use Rattle.std.proofs.Common.{◌≡◌, ◌≢◌, ◌⊎◌, ℕ, zero, suc, Bool, true, false, true≢false, List, [], ◌∷◌, Option, None, Contains, inl, inr, refl, sym, ap, subst, ◌∙◌}
use Rattle.std.specs.Prelude.{cond, filter, insert, is_some, not}
use Rattle.std.specs.List.{position_or_len}
use Rattle.std.proofs.lemmas.List.Folds.{list_any-from_Any}
use Rattle.pool_model.specs.declared.volume.PlainVolume.{PlainVolume}
use Rattle.pool_model.specs.Names.{is_before, same, volume_part}
use Rattle.pool_model.specs.Pools.{PlainPool, has_clones, has_snapshots, is_clone_of, is_origin, is_snapshot, is_snapshot_of, placed, volume_at, with_volume, without}
use Rattle.pool_model.proofs.Places.{is_same, same_is}
use Rattle.dataset_groups.specs.Names.{HasClone}
use Rattle.dataset_groups.proofs.KindNames.{both_true}
use Rattle.dataset_groups.proofs.ListParts.{first_or_later, is_first, is_later, nothing_in}

-- ---- what they tell

pub clone_told : (plain : PlainPool) (name origin : List ℕ) → HasClone plain name origin → has_clones origin plain ≡ true
clone_told plain name origin has =
    list_any-from_Any (is_clone_of origin) plain.volumes (has.1.0, has.0, has.1.1, has.1.2, ap (is_origin origin) has.3 ∙ is_same origin origin refl)

pub snapshot_told : (plain : PlainPool) (volume : PlainVolume) (name : List ℕ) → Contains plain.volumes volume → is_snapshot volume.kind ≡ true → volume_part volume.name ≡ name
    → has_snapshots name plain ≡ true
snapshot_told plain volume name held is part =
    list_any-from_Any (is_snapshot_of name) plain.volumes
    (held.0, volume, held.1, held.2, both_true (is_snapshot volume.kind) (same (volume_part volume.name) name) is (is_same (volume_part volume.name) name part))

-- ---- without the one of a name

either : (test : Bool) → (test ≡ true) ⊎ (test ≡ false)
either true = inl refl
either false = inr refl

filter_yes : {X : Type 0} (p : X → Bool) (x : X) (xs : List X) → p x ≡ true → filter p (x ∷ xs) ≡ x ∷ filter p xs
filter_yes p x xs is = rw is refl

filter_no : {X : Type 0} (p : X → Bool) (x : X) (xs : List X) → p x ≡ false → filter p (x ∷ xs) ≡ filter p xs
filter_no p x xs is = rw is refl

in_filter : {X : Type 0} (p : X → Bool) (xs : List X) (x : X) → p x ≡ true → Contains xs x → Contains (filter p xs) x
in_filter p [] x is held = held
in_filter p (y ∷ xs) x is held = elim (either (p y)) [
  | inl passes ↦ subst (λ them. Contains them x) (sym (filter_yes p y xs passes)) (elim (first_or_later y x xs held) [
    | inl one ↦ subst (λ z. Contains (y ∷ filter p xs) z) one (is_first y (filter p xs))
    | inr later ↦ is_later y x (filter p xs) (in_filter p xs x is later)
  ])
  | inr fails ↦ subst (λ them. Contains them x) (sym (filter_no p y xs fails)) (elim (first_or_later y x xs held) [
    | inl one ↦ absurd (true≢false (sym is ∙ ap p (sym one) ∙ fails))
    | inr later ↦ in_filter p xs x is later
  ])
]

from_filter : {X : Type 0} (p : X → Bool) (xs : List X) (x : X) → Contains (filter p xs) x → Contains xs x × (p x ≡ true)
from_filter p [] x held = absurd (nothing_in x held)
from_filter p (y ∷ xs) x held = elim (either (p y)) [
  | inl passes ↦ elim (first_or_later y x (filter p xs) (subst (λ them. Contains them x) (filter_yes p y xs passes) held)) [
    | inl one ↦ (subst (λ z. Contains (y ∷ xs) z) one (is_first y xs), ap p (sym one) ∙ passes)
    | inr later ↦ let rest = from_filter p xs x later in (is_later y x xs rest.0, rest.1)
  ]
  | inr fails ↦ let rest = from_filter p xs x (subst (λ them. Contains them x) (filter_no p y xs fails) held) in (is_later y x xs rest.0, rest.1)
]

differ : (name other : List ℕ) (b : Bool) → same name other ≡ b → name ≢ other → not b ≡ true
differ name other true e apart = absurd (apart (same_is name other e))
differ name other false e apart = refl

apart_by : (name other : List ℕ) (b : Bool) → same name other ≡ b → not b ≡ true → name ≢ other
apart_by name other true e off is = absurd (true≢false (sym off))
apart_by name other false e off is = true≢false (sym (is_same name other is) ∙ e)

module _ (plain : PlainPool) (name : List ℕ) where
  pub in_without : (volume : PlainVolume) → Contains plain.volumes volume → volume.name ≢ name → Contains (without name plain).volumes volume
  in_without volume held apart =
      in_filter (λ (v : PlainVolume). not (same v.name name)) plain.volumes volume (differ volume.name name (same volume.name name) refl apart) held

  pub from_without : (volume : PlainVolume) → Contains (without name plain).volumes volume → Contains plain.volumes volume × (volume.name ≢ name)
  from_without volume held =
      let there = from_filter (λ (v : PlainVolume). not (same v.name name)) plain.volumes volume held in
      (there.0, apart_by volume.name name (same volume.name name) refl there.1)

  pub clone_left : (clone origin : List ℕ) → clone ≢ name → HasClone plain clone origin → HasClone (without name plain) clone origin
  clone_left clone origin apart has = (has.0, in_without has.0 has.1 (λ e. apart (sym has.2 ∙ e)), has.2, has.3)

-- ---- with one more

still_there : {X : Type 0} (xs : List X) (x y : X) (at : ℕ) → Contains xs y → Contains (insert xs at x) y
still_there xs x y zero held = is_later x y xs held
still_there [] x y (suc at) held = absurd (nothing_in y held)
still_there (first ∷ xs) x y (suc at) held = elim (first_or_later first y xs held) [
  | inl one ↦ subst (λ z. Contains (first ∷ insert xs at x) z) one (is_first first (insert xs at x))
  | inr later ↦ is_later first y (insert xs at x) (still_there xs x y at later)
]

new_there : {X : Type 0} (xs : List X) (x : X) (at : ℕ) → Contains (insert xs at x) x
new_there xs x zero = is_first x xs
new_there [] x (suc at) = is_first x []
new_there (first ∷ xs) x (suc at) = is_later first x (insert xs at x) (new_there xs x at)

old_or_new : {X : Type 0} (xs : List X) (x y : X) (at : ℕ) → Contains (insert xs at x) y → Contains xs y ⊎ (x ≡ y)
old_or_new xs x y zero held = elim (first_or_later x y xs held) [
  | inl one ↦ inr one
  | inr later ↦ inl later
]
old_or_new [] x y (suc at) held = elim (first_or_later x y [] held) [
  | inl one ↦ inr one
  | inr later ↦ inl later
]
old_or_new (first ∷ xs) x y (suc at) held = elim (first_or_later first y (insert xs at x) held) [
  | inl one ↦ inl (subst (λ z. Contains (first ∷ xs) z) one (is_first first xs))
  | inr later ↦ elim (old_or_new xs x y at later) [
    | inl old ↦ inl (is_later first y xs old)
    | inr new ↦ inr new
  ]
]

module _ (plain : PlainPool) (volume : PlainVolume) (none : volume_at volume.name plain ≡ None) where
  abbrev place : ℕ
  place = position_or_len (λ (v : PlainVolume). is_before volume.name v.name) plain.volumes

  with_is : with_volume volume plain ≡ record plain { volumes = placed volume plain.volumes }
  with_is = ap (λ (o : Option PlainVolume). cond (is_some o) plain (record plain { volumes = placed volume plain.volumes })) none

  pub volume_still : (v : PlainVolume) → Contains plain.volumes v → Contains (with_volume volume plain).volumes v
  volume_still v held = subst (λ (p : PlainPool). Contains p.volumes v) (sym with_is) (still_there plain.volumes volume v place held)

  pub volume_added : Contains (with_volume volume plain).volumes volume
  volume_added = subst (λ (p : PlainPool). Contains p.volumes volume) (sym with_is) (new_there plain.volumes volume place)

  pub volume_from : (v : PlainVolume) → Contains (with_volume volume plain).volumes v → Contains plain.volumes v ⊎ (volume ≡ v)
  volume_from v held = old_or_new plain.volumes volume v place (subst (λ (p : PlainPool). Contains p.volumes v) with_is held)

  pub clone_still : (name origin : List ℕ) → HasClone plain name origin → HasClone (with_volume volume plain) name origin
  clone_still name origin has = (has.0, volume_still has.0 has.1, has.2, has.3)
