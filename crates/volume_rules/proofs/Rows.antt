-- The names of a pool as rows.
use Rattle.std.proofs.Common.{◌≡◌, ℕ, Bool, true, false, cond, List, [], ◌∷◌, map, Option, Some, None, BTreeMap, All, refl, sym, ap, ◌∙◌, subst}
use Rattle.std.specs.Prelude.{find}
use Rattle.std.specs.BTreeMap.{IsOrdered, Updates, is_at}
use Rattle.std.specs.Cmp.{eq_by_cmp_equiv}
use Rattle.std.specs.Cmp.Lexicographic.{slice_cmp, nat_list_cmp_total, nat_list_eq_equiv}
use Rattle.std.specs.List.{AllByRecursion}
use Rattle.std.specs.List.Sorted.{IsStrictlySortedBy}
use Rattle.std.specs.Map.{KeepsOthers, keys_of, lookup}
use Rattle.std.specs.Option.{option_map, option_or}
use Rattle.std.specs.Ordering.{nat_cmp, ordering_reverse}
use Rattle.std.specs.declared.cmp.Ordering.{Ordering}
use Rattle.std.specs.declared.cmp.Ordering.TheVariants.{Less, Equal, Greater}
use Rattle.std.proofs.lemmas.List.Elements.{recursion_from_All}
use Rattle.std.proofs.lemmas.Map.{lookup-none}
use Rattle.std.proofs.lemmas.Map.Entries.{lookup_head, lookup_tail, none_below_head, none_past_head}
use Rattle.std.proofs.lemmas.Map.Keys.{IsDistinct-from_sorted, sorted_tail}
use Rattle.std.proofs.lemmas.Map.Lookups.{exact_bytes, map_keys}
use Rattle.std.proofs.lemmas.Map.Text.{is_eq-slice_cmp}
use Rattle.pool_model.specs.declared.volume.PlainVolume.{PlainVolume}
use Rattle.pool_model.specs.Names.{same}
use Rattle.pool_model.specs.Pools.{AreAscending, PlainPool}
use Rattle.pool_model.proofs.Places.{is_same, same_is}
use Rattle.volume_rules.specs.declared.shape.NamedShape.{NamedShape}
use Rattle.volume_rules.specs.declared.shape.VolumeEntry.{VolumeEntry}
use Rattle.volume_rules.specs.declared.shape.VolumeShape.{VolumeShape}
use Rattle.volume_rules.specs.Shapes.{rows_of, shape_at, shape_of}

abbrev pub shape_in : {K : Type 0} → (K → List ℕ) → List ℕ → List (K × VolumeShape) → Option VolumeShape
shape_in items name shapes = lookup (λ k. is_at (slice_cmp nat_cmp name) (items k)) shapes

abbrev pub entry_in : {K : Type 0} → (K → List ℕ) → List ℕ → List (K × VolumeEntry) → Option VolumeShape
entry_in items name entries = option_map (λ e. e.shape) (lookup (λ k. same name (items k)) entries)

flip : (a b : List ℕ) → same a b ≡ same b a
flip a b = nat_list_eq_equiv.symm a b

-- ---- one shape more

module _ {K : Type 0} (items : K → List ℕ) (old new : BTreeMap K VolumeShape) (key : K) (shape : VolumeShape)
    (updates : Updates (λ x y. slice_cmp nat_cmp (items x) (items y)) old new key (Some shape)) where
  apart : (other : List ℕ) → same (items key) other ≡ false → (k : K) → is_at (slice_cmp nat_cmp (items key)) (items k) ≡ true → is_at (slice_cmp nat_cmp other) (items k) ≡ false
  apart other others k tied =
      is_eq-slice_cmp other (items k)
      ∙ (ap (same other) (sym (same_is (items key) (items k) (sym (is_eq-slice_cmp (items key) (items k)) ∙ tied))) ∙ (flip other (items key) ∙ others))

  kept : (other : List ℕ) → same (items key) other ≡ false → shape_in items other new.entries ≡ shape_in items other old.entries
  unfolding KeepsOthers
  kept other others =
      updates.3 (λ k. is_at (slice_cmp nat_cmp other) (items k)) (λ x y. (eq_by_cmp_equiv nat_list_cmp_total).congr other (items x) (items y)) (apart other others)

  pub shape_put : (other : List ℕ) → shape_in items other new.entries ≡ cond (same (items key) other) (Some shape) (shape_in items other old.entries)
  shape_put other = cases (same (items key) other) refl
    where
      cases : (b : Bool) → same (items key) other ≡ b → shape_in items other new.entries ≡ cond (same (items key) other) (Some shape) (shape_in items other old.entries)
      cases true e =
          subst (λ n. shape_in items n new.entries ≡ Some shape) (same_is (items key) other e) updates.1
          ∙ sym (ap (λ b. cond b (Some shape) (shape_in items other old.entries)) e)
      cases false e = kept other e ∙ sym (ap (λ b. cond b (Some shape) (shape_in items other old.entries)) e)

-- ---- all of them

-- what is put so far and what is left have the shape of each entry
pub record IsSorting {K : Type 0} (items : K → List ℕ) (all rest : List (K × VolumeEntry)) (shapes : List (K × VolumeShape)) : Type 0 where
  pub looked_up : (name : List ℕ) → option_or (shape_in items name shapes) (entry_in items name rest) ≡ entry_in items name all
  pub found : AllByRecursion (λ e. lookup (λ k. same (items e.0) (items k)) all ≡ Some e.1) rest

module _ {K : Type 0} (items : K → List ℕ) (all : List (K × VolumeEntry)) where
  pub sorting_start : (shapes : List (K × VolumeShape)) → shapes ≡ [] → All (λ e. lookup (λ k. same (items e.0) (items k)) all ≡ Some e.1) all → IsSorting items all all shapes
  sorting_start shapes none found = record {
    looked_up = λ name. ap (λ s. option_or (shape_in items name s) (entry_in items name all)) none;
    found = recursion_from_All _ all found;
  }

  pub sorting_more : (rest : List (K × VolumeEntry)) (shapes more : List (K × VolumeShape)) (key : K) (entry : VolumeEntry) → IsSorting items all ((key, entry) ∷ rest) shapes
      → ((name : List ℕ) → shape_in items name more ≡ cond (same (items key) name) (Some entry.shape) (shape_in items name shapes))
      → IsSorting items all rest more
  sorting_more rest shapes more key entry was puts = record {
    looked_up = λ name. cases name (same (items key) name) refl;
    found = was.found.1;
  }
    where
      cases : (name : List ℕ) (b : Bool) → same (items key) name ≡ b → option_or (shape_in items name more) (entry_in items name rest) ≡ entry_in items name all
      cases name true e =
          ap (λ o. option_or o (entry_in items name rest)) (puts name ∙ ap (λ b. cond b (Some entry.shape) (shape_in items name shapes)) e)
          ∙ sym (subst (λ n. entry_in items n all ≡ Some entry.shape) (same_is (items key) name e) (ap (option_map (λ e. e.shape)) was.found.0))
      cases name false e =
          ap (λ o. option_or o (entry_in items name rest)) (puts name ∙ ap (λ b. cond b (Some entry.shape) (shape_in items name shapes)) e)
          ∙ (ap (λ b. option_or (shape_in items name shapes) (option_map (λ e. e.shape) (cond b (Some entry) (lookup (λ k. same name (items k)) rest)))) (sym (flip name (items key) ∙ e))
          ∙ was.looked_up name)

  pub sorting_end : (rest : List (K × VolumeEntry)) (shapes : List (K × VolumeShape)) → IsSorting items all rest shapes → rest ≡ [] → (name : List ℕ) → shape_in items name shapes ≡ entry_in items name all
  sorting_end rest shapes was none name =
      sym (or_none (shape_in items name shapes)) ∙ (sym (ap (λ r. option_or (shape_in items name shapes) (entry_in items name r)) none) ∙ was.looked_up name)
    where
      or_none : (o : Option VolumeShape) → option_or o None ≡ o
      or_none None = refl
      or_none (Some x) = refl

-- ---- two lists of names and shapes in order

abbrev Pair : Type 0
Pair = List ℕ × VolumeShape

abbrev at : List ℕ → List Pair → Option VolumeShape
at name pairs = lookup (is_at (slice_cmp nat_cmp name)) pairs

abbrev AscendPairs : List Pair → Type 0
AscendPairs pairs = IsStrictlySortedBy (slice_cmp nat_cmp) (keys_of pairs)

none_some : (shape : VolumeShape) → None ≡ Some shape → ⊥
none_some shape e = cc

at_head : (x : Pair) (xs : List Pair) → at x.0 (x ∷ xs) ≡ Some x.1
at_head x xs = lookup_head (is_at (slice_cmp nat_cmp x.0)) x xs (is_eq-slice_cmp x.0 x.0 ∙ is_same x.0 x.0 refl)

past_head : (name : List ℕ) (x : Pair) (xs : List Pair) → AscendPairs (x ∷ xs) → is_at (slice_cmp nat_cmp name) x.0 ≡ true → at name xs ≡ None
past_head name x xs up tied =
    lookup-none (is_at (slice_cmp nat_cmp name)) xs
    (none_past_head (eq_by_cmp_equiv nat_list_cmp_total) name x xs (IsDistinct-from_sorted (slice_cmp nat_cmp) (keys_of (x ∷ xs)) up) tied)

module _ (x y : Pair) (xs ys : List Pair) (up : AscendPairs (x ∷ xs)) (above : AscendPairs (y ∷ ys)) (same_at : (name : List ℕ) → at name (x ∷ xs) ≡ at name (y ∷ ys)) where
  same_names : (o : Ordering) → slice_cmp nat_cmp x.0 y.0 ≡ o → x.0 ≡ y.0
  same_names Less e =
      absurd (none_some x.1 (sym (lookup-none _ (y ∷ ys) (none_below_head nat_list_cmp_total x.0 y ys above e)) ∙ (sym (same_at x.0) ∙ at_head x xs)))
  same_names Equal e = exact_bytes x.0 y.0 e
  same_names Greater e =
      let behind : slice_cmp nat_cmp y.0 x.0 ≡ Less = nat_list_cmp_total.antisymm y.0 x.0 ∙ ap ordering_reverse e in
      absurd (none_some y.1 (sym (lookup-none _ (x ∷ xs) (none_below_head nat_list_cmp_total y.0 x xs up behind)) ∙ (same_at y.0 ∙ at_head y ys)))

  heads : x.0 ≡ y.0
  heads = same_names (slice_cmp nat_cmp x.0 y.0) refl

  shapes : x.1 ≡ y.1
  shapes =
      let e : Some x.1 ≡ Some y.1 = sym (at_head x xs) ∙ (same_at x.0 ∙ (ap (λ n. at n (y ∷ ys)) heads ∙ at_head y ys)) in cc

  tails : (name : List ℕ) → at name xs ≡ at name ys
  tails name = cases (is_at (slice_cmp nat_cmp name) x.0) refl
    where
      cases : (b : Bool) → is_at (slice_cmp nat_cmp name) x.0 ≡ b → at name xs ≡ at name ys
      cases true e =
          past_head name x xs up e ∙ sym (past_head name y ys above (ap (λ n. is_at (slice_cmp nat_cmp name) n) (sym heads) ∙ e))
      cases false e =
          sym (lookup_tail (is_at (slice_cmp nat_cmp name)) x xs e)
          ∙ (same_at name ∙ lookup_tail (is_at (slice_cmp nat_cmp name)) y ys (ap (λ n. is_at (slice_cmp nat_cmp name) n) (sym heads) ∙ e))

equal_pairs : (xs ys : List Pair) → AscendPairs xs → AscendPairs ys → ((name : List ℕ) → at name xs ≡ at name ys) → xs ≡ ys
equal_pairs [] [] up above same_at = refl
equal_pairs [] (y ∷ ys) up above same_at = absurd (none_some y.1 (same_at y.0 ∙ at_head y ys))
equal_pairs (x ∷ xs) [] up above same_at = absurd (none_some x.1 (sym (same_at x.0) ∙ at_head x xs))
equal_pairs (x ∷ xs) (y ∷ ys) up above same_at =
    let rest = equal_pairs xs ys (sorted_tail (slice_cmp nat_cmp) x.0 (keys_of xs) up) (sorted_tail (slice_cmp nat_cmp) y.0 (keys_of ys) above) (tails x y xs ys up above same_at) in
    λ i. (heads x y xs ys up above same_at i, shapes x y xs ys up above same_at i) ∷ rest i

-- ---- as rows

abbrev pairs_of : List PlainVolume → List (List ℕ × VolumeShape)
pairs_of volumes = map (λ v. (v.name, shape_of v)) volumes

abbrev row_of : List ℕ × VolumeShape → NamedShape
row_of e = record { name = e.0; shape = e.1 }

keys_pairs : (volumes : List PlainVolume) → keys_of (pairs_of volumes) ≡ map (λ v. v.name) volumes
keys_pairs [] = refl
keys_pairs (v ∷ volumes) = ap (λ l. v.name ∷ l) (keys_pairs volumes)

rows_pairs : (volumes : List PlainVolume) → map row_of (pairs_of volumes) ≡ map (λ v. record { name = v.name; shape = shape_of v }) volumes
rows_pairs [] = refl
rows_pairs (v ∷ volumes) = ap (λ l. row_of (v.name, shape_of v) ∷ l) (rows_pairs volumes)

lookup_pairs : (name : List ℕ) (volumes : List PlainVolume) → lookup (is_at (slice_cmp nat_cmp name)) (pairs_of volumes) ≡ option_map shape_of (find (λ v. same v.name name) volumes)
lookup_pairs name [] = refl
lookup_pairs name (v ∷ volumes) =
    (λ i. cond ((is_eq-slice_cmp name v.name ∙ flip name v.name) i) (Some (shape_of v)) (lookup_pairs name volumes i))
    ∙ elim (same v.name name) as (λ b. cond b (Some (shape_of v)) (option_map shape_of (find (λ v. same v.name name) volumes)) ≡ option_map shape_of (cond b (Some v) (find (λ v. same v.name name) volumes))) [ true ↦ refl | false ↦ refl ]

module _ {K : Type 0} (items : K → List ℕ) where
  lookup_names : (name : List ℕ) (es : List (K × VolumeShape)) → lookup (is_at (slice_cmp nat_cmp name)) (map_keys items es) ≡ shape_in items name es
  lookup_names name [] = refl
  lookup_names name (e ∷ es) = ap (λ o. cond (is_at (slice_cmp nat_cmp name) (items e.0)) (Some e.1) o) (lookup_names name es)

  all_names : (P : List ℕ → Type 0) (es : List (K × VolumeShape)) → AllByRecursion (λ k. P (items k)) (keys_of es) → AllByRecursion P (keys_of (map_keys items es))
  all_names P [] all = tt
  all_names P (e ∷ es) all = (all.0, all_names P es all.1)

  names_ascend : (es : List (K × VolumeShape)) → IsStrictlySortedBy (λ x y. slice_cmp nat_cmp (items x) (items y)) (keys_of es) → IsStrictlySortedBy (slice_cmp nat_cmp) (keys_of (map_keys items es))
  unfolding IsStrictlySortedBy
  names_ascend [] up = tt
  names_ascend (e ∷ es) up = (all_names (λ n. slice_cmp nat_cmp (items e.0) n ≡ Less) es up.0, names_ascend es up.1)

  rows_names : (es : List (K × VolumeShape)) → map (λ e. record { name = items e.0; shape = e.1 }) es ≡ map row_of (map_keys items es)
  rows_names [] = refl
  rows_names (e ∷ es) = ap (λ l. row_of (items e.0, e.1) ∷ l) (rows_names es)

  -- a map that has a pool's shapes has its rows
  pub rows_are : (shapes : BTreeMap K VolumeShape) (pool : PlainPool) → IsOrdered (λ x y. slice_cmp nat_cmp (items x) (items y)) shapes → AreAscending pool.volumes
      → ((name : List ℕ) → shape_in items name shapes.entries ≡ shape_at name pool)
      → map (λ e. record { name = items e.0; shape = e.1 }) shapes.entries ≡ rows_of pool
  rows_are shapes pool ordered up at_names =
      rows_names shapes.entries ∙ (ap (map row_of) pairs ∙ rows_pairs pool.volumes)
    where
      pairs : map_keys items shapes.entries ≡ pairs_of pool.volumes
      pairs =
          equal_pairs (map_keys items shapes.entries) (pairs_of pool.volumes) (names_ascend shapes.entries ordered)
          (subst (IsStrictlySortedBy (slice_cmp nat_cmp)) (sym (keys_pairs pool.volumes)) up)
          (λ name. lookup_names name shapes.entries ∙ (at_names name ∙ sym (lookup_pairs name pool.volumes)))
