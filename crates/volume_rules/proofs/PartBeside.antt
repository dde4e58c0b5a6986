-- A change beside a name that goes.
use Rattle.std.proofs.Common.{◌≡◌, ℕ, Bool, true, false, true≢false, List, [], ◌∷◌, map, Option, None, refl, sym, ap, ◌∙◌, subst}
use Rattle.std.specs.Prelude.{◌%◌, ◌^◌, ◌==◌, ◌&&◌, cond, filter, is_some, nat_le, not}
use Rattle.std.specs.Cmp.Lexicographic.{slice_cmp}
use Rattle.std.specs.List.Sorted.{IsStrictlySortedBy}
use Rattle.std.specs.Option.{option_or}
use Rattle.std.specs.Ordering.{nat_cmp}
use Rattle.std.proofs.lemmas.List.Kept.{IsStrictlySortedBy-filter}
use Rattle.pool_model.specs.declared.item.Change.{Change}
use Rattle.pool_model.specs.declared.item.Change.TheVariants.{Clone, Create, Destroy, Snapshot}
use Rattle.pool_model.specs.declared.refusal.Refusal.TheVariants.{BadName, Exists, Misaligned, NoSuchName, OutOfRange}
use Rattle.pool_model.specs.declared.volume.PlainVolume.{PlainVolume}
use Rattle.pool_model.specs.Names.{does_make, is_block_size, is_name, name_of, same, volume_of}
use Rattle.pool_model.specs.Pools.{AreAscending, PlainPool, changed, volume_at, without}
use Rattle.pool_model.specs.Refusals.{change_refusal, first_cause, is_snapshot_there, is_volume}
use Rattle.pool_model.proofs.Places.{ascending_changed, equal_pools, is_same, same_is, volume_without}
use Rattle.volume_rules.proofs.PartChanges.{IsMaking, made_in, made_of, makes_its_name, or_none, volume_changed}

-- ---- a name that goes

names_without : (gone : List ℕ) (volumes : List PlainVolume) → map (λ v. v.name) (filter (λ v. not (same v.name gone)) volumes) ≡ filter (λ n. not (same n gone)) (map (λ v. v.name) volumes)
names_without gone [] = refl
names_without gone (v ∷ volumes) =
    let rest = names_without gone volumes in
    let kept = filter (λ (w : PlainVolume). not (same w.name gone)) volumes in
    let names = filter (λ n. not (same n gone)) (map (λ (w : PlainVolume). w.name) volumes) in
    elim (not (same v.name gone)) as (λ b. map (λ (w : PlainVolume). w.name) (cond b (v ∷ kept) kept) ≡ cond b (v.name ∷ names) names) [
      | true ↦ ap (λ ns. v.name ∷ ns) rest
      | false ↦ rest
    ]

pub ascending_without : (gone : List ℕ) (pool : PlainPool) → AreAscending pool.volumes → AreAscending (without gone pool).volumes
ascending_without gone pool up = subst (IsStrictlySortedBy (slice_cmp nat_cmp)) (sym (names_without gone pool.volumes)) (IsStrictlySortedBy-filter (slice_cmp nat_cmp) (λ n. not (same n gone)) (map (λ v. v.name) pool.volumes) up)

-- what another name has stays
pub volume_beside : (pool : PlainPool) (gone name : List ℕ) → same gone name ≡ false → volume_at name (without gone pool) ≡ volume_at name pool
volume_beside pool gone name apart = volume_without pool gone name ∙ ap (λ b. cond b None (volume_at name pool)) apart

beside : (gone name : List ℕ) → same name gone ≡ false → same gone name ≡ false
beside gone name e = cases (same gone name) refl
  where
    cases : (b : Bool) → same gone name ≡ b → b ≡ false
    cases true f = absurd (true≢false (sym (is_same name gone (sym (same_is gone name f))) ∙ e))
    cases false f = refl

same_refusal : (change : Change) (pool other : PlainPool) → IsMaking change → volume_at (volume_of change) pool ≡ volume_at (volume_of change) other → volume_at (name_of change) pool ≡ volume_at (name_of change) other
    → change_refusal change pool ≡ change_refusal change other
same_refusal (Create name size block_size) pool other making from to =
    ap (λ o. first_cause ((not (is_name name), BadName) ∷ (is_some o, Exists) ∷ (not (is_block_size block_size && (size % block_size == 0)), Misaligned) ∷ (not (nat_le block_size size && nat_le size (2 ^ 40)), OutOfRange) ∷ [])) to
same_refusal (Snapshot volume part) pool other making from to = λ i. first_cause ((not (is_name part), BadName) ∷ (not (is_volume (from i)), NoSuchName) ∷ (is_some (to i), Exists) ∷ [])
same_refusal (Clone snapshot name) pool other making from to = λ i. first_cause ((not (is_name name), BadName) ∷ (not (is_snapshot_there (from i)), NoSuchName) ∷ (is_some (to i), Exists) ∷ [])
same_refusal (Destroy name) pool other making from to = absurd making

-- a change that neither makes a name nor is of it takes effect without what the name has
pub refusal_beside : (change : Change) (pool : PlainPool) (gone : List ℕ) → IsMaking change → does_make change gone ≡ false → same (volume_of change) gone ≡ false → change_refusal change (without gone pool) ≡ change_refusal change pool
refusal_beside change pool gone making other apart =
    same_refusal change (without gone pool) pool making (volume_beside pool gone (volume_of change) (beside gone (volume_of change) apart))
    (volume_beside pool gone (name_of change) (beside gone (name_of change) (sym (makes_its_name change gone making) ∙ other)))

goes_or_stays : (b : Bool) (there new : Option PlainVolume) → (b ≡ true → new ≡ None) → option_or (cond b None there) new ≡ cond b None (option_or there new)
goes_or_stays true there new none = none refl
goes_or_stays false there new none = refl

-- and comes to the same
pub changed_beside : (group : ℕ) (pool : PlainPool) (change : Change) (gone : List ℕ) → AreAscending pool.volumes → IsMaking change → does_make change gone ≡ false → same (volume_of change) gone ≡ false
    → changed group (without gone pool) change ≡ without gone (changed group pool change)
changed_beside group pool change gone up making other apart =
    equal_pools (changed group (without gone pool) change) (without gone (changed group pool change))
    (ascending_changed group (without gone pool) change (ascending_without gone pool up))
    (ascending_without gone (changed group pool change) (ascending_changed group pool change up)) at
  where
    not_made : (name : List ℕ) → same gone name ≡ true → cond (does_make change name) (made_in group pool change) None ≡ None
    not_made name e = ap (λ b. cond b (made_in group pool change) None) (ap (does_make change) (sym (same_is gone name e)) ∙ other)

    at : (name : List ℕ) → volume_at name (changed group (without gone pool) change) ≡ volume_at name (without gone (changed group pool change))
    at name =
        volume_changed group (without gone pool) change name making
        ∙ ((λ i. option_or (volume_without pool gone name i) (cond (does_make change name) (made_in_same i) None))
        ∙ (goes_or_stays (same gone name) (volume_at name pool) (cond (does_make change name) (made_in group pool change) None) (not_made name)
        ∙ (ap (cond (same gone name) None) (sym (volume_changed group pool change name making))
        ∙ sym (volume_without (changed group pool change) gone name))))
      where
        made_in_same : made_in group (without gone pool) change ≡ made_in group pool change
        made_in_same = ap (made_of group change) (volume_beside pool gone (volume_of change) (beside gone (volume_of change) apart))

-- a change goes again with what it made
pub changed_gone : (group : ℕ) (pool : PlainPool) (change : Change) (gone : List ℕ) → AreAscending pool.volumes → IsMaking change → does_make change gone ≡ true → volume_at gone pool ≡ None → without gone (changed group pool change) ≡ pool
changed_gone group pool change gone up making made free =
    equal_pools (without gone (changed group pool change)) pool (ascending_without gone (changed group pool change) (ascending_changed group pool change up)) up at
  where
    called : name_of change ≡ gone
    called = same_is (name_of change) gone (sym (makes_its_name change gone making) ∙ made)

    cases : (name : List ℕ) (b : Bool) → same gone name ≡ b → cond b None (option_or (volume_at name pool) (cond (does_make change name) (made_in group pool change) None)) ≡ volume_at name pool
    cases name true e = sym (ap (λ n. volume_at n pool) (sym (same_is gone name e)) ∙ free)
    cases name false e =
        ap (λ b. option_or (volume_at name pool) (cond b (made_in group pool change) None)) (makes_its_name change name making ∙ (ap (λ n. same n name) called ∙ e))
        ∙ or_none (volume_at name pool)

    at : (name : List ℕ) → volume_at name (without gone (changed group pool change)) ≡ volume_at name pool
    at name =
        volume_without (changed group pool change) gone name
        ∙ (ap (cond (same gone name) None) (volume_changed group pool change name making)
        ∙ cases name (same gone name) refl)
