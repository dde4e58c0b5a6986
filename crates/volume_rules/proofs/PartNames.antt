-- The names that a pool has behind a change, and what a change holds.
use Rattle.std.proofs.Common.{◌≡◌, ℕ, Bool, true, false, true≢false, List, [], ◌∷◌, Option, Some, None, refl, sym, ap, ◌∙◌, subst}
use Rattle.std.specs.Prelude.{◌||◌, cond, is_none, is_some, not}
use Rattle.std.specs.Option.{option_or}
use Rattle.std.proofs.lemmas.Bool.{and_from}
use Rattle.std.proofs.lemmas.Option.{cond_some}
use Rattle.pool_model.specs.declared.item.Change.{Change}
use Rattle.pool_model.specs.declared.item.Change.TheVariants.{Clone, Create, Destroy, Snapshot}
use Rattle.pool_model.specs.declared.refusal.Refusal.TheVariants.{BadName, HasClones, HasSnapshots, NoSuchName}
use Rattle.pool_model.specs.declared.volume.PlainVolume.{PlainVolume}
use Rattle.pool_model.specs.declared.volume.VolumeKind.{VolumeKind}
use Rattle.pool_model.specs.declared.volume.VolumeKind.TheVariants.{Volume, Snapshot as SnapshotKind}
use Rattle.pool_model.specs.Names.{is_name, is_name_for, is_snapshot_name, is_whole_name, same, snapshot_name, volume_of, volume_part}
use Rattle.pool_model.specs.Pools.{PlainPool, changed, clone_of, created, destroyed, has_clones, has_snapshots, is_clone_of, is_snapshot, is_snapshot_of, snapshot_of, volume_at, with_clone, with_snapshot, with_volume, without}
use Rattle.pool_model.specs.Refusals.{change_refusal, first_cause, is_snapshot_there, is_volume}
use Rattle.pool_model.proofs.Letters.{snapshots_name, volumes_part}
use Rattle.pool_model.proofs.Places.{is_same, same_is, volume_more, volume_without}
use Rattle.volume_rules.specs.NowMoves.{HasGoodNames}
use Rattle.volume_rules.proofs.PartChanges.{IsMaking, any_new, creation_free, found_named, from_there_free, makes_no_other, name_is_free, none_some, not_true, some_is}

-- ---- good names

good_more : (pool : PlainPool) (new : PlainVolume) → is_name_for new.kind new.name ≡ true → HasGoodNames pool → HasGoodNames (with_volume new pool)
good_more pool new good named name volume e = cases (volume_at name pool) refl
  where
    at : option_or (volume_at name pool) (cond (same new.name name) (Some new) None) ≡ Some volume
    at = sym (volume_more pool new name) ∙ e

    cases : (found : Option PlainVolume) → volume_at name pool ≡ found → is_name_for volume.kind name ≡ true
    cases None f =
        let parts = cond_some (same new.name name) new volume (sym (ap (λ o. option_or o (cond (same new.name name) (Some new) None)) f) ∙ at) in
        subst (λ n. is_name_for volume.kind n ≡ true) (same_is new.name name parts.0) (subst (λ (v : PlainVolume). is_name_for v.kind new.name ≡ true) parts.1 good)
    cases (Some x) f =
        let is = some_is x volume (sym (ap (λ o. option_or o (cond (same new.name name) (Some new) None)) f) ∙ at) in
        subst (λ (v : PlainVolume). is_name_for v.kind name ≡ true) is (named name x f)

good_without : (gone : List ℕ) (pool : PlainPool) → HasGoodNames pool → HasGoodNames (without gone pool)
good_without gone pool named name volume e = cases (same gone name) refl
  where
    cases : (b : Bool) → same gone name ≡ b → is_name_for volume.kind name ≡ true
    cases true f = absurd (none_some volume (volume_at name (without gone pool)) (volume_without pool gone name ∙ ap (λ b. cond b None (volume_at name pool)) f) e)
    cases false f = named name volume (sym (volume_without pool gone name ∙ ap (λ b. cond b None (volume_at name pool)) f) ∙ e)

volume_is_named : (kind : VolumeKind) (name : List ℕ) → is_snapshot kind ≡ false → is_name_for kind name ≡ true → is_name name ≡ true
volume_is_named Volume name e f = f
volume_is_named SnapshotKind name e f = absurd (true≢false e)

snapshot_is_named : (volume part : List ℕ) → is_name volume ≡ true → is_name_for SnapshotKind (snapshot_name volume part) ≡ true
snapshot_is_named volume part e = and_from (is_name (volume_part (snapshot_name volume part))) (is_snapshot_name (snapshot_name volume part)) (ap is_name (volumes_part volume part e) ∙ e) (snapshots_name volume part)

-- a change that is not refused leaves good names
pub good_changed : (group : ℕ) (pool : PlainPool) (change : Change) → change_refusal change pool ≡ None → HasGoodNames pool → HasGoodNames (changed group pool change)
good_changed group pool (Create name size block_size) unrefused named = good_more pool (created group name size block_size) (creation_free (is_name name) (is_some (volume_at name pool)) _ _ unrefused).0 named
good_changed group pool (Snapshot volume part) unrefused named = taken (volume_at volume pool) refl
  where
    taken : (found : Option PlainVolume) → volume_at volume pool ≡ found → HasGoodNames (with_snapshot group (snapshot_name volume part) found pool)
    taken None e = named
    taken (Some it) e = kinds (is_snapshot it.kind) refl
      where
        kinds : (b : Bool) → is_snapshot it.kind ≡ b → HasGoodNames (cond b pool (with_volume (snapshot_of group (snapshot_name volume part) it) pool))
        kinds true f = named
        kinds false f = good_more pool (snapshot_of group (snapshot_name volume part) it) (snapshot_is_named volume part (volume_is_named it.kind volume f (named volume it e))) named
good_changed group pool (Clone snapshot name) unrefused named = cloned (volume_at snapshot pool)
  where
    good : is_name name ≡ true
    good = (from_there_free (is_name name) (is_snapshot_there (volume_at snapshot pool)) (is_some (volume_at name pool)) unrefused).0

    cloned : (found : Option PlainVolume) → HasGoodNames (with_clone group name found pool)
    cloned None = named
    cloned (Some it) = elim (is_snapshot it.kind) as (λ b. HasGoodNames (cond b (with_volume (clone_of group name it) pool) pool)) [
      | true ↦ good_more pool (clone_of group name it) good named
      | false ↦ named
    ]
good_changed group pool (Destroy name) unrefused named = elim (has_snapshots name pool || has_clones name pool) as (λ b. HasGoodNames (cond b pool (without name pool))) [
  | true ↦ named
  | false ↦ good_without name pool named
]

-- ---- what a change holds

-- a snapshot of a volume
holds_volume : (group : ℕ) (pool : PlainPool) (name part : List ℕ) (it : PlainVolume) → volume_at name pool ≡ Some it → is_name_for it.kind name ≡ true → change_refusal (Snapshot name part) pool ≡ None
    → has_snapshots name (changed group pool (Snapshot name part)) ≡ true
holds_volume group pool name part it there good unrefused =
    (λ i. has_snapshots name (with_snapshot group (snapshot_name name part) (there i) pool))
    ∙ (ap (λ b. has_snapshots name (cond b pool (with_volume new pool))) writable
    ∙ any_new (is_snapshot_of name) new pool (name_is_free (Snapshot name part) pool tt unrefused) (is_same (volume_part (snapshot_name name part)) name (volumes_part name part (volume_is_named it.kind name writable good))))
  where
    new : PlainVolume
    new = snapshot_of group (snapshot_name name part) it

    writable : is_snapshot it.kind ≡ false
    writable = not_true (is_snapshot it.kind) (sym (ap is_volume there) ∙ (from_there_free (is_name part) (is_volume (volume_at name pool)) (is_some (volume_at (snapshot_name name part) pool)) unrefused).1)

-- a clone of a snapshot
holds_snapshot : (group : ℕ) (pool : PlainPool) (name called : List ℕ) (it : PlainVolume) → volume_at name pool ≡ Some it → change_refusal (Clone name called) pool ≡ None → has_clones name (changed group pool (Clone name called)) ≡ true
holds_snapshot group pool name called it there unrefused =
    (λ i. has_clones name (with_clone group called (there i) pool))
    ∙ (ap (λ b. has_clones name (cond b (with_volume (clone_of group called it) pool) pool)) taken
    ∙ any_new (is_clone_of name) (clone_of group called it) pool (name_is_free (Clone name called) pool tt unrefused) (found_named name pool it there))
  where
    taken : is_snapshot it.kind ≡ true
    taken = sym (ap is_snapshot_there there) ∙ (from_there_free (is_name called) (is_snapshot_there (volume_at name pool)) (is_some (volume_at called pool)) unrefused).1

-- so a change is of no name that is not held behind it
pub of_no_other : (group : ℕ) (pool : PlainPool) (change : Change) (name : List ℕ) (it : PlainVolume) → IsMaking change → change_refusal change pool ≡ None → volume_at name pool ≡ Some it → is_name_for it.kind name ≡ true
    → has_snapshots name (changed group pool change) ≡ false → has_clones name (changed group pool change) ≡ false → same (volume_of change) name ≡ false
of_no_other group pool (Create called size block_size) name it making unrefused there good free unheld = makes_no_other (Create called size block_size) pool name it tt unrefused there
of_no_other group pool (Snapshot volume part) name it making unrefused there good free unheld = cases (same volume name) refl
  where
    cases : (b : Bool) → same volume name ≡ b → b ≡ false
    cases false e = refl
    cases true e =
        let is = same_is volume name e in
        let held = holds_volume group pool name part it there good (subst (λ n. change_refusal (Snapshot n part) pool ≡ None) is unrefused) in
        absurd (true≢false (sym held ∙ subst (λ n. has_snapshots name (changed group pool (Snapshot n part)) ≡ false) is free))
of_no_other group pool (Clone snapshot called) name it making unrefused there good free unheld = cases (same snapshot name) refl
  where
    cases : (b : Bool) → same snapshot name ≡ b → b ≡ false
    cases false e = refl
    cases true e =
        let is = same_is snapshot name e in
        let held = holds_snapshot group pool name called it there (subst (λ n. change_refusal (Clone n called) pool ≡ None) is unrefused) in
        absurd (true≢false (sym held ∙ subst (λ n. has_clones name (changed group pool (Clone n called)) ≡ false) is unheld))
of_no_other group pool (Destroy gone) name it making unrefused there good free unheld = absurd making

-- ---- a destroy that is not refused

gone_free : (named there free unheld : Bool) → first_cause ((not named, BadName) ∷ (there, NoSuchName) ∷ (free, HasSnapshots) ∷ (unheld, HasClones) ∷ []) ≡ None → (there ≡ false) × (free ≡ false) × (unheld ≡ false)
gone_free false there free unheld e = absurd (cc)
gone_free true true free unheld e = absurd (cc)
gone_free true false true unheld e = absurd (cc)
gone_free true false false true e = absurd (cc)
gone_free true false false false e = (refl, refl, refl)

-- what may go is there, with no snapshots and no clones
pub may_go : (name : List ℕ) (pool : PlainPool) → change_refusal (Destroy name) pool ≡ None → (is_none (volume_at name pool) ≡ false) × (has_snapshots name pool ≡ false) × (has_clones name pool ≡ false)
may_go name pool e = gone_free (is_whole_name name) (is_none (volume_at name pool)) (has_snapshots name pool) (has_clones name pool) e

pub goes : (name : List ℕ) (pool : PlainPool) → has_snapshots name pool ≡ false → has_clones name pool ≡ false → destroyed name pool ≡ without name pool
goes name pool free unheld = λ i. cond (free i || unheld i) pool (without name pool)
