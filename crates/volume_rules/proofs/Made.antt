-- What the changes of a group make: new volumes, snapshots of those that are there, and clones of these.
use Rattle.std.proofs.Common.{◌≡◌, ◌⊎◌, ⊎_elim, inl, inr, ℕ, Bool, true, false, List, [], ◌∷◌, Option, Some, None, refl, sym, ap, ◌∙◌, subst}
use Rattle.std.specs.Prelude.{◌&&◌, ◌||◌, cond, find, fold}
use Rattle.std.specs.List.{AllByRecursion}
use Rattle.std.specs.Option.{option_or}
use Rattle.std.proofs.lemmas.Bool.{and_from, and_parts}
use Rattle.std.proofs.lemmas.Option.{cond_some}
use Rattle.pool_model.specs.declared.item.Action.{Action}
use Rattle.pool_model.specs.declared.item.Change.{Change}
use Rattle.pool_model.specs.declared.item.Change.TheVariants.{Clone, Create, Destroy, Snapshot}
use Rattle.pool_model.specs.declared.volume.PlainVolume.{PlainVolume}
use Rattle.pool_model.specs.declared.volume.VolumeKind.TheVariants.{Snapshot as SnapshotKind}
use Rattle.pool_model.specs.Names.{same, is_name, is_name_for, is_snapshot_name, snapshot_name, volume_part}
use Rattle.pool_model.specs.Pools.{PlainPool, volume_at, clone_of, created, destroyed, has_clones, has_snapshots, is_snapshot, snapshot_of, with_clone, with_snapshot, with_volume, without, changed}
use Rattle.pool_model.proofs.Letters.{snapshots_name, volumes_part}
use Rattle.pool_model.proofs.Places.{same_is, volume_more, volume_without}
use Rattle.volume_rules.specs.GoodChanges.{is_good_change, is_good_size}
use Rattle.volume_rules.specs.NowMoves.{HasGoodNames}

-- ---- the volume of a name

named_cases : (name : List ℕ) (v x : PlainVolume) (rest : Option PlainVolume) (b : Bool) → same v.name name ≡ b → (rest ≡ Some x → same x.name name ≡ true) → cond b (Some v) rest ≡ Some x → same x.name name ≡ true
named_cases name v x rest true e f g = let is : v ≡ x = cc in subst (λ (u : PlainVolume). same u.name name ≡ true) is e
named_cases name v x rest false e f g = f g

-- the volume of a name has the name
pub found_named : (name : List ℕ) (pool : PlainPool) (x : PlainVolume) → volume_at name pool ≡ Some x → same x.name name ≡ true
found_named name pool x e = among pool.volumes x e
  where
    among : (volumes : List PlainVolume) (x : PlainVolume) → find (λ v. same v.name name) volumes ≡ Some x → same x.name name ≡ true
    among [] x e = absurd (cc)
    among (v ∷ volumes) x e = named_cases name v x (find (λ v. same v.name name) volumes) (same v.name name) refl (among volumes x) e

-- ---- a change

-- what stands there with a volume more stood there, or is that volume
more_behind : (pool : PlainPool) (new : PlainVolume) (name : List ℕ) (y : PlainVolume) → volume_at name (with_volume new pool) ≡ Some y → (volume_at name pool ≡ Some y) ⊎ (y ≡ new)
more_behind pool new name y e = cases (volume_at name pool) refl
  where
    cases : (o : Option PlainVolume) → volume_at name pool ≡ o → (volume_at name pool ≡ Some y) ⊎ (y ≡ new)
    cases (Some x) f = inl (f ∙ (sym (volume_more pool new name ∙ ap (λ o. option_or o (cond (same new.name name) (Some new) None)) f) ∙ e))
    cases None f = inr (sym (cond_some (same new.name name) new y (sym (volume_more pool new name ∙ ap (λ o. option_or o (cond (same new.name name) (Some new) None)) f) ∙ e)).1)

kept : (b : Bool) (o : Option PlainVolume) (y : PlainVolume) → cond b None o ≡ Some y → o ≡ Some y
kept true o y e = absurd (cc)
kept false o y e = e

-- what stands behind a destroy stood there before it
pub left_behind : (pool : PlainPool) (gone name : List ℕ) (y : PlainVolume) → volume_at name (destroyed gone pool) ≡ Some y → volume_at name pool ≡ Some y
left_behind pool gone name y e =
    elim (has_snapshots gone pool || has_clones gone pool) as (λ b. volume_at name (cond b pool (without gone pool)) ≡ Some y → volume_at name pool ≡ Some y) [
      | true ↦ λ f. f
      | false ↦ λ f. kept (same gone name) (volume_at name pool) y (sym (volume_without pool gone name) ∙ f)
    ] e

-- what a change makes of a pool: a volume of zeros, a snapshot of a volume that is there, or a clone of a snapshot that is
abbrev MadeBy : ℕ → PlainPool → Change → PlainVolume → Type 0
MadeBy group pool (Create name size block_size) made = made ≡ created group name size block_size
MadeBy group pool (Snapshot volume part) made =
    (it : PlainVolume) × (volume_at volume pool ≡ Some it) × (is_snapshot it.kind ≡ false) × (made ≡ snapshot_of group (snapshot_name volume part) it)
MadeBy group pool (Clone snapshot name) made =
    (it : PlainVolume) × (volume_at snapshot pool ≡ Some it) × (is_snapshot it.kind ≡ true) × (made ≡ clone_of group name it)
MadeBy group pool (Destroy name) made = ⊥

-- what stands there behind a change stood there before it, or was made by it
made_changed : (group : ℕ) (pool : PlainPool) (change : Change) (name : List ℕ) (y : PlainVolume) → volume_at name (changed group pool change) ≡ Some y → (volume_at name pool ≡ Some y) ⊎ MadeBy group pool change y
made_changed group pool (Create called size block_size) name y e = more_behind pool (created group called size block_size) name y e
made_changed group pool (Snapshot volume part) name y e = taken (volume_at volume pool) refl e
  where
    kinds : (it : PlainVolume) (b : Bool) → volume_at volume pool ≡ Some it → is_snapshot it.kind ≡ b → volume_at name (cond b pool (with_volume (snapshot_of group (snapshot_name volume part) it) pool)) ≡ Some y
        → (volume_at name pool ≡ Some y) ⊎ MadeBy group pool (Snapshot volume part) y
    kinds it true f k e = inl e
    kinds it false f k e = ⊎_elim (λ was. inl was) (λ is. inr (it, f, k, is)) (more_behind pool (snapshot_of group (snapshot_name volume part) it) name y e)

    taken : (found : Option PlainVolume) → volume_at volume pool ≡ found → volume_at name (with_snapshot group (snapshot_name volume part) found pool) ≡ Some y
        → (volume_at name pool ≡ Some y) ⊎ MadeBy group pool (Snapshot volume part) y
    taken None f e = inl e
    taken (Some it) f e = kinds it (is_snapshot it.kind) f refl e
made_changed group pool (Clone snapshot called) name y e = cloned (volume_at snapshot pool) refl e
  where
    kinds : (it : PlainVolume) (b : Bool) → volume_at snapshot pool ≡ Some it → is_snapshot it.kind ≡ b → volume_at name (cond b (with_volume (clone_of group called it) pool) pool) ≡ Some y
        → (volume_at name pool ≡ Some y) ⊎ MadeBy group pool (Clone snapshot called) y
    kinds it true f k e = ⊎_elim (λ was. inl was) (λ is. inr (it, f, k, is)) (more_behind pool (clone_of group called it) name y e)
    kinds it false f k e = inl e

    cloned : (found : Option PlainVolume) → volume_at snapshot pool ≡ found → volume_at name (with_clone group called found pool) ≡ Some y
        → (volume_at name pool ≡ Some y) ⊎ MadeBy group pool (Clone snapshot called) y
    cloned None f e = inl e
    cloned (Some it) f e = kinds it (is_snapshot it.kind) f refl e
made_changed group pool (Destroy gone) name y e = inl (left_behind pool gone name y e)

group_of : (group : ℕ) (pool : PlainPool) (change : Change) (y : PlainVolume) → MadeBy group pool change y → y.group ≡ group
group_of group pool (Create called size block_size) y is = ap (λ (v : PlainVolume). v.group) is
group_of group pool (Snapshot volume part) y (it, there, writable, is) = ap (λ (v : PlainVolume). v.group) is
group_of group pool (Clone snapshot called) y (it, there, taken, is) = ap (λ (v : PlainVolume). v.group) is
group_of group pool (Destroy gone) y is = absurd is

good_name : (volume part : List ℕ) → is_name volume ≡ true → (is_name (volume_part (snapshot_name volume part)) && is_snapshot_name (snapshot_name volume part)) ≡ true
good_name volume part e = and_from (is_name (volume_part (snapshot_name volume part))) (is_snapshot_name (snapshot_name volume part)) (ap is_name (volumes_part volume part e) ∙ e) (snapshots_name volume part)

-- what a good change makes has a name that one of its kind may have
has_good_name : (group : ℕ) (pool : PlainPool) (change : Change) (y : PlainVolume) → is_good_change change ≡ true → MadeBy group pool change y → is_name_for y.kind y.name ≡ true
has_good_name group pool (Create called size block_size) y good is =
    subst (λ (v : PlainVolume). is_name_for v.kind v.name ≡ true) (sym is) ((and_parts (is_name called) (is_good_size size block_size) good).0)
has_good_name group pool (Snapshot volume part) y good (it, there, writable, is) =
    subst (λ (v : PlainVolume). is_name_for v.kind v.name ≡ true) (sym is) (good_name volume part (and_parts (is_name volume) (is_name part) good).0)
has_good_name group pool (Clone snapshot called) y good (it, there, taken, is) =
    subst (λ (v : PlainVolume). is_name_for v.kind v.name ≡ true) (sym is) ((and_parts (is_name_for SnapshotKind snapshot) (is_name called) good).1)
has_good_name group pool (Destroy gone) y good is = absurd is

names_changed : (group : ℕ) (pool : PlainPool) (change : Change) → is_good_change change ≡ true → HasGoodNames pool → HasGoodNames (changed group pool change)
names_changed group pool change good named name y e =
    ⊎_elim (λ was. named name y was)
    (λ made. subst (λ n. is_name_for y.kind n ≡ true) (same_is y.name name (found_named name (changed group pool change) y e)) (has_good_name group pool change y good made))
    (made_changed group pool change name y e)

-- ---- the changes of a group, one after another

abbrev pub changes : ℕ → PlainPool → List Action → PlainPool
changes group pool actions = fold (λ p a. changed group p a.change) pool actions

-- what stands there behind changes stood there before them, or was made by one of them
pub behind_changes : (group : ℕ) (pool : PlainPool) (actions : List Action) (name : List ℕ) (y : PlainVolume) → volume_at name (changes group pool actions) ≡ Some y → (volume_at name pool ≡ Some y) ⊎ (y.group ≡ group)
behind_changes group pool [] name y e = inl e
behind_changes group pool (a ∷ actions) name y e =
    ⊎_elim (λ was. ⊎_elim (λ before. inl before) (λ made. inr (group_of group pool a.change y made)) (made_changed group pool a.change name y was))
    (λ made. inr made)
    (behind_changes group (changed group pool a.change) actions name y e)

pub names_changes : (group : ℕ) (pool : PlainPool) (actions : List Action) → AllByRecursion (λ a. is_good_change a.change ≡ true) actions → HasGoodNames pool → HasGoodNames (changes group pool actions)
names_changes group pool [] good named = named
names_changes group pool (a ∷ actions) good named = names_changes group (changed group pool a.change) actions good.1 (names_changed group pool a.change good.0 named)
