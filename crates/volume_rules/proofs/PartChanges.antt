-- What a change that makes something makes of a pool.
use Rattle.std.proofs.Common.{◌≡◌, ℕ, Bool, true, false, true≢false, List, [], ◌∷◌, take, drop, Option, Some, None, refl, sym, ap, ◌∙◌, subst}
use Rattle.std.specs.Prelude.{◌||◌, cond, find, is_some, not}
use Rattle.std.specs.List.{list_any, position_or_len}
use Rattle.std.specs.Option.{option_or}
use Rattle.std.proofs.lemmas.Bool.{or_left}
use Rattle.std.proofs.lemmas.List.{take-append-drop}
use Rattle.std.proofs.lemmas.List.Folds.{list_any-append}
use Rattle.pool_model.specs.declared.item.Change.{Change}
use Rattle.pool_model.specs.declared.item.Change.TheVariants.{Clone, Create, Destroy, Snapshot}
use Rattle.pool_model.specs.declared.refusal.Refusal.TheVariants.{BadName, Exists, Misaligned, NoSuchName, OutOfRange}
use Rattle.pool_model.specs.declared.volume.PlainVolume.{PlainVolume}
use Rattle.pool_model.specs.Names.{does_make, is_before, is_name, name_of, same, snapshot_name, volume_of}
use Rattle.pool_model.specs.Pools.{PlainPool, changed, clone_of, created, is_snapshot, placed, snapshot_of, volume_at, with_clone, with_snapshot, with_volume}
use Rattle.pool_model.specs.Refusals.{change_refusal, first_cause, is_snapshot_there, is_volume}
use Rattle.pool_model.proofs.Places.{same_is, volume_more}

-- ---- what a change makes

-- it makes something
abbrev pub IsMaking : Change → Type 0
IsMaking (Create name size block_size) = Unit {0}
IsMaking (Snapshot volume part) = Unit {0}
IsMaking (Clone snapshot name) = Unit {0}
IsMaking (Destroy name) = ⊥

-- what it makes of what stands at the name that it is of
abbrev pub made_of : ℕ → Change → Option PlainVolume → Option PlainVolume
made_of group (Create name size block_size) found = Some (created group name size block_size)
made_of group (Snapshot volume part) None = None
made_of group (Snapshot volume part) (Some it) = cond (is_snapshot it.kind) None (Some (snapshot_of group (snapshot_name volume part) it))
made_of group (Clone snapshot name) None = None
made_of group (Clone snapshot name) (Some it) = cond (is_snapshot it.kind) (Some (clone_of group name it)) None
made_of group (Destroy name) found = None

-- in this pool
abbrev pub made_in : ℕ → PlainPool → Change → Option PlainVolume
made_in group pool change = made_of group change (volume_at (volume_of change) pool)

abbrev pub with_made : Option PlainVolume → PlainPool → PlainPool
with_made None pool = pool
with_made (Some volume) pool = with_volume volume pool

pub changed_is : (group : ℕ) (pool : PlainPool) (change : Change) → IsMaking change → changed group pool change ≡ with_made (made_in group pool change) pool
changed_is group pool (Create name size block_size) making = refl
changed_is group pool (Snapshot volume part) making = taken (volume_at volume pool)
  where
    taken : (found : Option PlainVolume) → with_snapshot group (snapshot_name volume part) found pool ≡ with_made (made_of group (Snapshot volume part) found) pool
    taken None = refl
    taken (Some it) =
        let new : PlainVolume = snapshot_of group (snapshot_name volume part) it in
        elim (is_snapshot it.kind) as (λ b. cond b pool (with_volume new pool) ≡ with_made (cond b None (Some new)) pool) [ true ↦ refl | false ↦ refl ]
changed_is group pool (Clone snapshot name) making = cloned (volume_at snapshot pool)
  where
    cloned : (found : Option PlainVolume) → with_clone group name found pool ≡ with_made (made_of group (Clone snapshot name) found) pool
    cloned None = refl
    cloned (Some it) =
        let new : PlainVolume = clone_of group name it in
        elim (is_snapshot it.kind) as (λ b. cond b (with_volume new pool) pool ≡ with_made (cond b (Some new) None) pool) [ true ↦ refl | false ↦ refl ]
changed_is group pool (Destroy name) making = absurd making

pub some_is : {A : Type 0} (x y : A) → Some x ≡ Some y → x ≡ y
some_is x y e = cc

-- what is made has the name that the change makes
pub made_named : (group : ℕ) (change : Change) (found : Option PlainVolume) (new : PlainVolume) → made_of group change found ≡ Some new → new.name ≡ name_of change
made_named group (Create name size block_size) found new e = ap (λ (v : PlainVolume). v.name) (sym (some_is (created group name size block_size) new e))
made_named group (Snapshot volume part) None new e = absurd (cc)
made_named group (Snapshot volume part) (Some it) new e = taken (is_snapshot it.kind) e
  where
    taken : (b : Bool) → cond b None (Some (snapshot_of group (snapshot_name volume part) it)) ≡ Some new → new.name ≡ snapshot_name volume part
    taken true f = absurd (cc)
    taken false f = ap (λ (v : PlainVolume). v.name) (sym (some_is (snapshot_of group (snapshot_name volume part) it) new f))
made_named group (Clone snapshot name) None new e = absurd (cc)
made_named group (Clone snapshot name) (Some it) new e = cloned (is_snapshot it.kind) e
  where
    cloned : (b : Bool) → cond b (Some (clone_of group name it)) None ≡ Some new → new.name ≡ name
    cloned true f = ap (λ (v : PlainVolume). v.name) (sym (some_is (clone_of group name it) new f))
    cloned false f = absurd (cc)
made_named group (Destroy name) found new e = absurd (cc)

pub makes_its_name : (change : Change) (name : List ℕ) → IsMaking change → does_make change name ≡ same (name_of change) name
makes_its_name (Create called size block_size) name making = refl
makes_its_name (Snapshot volume part) name making = refl
makes_its_name (Clone snapshot called) name making = refl
makes_its_name (Destroy gone) name making = absurd making

-- ---- what is at a name

pub or_none : {A : Type 0} (o : Option A) → option_or o None ≡ o
or_none None = refl
or_none (Some x) = refl

nothing_new : (there : Option PlainVolume) (b : Bool) → there ≡ option_or there (cond b None None)
nothing_new there true = sym (or_none there)
nothing_new there false = sym (or_none there)

volume_made : (name : List ℕ) (new : Option PlainVolume) (pool : PlainPool) (b : Bool) → ((v : PlainVolume) → new ≡ Some v → same v.name name ≡ b)
    → volume_at name (with_made new pool) ≡ option_or (volume_at name pool) (cond b new None)
volume_made name None pool b h = nothing_new (volume_at name pool) b
volume_made name (Some v) pool b h = volume_more pool v name ∙ ap (λ c. option_or (volume_at name pool) (cond c (Some v) None)) (h v refl)

-- what a pool has at a name behind a change
pub volume_changed : (group : ℕ) (pool : PlainPool) (change : Change) (name : List ℕ) → IsMaking change
    → volume_at name (changed group pool change) ≡ option_or (volume_at name pool) (cond (does_make change name) (made_in group pool change) None)
volume_changed group pool change name making =
    ap (volume_at name) (changed_is group pool change making)
    ∙ volume_made name (made_in group pool change) pool (does_make change name)
    (λ v e. ap (λ n. same n name) (made_named group change (volume_at (volume_of change) pool) v e) ∙ sym (makes_its_name change name making))

-- what is there stays
pub volume_stays : (group : ℕ) (pool : PlainPool) (change : Change) (name : List ℕ) (v : PlainVolume) → IsMaking change → volume_at name pool ≡ Some v → volume_at name (changed group pool change) ≡ Some v
volume_stays group pool change name v making e = volume_changed group pool change name making ∙ ap (λ o. option_or o (cond (does_make change name) (made_in group pool change) None)) e

-- what is not made isn't there, if it wasn't
pub none_stays : (group : ℕ) (pool : PlainPool) (change : Change) (name : List ℕ) → IsMaking change → does_make change name ≡ false → volume_at name pool ≡ None → volume_at name (changed group pool change) ≡ None
none_stays group pool change name making other e = volume_changed group pool change name making ∙ (λ i. option_or (e i) (cond (other i) (made_in group pool change) None))

named_cases : (name : List ℕ) (v x : PlainVolume) (rest : Option PlainVolume) (b : Bool) → same v.name name ≡ b → (rest ≡ Some x → same x.name name ≡ true) → cond b (Some v) rest ≡ Some x → same x.name name ≡ true
named_cases name v x rest true e f g = subst (λ (u : PlainVolume). same u.name name ≡ true) (some_is v x g) e
named_cases name v x rest false e f g = f g

-- the volume of a name has the name
pub found_named : (name : List ℕ) (pool : PlainPool) (x : PlainVolume) → volume_at name pool ≡ Some x → same x.name name ≡ true
found_named name pool x e = among pool.volumes x e
  where
    among : (volumes : List PlainVolume) (x : PlainVolume) → find (λ v. same v.name name) volumes ≡ Some x → same x.name name ≡ true
    among [] x e = absurd (cc)
    among (v ∷ volumes) x e = named_cases name v x (find (λ v. same v.name name) volumes) (same v.name name) refl (among volumes x) e

-- ---- what is not refused

pub creation_free : (named there whole ranged : Bool) → first_cause ((not named, BadName) ∷ (there, Exists) ∷ (whole, Misaligned) ∷ (ranged, OutOfRange) ∷ []) ≡ None → (named ≡ true) × (there ≡ false)
creation_free false there whole ranged e = absurd (cc)
creation_free true true whole ranged e = absurd (cc)
creation_free true false whole ranged e = (refl, refl)

pub from_there_free : (named found there : Bool) → first_cause ((not named, BadName) ∷ (not found, NoSuchName) ∷ (there, Exists) ∷ []) ≡ None → (named ≡ true) × (found ≡ true) × (there ≡ false)
from_there_free false found there e = absurd (cc)
from_there_free true false there e = absurd (cc)
from_there_free true true true e = absurd (cc)
from_there_free true true false e = (refl, refl, refl)

pub not_true : (b : Bool) → not b ≡ true → b ≡ false
not_true true e = sym e
not_true false e = refl

-- something is made
pub made_there : (group : ℕ) (pool : PlainPool) (change : Change) → IsMaking change → change_refusal change pool ≡ None → (new : PlainVolume) × (made_in group pool change ≡ Some new)
made_there group pool (Create name size block_size) making e = (created group name size block_size, refl)
made_there group pool (Snapshot volume part) making e = taken (volume_at volume pool) (from_there_free (is_name part) (is_volume (volume_at volume pool)) (is_some (volume_at (snapshot_name volume part) pool)) e).1
  where
    taken : (found : Option PlainVolume) → is_volume found ≡ true → (new : PlainVolume) × (made_of group (Snapshot volume part) found ≡ Some new)
    taken None f = absurd (true≢false (sym f))
    taken (Some it) f =
        let new : PlainVolume = snapshot_of group (snapshot_name volume part) it in
        (new, ap (λ b. cond b None (Some new)) (not_true (is_snapshot it.kind) f))
made_there group pool (Clone snapshot name) making e = cloned (volume_at snapshot pool) (from_there_free (is_name name) (is_snapshot_there (volume_at snapshot pool)) (is_some (volume_at name pool)) e).1
  where
    cloned : (found : Option PlainVolume) → is_snapshot_there found ≡ true → (new : PlainVolume) × (made_of group (Clone snapshot name) found ≡ Some new)
    cloned None f = absurd (true≢false (sym f))
    cloned (Some it) f =
        let new : PlainVolume = clone_of group name it in
        (new, ap (λ b. cond b (Some new) None) f)
made_there group pool (Destroy name) making e = absurd making

none_is : {A : Type 0} (o : Option A) → is_some o ≡ false → o ≡ None
none_is None e = refl
none_is (Some x) e = absurd (true≢false e)

-- nothing stands yet where it makes something
pub name_is_free : (change : Change) (pool : PlainPool) → IsMaking change → change_refusal change pool ≡ None → volume_at (name_of change) pool ≡ None
name_is_free (Create name size block_size) pool making e = none_is (volume_at name pool) (creation_free (is_name name) (is_some (volume_at name pool)) _ _ e).1
name_is_free (Snapshot volume part) pool making e =
    none_is (volume_at (snapshot_name volume part) pool) (from_there_free (is_name part) (is_volume (volume_at volume pool)) (is_some (volume_at (snapshot_name volume part) pool)) e).2
name_is_free (Clone snapshot name) pool making e =
    none_is (volume_at name pool) (from_there_free (is_name name) (is_snapshot_there (volume_at snapshot pool)) (is_some (volume_at name pool)) e).2
name_is_free (Destroy name) pool making e = absurd making

pub none_some : {A : Type 0} (x : A) (o : Option A) → o ≡ None → o ≡ Some x → ⊥
none_some x o e f = let g : None ≡ Some x = sym e ∙ f in cc

-- so it doesn't make what stands there
pub makes_no_other : (change : Change) (pool : PlainPool) (name : List ℕ) (v : PlainVolume) → IsMaking change → change_refusal change pool ≡ None → volume_at name pool ≡ Some v → does_make change name ≡ false
makes_no_other change pool name v making unrefused there = cases (does_make change name) refl
  where
    cases : (b : Bool) → does_make change name ≡ b → b ≡ false
    cases false e = refl
    cases true e =
        let called : name_of change ≡ name = same_is (name_of change) name (sym (makes_its_name change name making) ∙ e) in
        absurd (none_some v (volume_at name pool) (ap (λ n. volume_at n pool) (sym called) ∙ name_is_free change pool making unrefused) there)

-- ---- what stays in the pool

or_swap : (a b c : Bool) → (a || (b || c)) ≡ (b || (a || c))
or_swap true true c = refl
or_swap true false c = refl
or_swap false b c = refl

any_placed : (test : PlainVolume → Bool) (new : PlainVolume) (volumes : List PlainVolume) → list_any test (placed new volumes) ≡ (test new || list_any test volumes)
any_placed test new volumes =
    let place = position_or_len (λ v. is_before new.name v.name) volumes in
    list_any-append test (take place volumes) (new ∷ drop place volumes)
    ∙ (or_swap (list_any test (take place volumes)) (test new) (list_any test (drop place volumes))
    ∙ ap (λ b. test new || b) (sym (list_any-append test (take place volumes) (drop place volumes)) ∙ ap (list_any test) (take-append-drop place volumes)))

or_true : (a : Bool) → (a || true) ≡ true
or_true true = refl
or_true false = refl

any_more : (test : PlainVolume → Bool) (new : PlainVolume) (pool : PlainPool) → list_any test pool.volumes ≡ true → list_any test (with_volume new pool).volumes ≡ true
any_more test new pool e =
    elim (is_some (volume_at new.name pool)) as (λ b. list_any test (cond b pool (record pool { volumes = placed new pool.volumes })).volumes ≡ true) [
      | true ↦ e
      | false ↦ any_placed test new pool.volumes ∙ (ap (λ b. test new || b) e ∙ or_true (test new))
    ]

-- what is there stays
pub any_stays : (test : PlainVolume → Bool) (group : ℕ) (pool : PlainPool) (change : Change) → IsMaking change → list_any test pool.volumes ≡ true → list_any test (changed group pool change).volumes ≡ true
any_stays test group pool change making e = subst (λ (p : PlainPool). list_any test p.volumes ≡ true) (sym (changed_is group pool change making)) (made (made_in group pool change))
  where
    made : (new : Option PlainVolume) → list_any test (with_made new pool).volumes ≡ true
    made None = e
    made (Some new) = any_more test new pool e

-- and what is made is there
pub any_new : (test : PlainVolume → Bool) (new : PlainVolume) (pool : PlainPool) → volume_at new.name pool ≡ None → test new ≡ true → list_any test (with_volume new pool).volumes ≡ true
any_new test new pool free e =
    ap (λ o. list_any test (cond (is_some o) pool (record pool { volumes = placed new pool.volumes })).volumes) free
    ∙ (any_placed test new pool.volumes ∙ or_left (test new) (list_any test pool.volumes) e)
