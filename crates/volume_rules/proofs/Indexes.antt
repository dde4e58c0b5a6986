-- A map from keys to entries, looked up by names.
use Rattle.std.proofs.Common.{◌≡◌, ℕ, Bool, true, false, true≢false, List, [], ◌∷◌, map, Option, Some, None, refl, sym, ap, ◌∙◌, subst}
use Rattle.std.specs.Prelude.{◌||◌, cond, filter, find, is_some, not, Result, Ok, Err, OnOk, IsOk}
use Rattle.std.specs.Cmp.Lexicographic.{slice_cmp}
use Rattle.std.specs.List.{AllByRecursion, AllZip, list_any}
use Rattle.std.specs.List.Sorted.{IsStrictlySortedBy}
use Rattle.std.specs.Map.{lookup}
use Rattle.std.specs.Option.{option_map, option_or}
use Rattle.std.specs.Ordering.{nat_cmp, is_eq}
use Rattle.std.specs.declared.cmp.Ordering.TheVariants.{Less}
use Rattle.std.proofs.lemmas.Map.Text.{is_eq-slice_cmp}
use Rattle.std.proofs.lemmas.Option.{none-some, same_Some}
use Rattle.pool_model.specs.declared.item.Change.{Change}
use Rattle.pool_model.specs.declared.item.Change.TheVariants.{Clone, Create, Destroy, Snapshot}
use Rattle.pool_model.specs.declared.volume.PlainVolume.{PlainVolume}
use Rattle.pool_model.specs.Names.{name_of, same, snapshot_name}
use Rattle.pool_model.specs.Pools.{AreAscending, PlainPool, clone_of, created, is_snapshot, no_volumes, snapshot_of, volume_at, with_clone, with_snapshot, with_volume, without}
use Rattle.pool_model.proofs.Places.{same_is, is_same, volume_more, volume_without}
use Rattle.volume_rules.specs.declared.index.NameChange.TheVariants.{Added}
use Rattle.volume_rules.specs.declared.index.NewName.{NewName}
use Rattle.volume_rules.specs.declared.shape.VolumeEntry.{VolumeEntry}
use Rattle.volume_rules.specs.Shapes.{cloned_shape, entry_at, entry_of, shape_at, shape_of, taken_shape}
use Rattle.volume_rules.specs.Index.{IsNameChange, IsNameOf, MakesShape, cloned_of, origin_by, with_origin}
use Rattle.volume_rules.proofs.Volumes.{or_none}

pub on_ok : {T E P : Type 0} (r : Result T E) → IsOk r → OnOk r P → P
on_ok (Ok x) i p = p
on_ok (Err y) i p = absurd (true≢false (sym i))

-- ---- look-ups by name

found_cases : {K X : Type 0} (test : K → Bool) (k : K) (v x : X) (rest : Option X) (b : Bool) → test k ≡ b → (rest ≡ Some x → (key : K) × (test key ≡ true)) → cond b (Some v) rest ≡ Some x → (key : K) × (test key ≡ true)
found_cases test k v x rest true e f g = (k, e)
found_cases test k v x rest false e f g = f g

-- what is found has a key
found_key : {K X : Type 0} (test : K → Bool) (es : List (K × X)) (x : X) → lookup test es ≡ Some x → (key : K) × (test key ≡ true)
found_key test [] x e = absurd (cc)
found_key test (p ∷ es) x e = found_cases test p.0 p.1 x (lookup test es) (test p.0) refl (found_key test es x) e

-- two lists that agree at each key of a name agree at the name
pub agree_at : {K X : Type 0} (items : K → List ℕ) (old new : List (K × X)) (name : List ℕ) → ((q : K) → name ≡ items q → lookup (λ k. same (items q) (items k)) new ≡ lookup (λ k. same (items q) (items k)) old) → lookup (λ k. same name (items k)) new ≡ lookup (λ k. same name (items k)) old
agree_at {K} {X} items old new name f = cases (at new) (at old) refl refl
  where
    at : List (K × X) → Option X
    at es = lookup (λ k. same name (items k)) es

    along : (q : K) → same name (items q) ≡ true → at new ≡ at old
    along q e =
        let n = same_is name (items q) e in
        ap (λ m. lookup (λ k. same m (items k)) new) n ∙ (f q n ∙ sym (ap (λ m. lookup (λ k. same m (items k)) old) n))

    cases : (a b : Option X) → at new ≡ a → at old ≡ b → at new ≡ at old
    cases (Some x) b e g = let k = found_key (λ k. same name (items k)) new x e in along k.0 k.1
    cases None (Some x) e g = let k = found_key (λ k. same name (items k)) old x g in along k.0 k.1
    cases None None e g = e ∙ sym g

-- a clone of the entries has the same at each name
pub same_in_clone : {K X : Type 0} (items : K → List ℕ) (IsKey : K → K → Type 0) (IsValue : X → X → Type 0) → ((k l : K) → IsKey k l → items l ≡ items k) → ((x y : X) → IsValue x y → y ≡ x)
    → (old new : List (K × X)) → AllZip (λ p q. IsKey p.0 q.0 × IsValue p.1 q.1) old new
    → (name : List ℕ) → lookup (λ k. same name (items k)) new ≡ lookup (λ k. same name (items k)) old
same_in_clone items IsKey IsValue key value [] [] h name = refl
same_in_clone items IsKey IsValue key value [] (q ∷ new) h name = absurd h
same_in_clone items IsKey IsValue key value (p ∷ old) [] h name = absurd h
same_in_clone items IsKey IsValue key value (p ∷ old) (q ∷ new) h name =
    λ i. cond (same name (key p.0 q.0 h.0.0 i)) (Some (value p.1 q.1 h.0.1 i)) (same_in_clone items IsKey IsValue key value old new h.1 name i)

-- ---- one volume more

pub other_name : (pool : PlainPool) (volume : PlainVolume) (name : List ℕ) → same volume.name name ≡ false → volume_at name (with_volume volume pool) ≡ volume_at name pool
other_name pool volume name e = volume_more pool volume name ∙ (ap (λ b. option_or (volume_at name pool) (cond b (Some volume) None)) e ∙ or_none (volume_at name pool))

pub new_name : (pool : PlainPool) (volume : PlainVolume) (name : List ℕ) → same volume.name name ≡ true → volume_at name pool ≡ None → volume_at name (with_volume volume pool) ≡ Some volume
new_name pool volume name e n = volume_more pool volume name ∙ (λ i. option_or (n i) (cond (e i) (Some volume) None))

pub no_entries : {K : Type 0} (items : K → List ℕ) (es : List (K × VolumeEntry)) → es ≡ [] → (name : List ℕ) → lookup (λ k. same name (items k)) es ≡ entry_at name no_volumes
no_entries items es e name = ap (lookup (λ k. same name (items k))) e

-- the shape in the entry of a name is that of its volume
pub shape_found : (pool : PlainPool) (name : List ℕ) (entry : Option VolumeEntry) → entry ≡ entry_at name pool → option_map (λ e. e.shape) entry ≡ shape_at name pool
shape_found pool name entry e = ap (option_map (λ e. e.shape)) e ∙ shape_in (volume_at name pool)
  where
    shape_in : (o : Option PlainVolume) → option_map (λ e. e.shape) (option_map entry_of o) ≡ option_map shape_of o
    shape_in None = refl
    shape_in (Some v) = refl

-- the look-ups after a key is added are those of the pool with its volume
pub entries_added : {K : Type 0} (items : K → List ℕ) (old new : List (K × VolumeEntry)) (key : K) (pool : PlainPool) (volume : PlainVolume)
    → ((name : List ℕ) → lookup (λ k. same name (items k)) old ≡ entry_at name pool)
    → volume_at (items key) pool ≡ None → volume.name ≡ items key
    → lookup (λ k. same (items key) (items k)) new ≡ Some (entry_of volume)
    → ((q : K) → same (items key) (items q) ≡ false → lookup (λ k. same (items q) (items k)) new ≡ lookup (λ k. same (items q) (items k)) old)
    → (name : List ℕ) → lookup (λ k. same name (items k)) new ≡ entry_at name (with_volume volume pool)
entries_added items old new key pool volume was none called here others name = cases (same (items key) name) refl
  where
    cases : (b : Bool) → same (items key) name ≡ b → lookup (λ k. same name (items k)) new ≡ entry_at name (with_volume volume pool)
    cases true e =
        let n = same_is (items key) name e in
        let absent : volume_at name pool ≡ None = subst (λ m. volume_at m pool ≡ None) n none in
        let found : volume_at name (with_volume volume pool) ≡ Some volume = new_name pool volume name (is_same volume.name name (called ∙ n)) absent in
        ap (λ m. lookup (λ k. same m (items k)) new) (sym n) ∙ (here ∙ sym (ap (option_map entry_of) found))
    cases false e =
        let other : same volume.name name ≡ false = ap (λ m. same m name) called ∙ e in
        agree_at items old new name (λ q n. others q (ap (same (items key)) (sym n) ∙ e)) ∙ (was name ∙ sym (ap (option_map entry_of) (other_name pool volume name other)))

-- ---- one volume less

-- the look-ups after a name is taken away are those of the pool without it
pub entries_without : {K : Type 0} (items : K → List ℕ) (old new : List (K × VolumeEntry)) (gone : List ℕ) (pool : PlainPool)
    → ((name : List ℕ) → lookup (λ k. same name (items k)) old ≡ entry_at name pool)
    → lookup (λ k. same gone (items k)) new ≡ None
    → ((q : K) → same gone (items q) ≡ false → lookup (λ k. same (items q) (items k)) new ≡ lookup (λ k. same (items q) (items k)) old)
    → (name : List ℕ) → lookup (λ k. same name (items k)) new ≡ entry_at name (without gone pool)
entries_without items old new gone pool was none others name =
    cases (same gone name) refl ∙ sym (ap (option_map entry_of) (volume_without pool gone name))
  where
    cases : (b : Bool) → same gone name ≡ b → lookup (λ k. same name (items k)) new ≡ option_map entry_of (cond (same gone name) None (volume_at name pool))
    cases true e =
        ap (λ m. lookup (λ k. same m (items k)) new) (sym (same_is gone name e))
        ∙ (none ∙ sym (ap (λ b. option_map entry_of (cond b None (volume_at name pool))) e))
    cases false e =
        agree_at items old new name (λ q n. others q (ap (same gone) (sym n) ∙ e))
        ∙ (was name ∙ sym (ap (λ b. option_map entry_of (cond b None (volume_at name pool))) e))

abbrev names_of : List PlainVolume → List (List ℕ)
names_of volumes = map (λ v. v.name) volumes

-- those that are kept ascend
all_kept : (P : List ℕ → Type 0) (test : PlainVolume → Bool) (volumes : List PlainVolume) → AllByRecursion P (names_of volumes) → AllByRecursion P (names_of (filter test volumes))
all_kept P test [] all = tt
all_kept P test (v ∷ volumes) all = elim (test v) as (λ b. AllByRecursion P (names_of (cond b (v ∷ filter test volumes) (filter test volumes)))) [ true ↦ (all.0, all_kept P test volumes all.1) | false ↦ all_kept P test volumes all.1 ]

ascending_kept : (test : PlainVolume → Bool) (volumes : List PlainVolume) → AreAscending volumes → AreAscending (filter test volumes)
unfolding IsStrictlySortedBy
ascending_kept test [] up = tt
ascending_kept test (v ∷ volumes) up = elim (test v) as (λ b. AreAscending (cond b (v ∷ filter test volumes) (filter test volumes))) [
  | true ↦ (all_kept (λ n. slice_cmp nat_cmp v.name n ≡ Less) test volumes up.0, ascending_kept test volumes up.1)
  | false ↦ ascending_kept test volumes up.1
]

pub ascending_without : (gone : List ℕ) (pool : PlainPool) → AreAscending pool.volumes → AreAscending (without gone pool).volumes
ascending_without gone pool up = ascending_kept (λ v. not (same v.name gone)) pool.volumes up

-- ---- another origin

name_cloned : (name origin : List ℕ) (volume : PlainVolume) → (cloned_of name origin volume).name ≡ volume.name
name_cloned name origin volume = elim (same volume.name name) as (λ b. (cond b (record volume { origin = Some origin }) volume).name ≡ volume.name) [ true ↦ refl | false ↦ refl ]

names_cloned : (name origin : List ℕ) (volumes : List PlainVolume) → names_of (map (cloned_of name origin) volumes) ≡ names_of volumes
names_cloned name origin [] = refl
names_cloned name origin (v ∷ volumes) = λ i. name_cloned name origin v i ∷ names_cloned name origin volumes i

pub ascending_cloned : (name origin : List ℕ) (pool : PlainPool) → AreAscending pool.volumes → AreAscending (with_origin name origin pool).volumes
ascending_cloned name origin pool up = subst (IsStrictlySortedBy (slice_cmp nat_cmp)) (sym (names_cloned name origin pool.volumes)) up

abbrev found : List ℕ → List PlainVolume → Option PlainVolume
found name volumes = find (λ v. same v.name name) volumes

abbrev pub cloned_entry : List ℕ → VolumeEntry → VolumeEntry
cloned_entry origin entry = record entry { origin = Some origin }

-- what a pool has at a name once a volume is a clone
entry_cloned : (name origin other : List ℕ) (pool : PlainPool) → entry_at other (with_origin name origin pool) ≡ cond (same name other) (option_map (cloned_entry origin) (entry_at other pool)) (entry_at other pool)
entry_cloned name origin other pool = along pool.volumes
  where
    -- the volume that is found
    at_it : (v : PlainVolume) (b : Bool) → v.name ≡ other → same name other ≡ b
        → Some (entry_of (cloned_of name origin v)) ≡ cond (same name other) (Some (cloned_entry origin (entry_of v))) (Some (entry_of v))
    at_it v b called e =
        let there : same v.name name ≡ b = is_flipped b e in
        ap (λ c. Some (entry_of (cond c (record v { origin = Some origin }) v))) there
        ∙ (elim b as (λ c. Some (entry_of (cond c (record v { origin = Some origin }) v)) ≡ cond c (Some (cloned_entry origin (entry_of v))) (Some (entry_of v))) [ true ↦ refl | false ↦ refl ]
        ∙ ap (λ c. cond c (Some (cloned_entry origin (entry_of v))) (Some (entry_of v))) (sym e))
      where
        back : (b : Bool) → same other name ≡ b → same name other ≡ false → b ≡ false
        back true f g = absurd (true≢false (sym (is_same name other (sym (same_is other name f))) ∙ g))
        back false f g = refl

        is_flipped : (b : Bool) → same name other ≡ b → same v.name name ≡ b
        is_flipped true f = is_same v.name name (called ∙ sym (same_is name other f))
        is_flipped false f = ap (λ n. same n name) called ∙ back (same other name) refl f

    along : (volumes : List PlainVolume) → option_map entry_of (found other (map (cloned_of name origin) volumes))
        ≡ cond (same name other) (option_map (cloned_entry origin) (option_map entry_of (found other volumes))) (option_map entry_of (found other volumes))
    along [] = nothing (same name other)
      where
        nothing : (b : Bool) → ◌≡◌ {A = Option VolumeEntry} None (cond b None None)
        nothing true = refl
        nothing false = refl
    along (v ∷ volumes) =
        ap (λ n. option_map entry_of (cond (same n other) (Some (cloned_of name origin v)) (found other (map (cloned_of name origin) volumes)))) (name_cloned name origin v)
        ∙ cases (along volumes) (same v.name other) refl
      where
        cases : option_map entry_of (found other (map (cloned_of name origin) volumes))
            ≡ cond (same name other) (option_map (cloned_entry origin) (option_map entry_of (found other volumes))) (option_map entry_of (found other volumes))
            → (b : Bool) → same v.name other ≡ b → option_map entry_of (cond (same v.name other) (Some (cloned_of name origin v)) (found other (map (cloned_of name origin) volumes)))
            ≡ cond (same name other) (option_map (cloned_entry origin) (option_map entry_of (found other (v ∷ volumes)))) (option_map entry_of (found other (v ∷ volumes)))
        cases rest true e =
            ap (λ b. option_map entry_of (cond b (Some (cloned_of name origin v)) (found other (map (cloned_of name origin) volumes)))) e
            ∙ (at_it v (same name other) (same_is v.name other e) refl
            ∙ ap (λ b. let o = cond b (Some v) (found other volumes) in cond (same name other) (option_map (cloned_entry origin) (option_map entry_of o)) (option_map entry_of o)) (sym e))
        cases rest false e =
            ap (λ b. option_map entry_of (cond b (Some (cloned_of name origin v)) (found other (map (cloned_of name origin) volumes)))) e
            ∙ (rest
            ∙ ap (λ b. let o = cond b (Some v) (found other volumes) in cond (same name other) (option_map (cloned_entry origin) (option_map entry_of o)) (option_map entry_of o)) (sym e))

-- the look-ups after the origin at a name is set are those of the pool whose volume is a clone
pub entries_cloned : {K : Type 0} (items : K → List ℕ) (old new : List (K × VolumeEntry)) (name origin : List ℕ) (pool : PlainPool)
    → ((other : List ℕ) → lookup (λ k. same other (items k)) old ≡ entry_at other pool)
    → lookup (λ k. same name (items k)) new ≡ option_map (cloned_entry origin) (lookup (λ k. same name (items k)) old)
    → ((q : K) → same name (items q) ≡ false → lookup (λ k. same (items q) (items k)) new ≡ lookup (λ k. same (items q) (items k)) old)
    → (other : List ℕ) → lookup (λ k. same other (items k)) new ≡ entry_at other (with_origin name origin pool)
entries_cloned items old new name origin pool was here others other =
    cases (same name other) refl ∙ sym (entry_cloned name origin other pool)
  where
    cases : (b : Bool) → same name other ≡ b → lookup (λ k. same other (items k)) new ≡ cond (same name other) (option_map (cloned_entry origin) (entry_at other pool)) (entry_at other pool)
    cases true e =
        let n = same_is name other e in
        subst (λ m. lookup (λ k. same m (items k)) new ≡ option_map (cloned_entry origin) (lookup (λ k. same m (items k)) old)) n here
        ∙ (ap (option_map (cloned_entry origin)) (was other)
        ∙ ap (λ b. cond b (option_map (cloned_entry origin) (entry_at other pool)) (entry_at other pool)) (sym e))
    cases false e =
        agree_at items old new other (λ q n. others q (ap (same name) (sym n) ∙ e))
        ∙ (was other ∙ ap (λ b. cond b (option_map (cloned_entry origin) (entry_at other pool)) (entry_at other pool)) (sym e))

-- ---- a look through all entries

-- where one of a list passes
passing : {X : Type 0} (test : X → Bool) (P : X → Type 0) (C : Type 0) (xs : List X) → AllByRecursion P xs → ((x : X) → P x → test x ≡ true → C) → list_any test xs ≡ true → C
passing test P C [] all f e = absurd (true≢false (sym e))
passing test P C (x ∷ xs) all f e = cases (passing test P C xs all.1 f) (test x) refl
  where
    cases : (list_any test xs ≡ true → C) → (b : Bool) → test x ≡ b → C
    cases rest true t = f x all.0 t
    cases rest false t = rest (sym (ap (λ b. b || list_any test xs) t) ∙ e)

or_any : (b c : Bool) → c ≡ true → (b || c) ≡ true
or_any true c e = refl
or_any false c e = e

-- what is found passes too
found_any : (name : List ℕ) (test : PlainVolume → Bool) (volumes : List PlainVolume) (v : PlainVolume) → found name volumes ≡ Some v → (v.name ≡ name → test v ≡ true) → list_any test volumes ≡ true
found_any name test [] v e f = absurd (cc)
found_any name test (w ∷ volumes) v e f = cases (λ g. found_any name test volumes v g f) (same w.name name) refl
  where
    some_is : Some w ≡ Some v → w ≡ v
    some_is g = cc

    cases : (found name volumes ≡ Some v → list_any test volumes ≡ true) → (b : Bool) → same w.name name ≡ b → (test w || list_any test volumes) ≡ true
    cases rest true s =
        let is : w ≡ v = some_is (sym (ap (λ b. cond b (Some w) (found name volumes)) s) ∙ e) in
        ap (λ b. b || list_any test volumes) (subst (λ x. (x.name ≡ name → test x ≡ true)) (sym is) f (same_is w.name name s))
    cases rest false s = or_any (test w) (list_any test volumes) (rest (sym (ap (λ b. cond b (Some w) (found name volumes)) s) ∙ e))

lookup_any : {K X : Type 0} (key : K → Bool) (test : K × X → Bool) (es : List (K × X)) (x : X) → lookup key es ≡ Some x → ((k : K) → key k ≡ true → test (k, x) ≡ true) → list_any test es ≡ true
lookup_any key test [] x e f = absurd (cc)
lookup_any key test (p ∷ es) x e f = cases (λ g. lookup_any key test es x g f) (key p.0) refl
  where
    some_is : Some p.1 ≡ Some x → p.1 ≡ x
    some_is g = cc

    cases : (lookup key es ≡ Some x → list_any test es ≡ true) → (b : Bool) → key p.0 ≡ b → (test p || list_any test es) ≡ true
    cases rest true s =
        let is : x ≡ p.1 = sym (some_is (sym (ap (λ b. cond b (Some p.1) (lookup key es)) s) ∙ e)) in
        ap (λ b. b || list_any test es) (subst (λ y. test (p.0, y) ≡ true) is (f p.0 s))
    cases rest false s = or_any (test p) (list_any test es) (rest (sym (ap (λ b. cond b (Some p.1) (lookup key es)) s) ∙ e))

-- each of the volumes that ascend is found at its own name
own_name : (volumes : List PlainVolume) → AreAscending volumes → AllByRecursion (λ v. found v.name volumes ≡ Some v) volumes
unfolding IsStrictlySortedBy
own_name [] up = tt
own_name (v ∷ volumes) up = (
  ap (λ b. cond b (Some v) (found v.name volumes)) (is_same v.name v.name refl),
  behind volumes up.0 (own_name volumes up.1),
)
  where
    behind : (ws : List PlainVolume) → AllByRecursion (λ n. slice_cmp nat_cmp v.name n ≡ Less) (names_of ws) → AllByRecursion (λ w. found w.name volumes ≡ Some w) ws → AllByRecursion (λ w. found w.name (v ∷ volumes) ≡ Some w) ws
    behind [] less all = tt
    behind (w ∷ ws) less all = (
      ap (λ b. cond b (Some v) (found w.name volumes)) (sym (is_eq-slice_cmp v.name w.name) ∙ ap is_eq less.0) ∙ all.0,
      behind ws less.1 all.1,
    )

both_ways : (a b : Bool) → (a ≡ true → b ≡ true) → (b ≡ true → a ≡ true) → a ≡ b
both_ways true b f g = sym (f refl)
both_ways false true f g = g refl
both_ways false false f g = refl

-- a test of all entries and one of all volumes agree, if they agree on the entry and the volume of each name
pub any_entry : {K : Type 0} (items : K → List ℕ) (test : K × VolumeEntry → Bool) (is_one : PlainVolume → Bool) (es : List (K × VolumeEntry)) (pool : PlainPool)
    → ((name : List ℕ) → lookup (λ k. same name (items k)) es ≡ entry_at name pool) → AreAscending pool.volumes
    → AllByRecursion (λ e. lookup (λ k. same (items e.0) (items k)) es ≡ Some e.1) es
    → ((k : K) (v : PlainVolume) → items k ≡ v.name → test (k, entry_of v) ≡ is_one v)
    → list_any test es ≡ list_any is_one pool.volumes
any_entry {K} items test is_one es pool was up each agree = both_ways (list_any test es) (list_any is_one pool.volumes) there back
  where
    volume_of_entry : (o : Option PlainVolume) (entry : VolumeEntry) → option_map entry_of o ≡ Some entry → (v : PlainVolume) × (o ≡ Some v) × (entry_of v ≡ entry)
    volume_of_entry None entry e = absurd (cc)
    volume_of_entry (Some v) entry e = (v, refl, some_is e)
      where
        some_is : Some (entry_of v) ≡ Some entry → entry_of v ≡ entry
        some_is g = cc

    there : list_any test es ≡ true → list_any is_one pool.volumes ≡ true
    there = passing test (λ e. lookup (λ k. same (items e.0) (items k)) es ≡ Some e.1) (list_any is_one pool.volumes ≡ true) es each (λ (e : K × VolumeEntry) at passes.
        let volume = volume_of_entry (volume_at (items e.0) pool) e.1 (sym (was (items e.0)) ∙ at) in
        found_any (items e.0) is_one pool.volumes volume.0 volume.1 (λ called. sym (agree e.0 volume.0 (sym called)) ∙ (ap (λ entry. test (e.0, entry)) volume.2 ∙ passes)))

    back : list_any is_one pool.volumes ≡ true → list_any test es ≡ true
    back = passing is_one (λ v. found v.name pool.volumes ≡ Some v) (list_any test es ≡ true) pool.volumes (own_name pool.volumes up) (λ (v : PlainVolume) at passes.
        lookup_any (λ k. same v.name (items k)) test es (entry_of v) (was v.name ∙ ap (option_map entry_of) at) (λ k s. agree k v (sym (same_is v.name (items k) s)) ∙ passes))

-- ---- what a change makes

none_there : (found : Option PlainVolume) → is_some (option_map shape_of found) ≡ false → found ≡ None
none_there None e = refl
none_there (Some volume) e = absurd (true≢false e)

-- what is found has the name
has_name : (name : List ℕ) (volumes : List PlainVolume) (v : PlainVolume) → found name volumes ≡ Some v → v.name ≡ name
has_name name [] v e = absurd (cc)
has_name name (w ∷ volumes) v e = cases (has_name name volumes v) (same w.name name) refl
  where
    some_is : Some w ≡ Some v → w ≡ v
    some_is g = cc

    cases : (found name volumes ≡ Some v → v.name ≡ name) → (b : Bool) → same w.name name ≡ b → v.name ≡ name
    cases rest true s = subst (λ x. x.name ≡ name) (some_is (sym (ap (λ b. cond b (Some w) (found name volumes)) s) ∙ e)) (same_is w.name name s)
    cases rest false s = rest (sym (ap (λ b. cond b (Some w) (found name volumes)) s) ∙ e)

-- the pool afterwards has one volume more, which has this name and this entry
abbrev Makes : PlainPool → NewName → PlainPool → Type 0
Makes pool new after =
    (volume : PlainVolume) × IsNameOf new volume
    × (volume_at volume.name pool ≡ None) × (after ≡ with_volume volume pool)

name_is : (new : NewName) (volume : PlainVolume) → new.name ≡ volume.name → new.entry.origin ≡ volume.origin → Some new.entry.shape ≡ Some (shape_of volume) → IsNameOf new volume
name_is new volume called from e =
    let shaped = same_Some new.entry.shape (shape_of volume) e in
    record { name = sym called; entry = λ i. record { shape = sym shaped i; origin = sym from i } }

-- the shape and the origin of what a change makes, where its name is not there, are those of the volume that the pool then has more
pub makes_new : (group : ℕ) (pool : PlainPool) (change : Change) (new : NewName)
    → new.name ≡ name_of change → new.entry.origin ≡ origin_by change → is_some (shape_at (name_of change) pool) ≡ false
    → MakesShape group pool change (Some new.entry.shape) → IsNameChange group pool change (Added new)
makes_new group pool (Create name size block_size) new called from none e =
    (created group name size block_size, name_is new (created group name size block_size) called from e, none_there (volume_at name pool) none, refl)
makes_new group pool (Snapshot volume part) new called from none e = taken (volume_at volume pool) e
  where
    absent : volume_at (snapshot_name volume part) pool ≡ None
    absent = none_there (volume_at (snapshot_name volume part) pool) none

    taken : (there : Option PlainVolume) → Some new.entry.shape ≡ taken_shape group (option_map shape_of there)
        → Makes pool new (with_snapshot group (snapshot_name volume part) there pool)
    taken None e = absurd (none-some new.entry.shape (sym e))
    taken (Some it) e =
        let snapshot : PlainVolume = snapshot_of group (snapshot_name volume part) it in
        elim (is_snapshot it.kind) as (λ b. Some new.entry.shape ≡ cond b None (Some (shape_of snapshot))
        → Makes pool new (cond b pool (with_volume snapshot pool))) [
          | true ↦ λ f. absurd (none-some new.entry.shape (sym f))
          | false ↦ λ f. (snapshot, name_is new snapshot called from f, absent, refl)
        ] e
makes_new group pool (Clone snapshot name) new called from none e = cloned (volume_at snapshot pool) refl e
  where
    absent : volume_at name pool ≡ None
    absent = none_there (volume_at name pool) none

    cloned : (there : Option PlainVolume) → volume_at snapshot pool ≡ there → Some new.entry.shape ≡ cloned_shape group (option_map shape_of there)
        → Makes pool new (with_clone group name there pool)
    cloned None at e = absurd (none-some new.entry.shape (sym e))
    cloned (Some it) at e =
        let clone : PlainVolume = clone_of group name it in
        let origin : new.entry.origin ≡ clone.origin = from ∙ ap (λ n. Some n) (sym (has_name snapshot pool.volumes it at)) in
        elim (is_snapshot it.kind) as (λ b. Some new.entry.shape ≡ cond b (Some (shape_of clone)) None
        → Makes pool new (cond b (with_volume clone pool) pool)) [
          | true ↦ λ f. (clone, name_is new clone called origin f, absent, refl)
          | false ↦ λ f. absurd (none-some new.entry.shape (sym f))
        ] e
makes_new group pool (Destroy name) new called from none e = absurd (none-some new.entry.shape (sym e))
