-- Volumes by name: what a pool has at a name, and that its volumes ascend.
use Rattle.std.proofs.Common.{◌≡◌, ℕ, zero, suc, ◌+◌, Bool, true, false, true≢false, List, [], ◌∷◌, map, Option, Some, None, refl, sym, ap, ◌∙◌, subst, arith}
use Rattle.std.specs.Prelude.{◌&&◌, ◌||◌, cond, filter, fold, find, is_some, not, insert, nat_le}
use Rattle.std.specs.declared.cmp.Ordering.{Ordering}
use Rattle.std.specs.declared.cmp.Ordering.TheVariants.{Less, Equal, Greater}
use Rattle.std.specs.Cmp.Lexicographic.{slice_cmp}
use Rattle.std.specs.List.{AllByRecursion, position_or_len}
use Rattle.std.specs.List.Sorted.{IsStrictlySortedBy}
use Rattle.std.specs.Option.{option_map, option_or}
use Rattle.std.specs.Ordering.{nat_cmp, is_lt, is_eq, ordering_reverse}
use Rattle.std.proofs.lemmas.Cmp.{nat_list_cmp_total}
use Rattle.std.proofs.lemmas.Map.Text.{is_eq-slice_cmp}
use Rattle.std.proofs.lemmas.Slice.Eq.{bytes_eq-Decides}
use Rattle.pool_model.specs.declared.item.Action.{Action}
use Rattle.pool_model.specs.declared.item.Change.{Change}
use Rattle.pool_model.specs.declared.item.Change.TheVariants.{Clone, Create, Destroy, Snapshot}
use Rattle.pool_model.specs.declared.item.Write.{Write}
use Rattle.pool_model.specs.declared.volume.PlainVolume.{PlainVolume}
use Rattle.pool_model.specs.Names.{same, is_before, stored, snapshot_name}
use Rattle.pool_model.specs.Pools.{PlainPool, Entry, Ledger, AreAscending, volume_at, volume_after, written, clone_of, created, destroyed, has_clones, has_snapshots, is_snapshot, placed, snapshot_of, with_clone, with_snapshot, with_volume, without, changed, applied, upto}

-- ---- names

abbrev name_cmp : List ℕ → List ℕ → Ordering
name_cmp a b = slice_cmp nat_cmp a b

pub same_is : (a b : List ℕ) → same a b ≡ true → a ≡ b
same_is a b e = (bytes_eq-Decides a b).0 e

pub is_same : (a b : List ℕ) → a ≡ b → same a b ≡ true
is_same a b e = (bytes_eq-Decides a b).1 e

less_is : (o : Ordering) → is_lt o ≡ true → o ≡ Less
less_is Less e = refl
less_is Equal e = absurd (true≢false (sym e))
less_is Greater e = absurd (true≢false (sym e))

-- names are the same, or one comes before the other
is_behind : (a b : List ℕ) (o : Ordering) → name_cmp b a ≡ o → is_before a b ≡ false → same b a ≡ false → name_cmp b a ≡ Less
is_behind a b Less e not_before other = e
is_behind a b Equal e not_before other = absurd (true≢false (sym (ap is_eq e) ∙ (is_eq-slice_cmp b a ∙ other)))
is_behind a b Greater e not_before other = absurd (true≢false (sym (ap is_lt (nat_list_cmp_total.antisymm a b ∙ ap ordering_reverse e)) ∙ not_before))

-- a name before another is not the same
not_same : (a b : List ℕ) → name_cmp a b ≡ Less → same a b ≡ false
not_same a b e = sym (is_eq-slice_cmp a b) ∙ ap is_eq e

not_both : (a b : List ℕ) → name_cmp a b ≡ Less → name_cmp b a ≡ Less → ⊥
not_both a b e f = different (sym e ∙ (nat_list_cmp_total.antisymm a b ∙ ap ordering_reverse f))
  where
    different : Less ≡ Greater → ⊥
    different g = cc

-- ---- a volume in its place

abbrev put : PlainVolume → List PlainVolume → List PlainVolume
put new [] = new ∷ []
put new (v ∷ volumes) = cond (is_before new.name v.name) (new ∷ v ∷ volumes) (v ∷ put new volumes)

put_by : (new v : PlainVolume) (volumes : List PlainVolume) (n : ℕ) (b : Bool) → insert (v ∷ volumes) (cond (not b) (1 + n) 0) new ≡ cond b (new ∷ v ∷ volumes) (v ∷ insert volumes n new)
put_by new v volumes n true = refl
put_by new v volumes n false = let e : 1 + n ≡ suc n = omega arith in ap (λ k. insert (v ∷ volumes) k new) e

put_is : (new : PlainVolume) (volumes : List PlainVolume) → placed new volumes ≡ put new volumes
put_is new [] = refl
put_is new (v ∷ volumes) =
    put_by new v volumes (position_or_len (λ x. is_before new.name x.name) volumes) (is_before new.name v.name)
    ∙ ap (λ rest. cond (is_before new.name v.name) (new ∷ v ∷ volumes) (v ∷ rest)) (put_is new volumes)

or_none : {A : Type 0} (o : Option A) → option_or o None ≡ o
or_none None = refl
or_none (Some x) = refl

abbrev found : List ℕ → List PlainVolume → Option PlainVolume
found name volumes = find (λ v. same v.name name) volumes

-- the name of a new volume is at no other volume
put_first : (new : PlainVolume) (name : List ℕ) (rest : Option PlainVolume) (b : Bool) → (b ≡ true → rest ≡ None) → cond b (Some new) rest ≡ option_or rest (cond b (Some new) None)
put_first new name rest true none = sym (ap (λ o. option_or o (Some new)) (none refl))
put_first new name rest false none = sym (or_none rest)

find_put : (new : PlainVolume) (name : List ℕ) (volumes : List PlainVolume) → (same new.name name ≡ true → found name volumes ≡ None)
    → found name (put new volumes) ≡ option_or (found name volumes) (cond (same new.name name) (Some new) None)
find_put new name [] none = refl
find_put new name (v ∷ volumes) none = cases (find_put new name volumes) (is_before new.name v.name) (same v.name name) refl
  where
    later : (b : Bool) → same v.name name ≡ b → same new.name name ≡ true → found name volumes ≡ None
    later true e s = absurd (let f : Some v ≡ None = sym (ap (λ c. cond c (Some v) (found name volumes)) e) ∙ none s in cc)
    later false e s = sym (ap (λ c. cond c (Some v) (found name volumes)) e) ∙ none s

    cases : ((same new.name name ≡ true → found name volumes ≡ None) → found name (put new volumes) ≡ option_or (found name volumes) (cond (same new.name name) (Some new) None))
        → (b c : Bool) → same v.name name ≡ c
        → found name (cond b (new ∷ v ∷ volumes) (v ∷ put new volumes)) ≡ option_or (found name (v ∷ volumes)) (cond (same new.name name) (Some new) None)
    cases rest true c e = put_first new name (found name (v ∷ volumes)) (same new.name name) none
    cases rest false true e = (λ i. cond (e i) (Some v) (found name (put new volumes))) ∙ sym (ap (λ d. option_or (cond d (Some v) (found name volumes)) (cond (same new.name name) (Some new) None)) e)
    cases rest false false e =
        (λ i. cond (e i) (Some v) (found name (put new volumes)))
        ∙ (rest (later false e)
        ∙ sym (ap (λ d. option_or (cond d (Some v) (found name volumes)) (cond (same new.name name) (Some new) None)) e))

or_self : (o other : Option PlainVolume) (x : PlainVolume) → o ≡ Some x → option_or o other ≡ o
or_self None other x e = absurd (cc)
or_self (Some y) other x e = refl

-- what a pool with a volume more has at a name
pub volume_more : (pool : PlainPool) (volume : PlainVolume) (name : List ℕ) → volume_at name (with_volume volume pool) ≡ option_or (volume_at name pool) (cond (same volume.name name) (Some volume) None)
volume_more pool volume name = cases (volume_at volume.name pool) refl
  where
    there : (x : PlainVolume) (b : Bool) → volume_at volume.name pool ≡ Some x → same volume.name name ≡ b → volume_at name pool ≡ option_or (volume_at name pool) (cond b (Some volume) None)
    there x true e f = sym (or_self (volume_at name pool) (Some volume) x (ap (λ n. volume_at n pool) (sym (same_is volume.name name f)) ∙ e))
    there x false e f = sym (or_none (volume_at name pool))

    cases : (o : Option PlainVolume) → volume_at volume.name pool ≡ o → volume_at name (with_volume volume pool) ≡ option_or (volume_at name pool) (cond (same volume.name name) (Some volume) None)
    cases (Some x) e =
        ap (λ o. volume_at name (cond (is_some o) pool (record pool { volumes = placed volume pool.volumes }))) e
        ∙ (there x (same volume.name name) e refl)
    cases None e =
        ap (λ o. volume_at name (cond (is_some o) pool (record pool { volumes = placed volume pool.volumes }))) e
        ∙ (ap (found name) (put_is volume pool.volumes)
        ∙ find_put volume name pool.volumes (λ s. ap (λ n. volume_at n pool) (sym (same_is volume.name name s)) ∙ e))

pub name_after : (w : Write) (volume : PlainVolume) → (volume_after w volume).name ≡ volume.name
name_after w volume = elim (same volume.name w.volume && not (is_snapshot volume.kind)) as (λ b. (cond b (record volume { bytes = stored w.offset w.bytes volume.bytes }) volume).name ≡ volume.name) [ true ↦ refl | false ↦ refl ]

-- the volume of a name after a write is its volume after the write
pub volume_written : (pool : PlainPool) (w : Write) (name : List ℕ) → volume_at name (written pool w) ≡ option_map (volume_after w) (volume_at name pool)
volume_written pool w name = along pool.volumes
  where
    along : (volumes : List PlainVolume) → found name (map (volume_after w) volumes) ≡ option_map (volume_after w) (found name volumes)
    along [] = refl
    along (volume ∷ volumes) =
        ap (λ n. cond (same n name) (Some (volume_after w volume)) (found name (map (volume_after w) volumes))) (name_after w volume)
        ∙ (ap (cond (same volume.name name) (Some (volume_after w volume))) (along volumes)
        ∙ elim (same volume.name name) as (λ b. cond b (Some (volume_after w volume)) (option_map (volume_after w) (found name volumes)) ≡ option_map (volume_after w) (cond b (Some volume) (found name volumes))) [ true ↦ refl | false ↦ refl ])

-- ---- a volume less

stays_there : (b c : Bool) (v : PlainVolume) (rest : Option PlainVolume) → (c ≡ true → b ≡ false) → cond c (Some v) (cond b None rest) ≡ cond b None (cond c (Some v) rest)
stays_there b true v rest e = sym (ap (λ d. cond d None (Some v)) (e refl))
stays_there b false v rest e = refl

goes_there : (b c : Bool) (v : PlainVolume) (rest : Option PlainVolume) → (c ≡ true → b ≡ true) → cond b None rest ≡ cond b None (cond c (Some v) rest)
goes_there true c v rest e = refl
goes_there false true v rest e = absurd (true≢false (sym (e refl)))
goes_there false false v rest e = refl

none_there : (b : Bool) (o : Option PlainVolume) → o ≡ None → o ≡ cond b None o
none_there true o e = e
none_there false o e = refl

-- what a pool without a volume has at a name
pub volume_without : (pool : PlainPool) (gone name : List ℕ) → volume_at name (without gone pool) ≡ cond (same gone name) None (volume_at name pool)
volume_without pool gone name = along pool.volumes
  where
    along : (volumes : List PlainVolume) → found name (filter (λ v. not (same v.name gone)) volumes) ≡ cond (same gone name) None (found name volumes)
    along [] = none_there (same gone name) (found name []) refl
    along (v ∷ volumes) = cases (along volumes) (same v.name gone) refl
      where
        other : (b : Bool) → same v.name gone ≡ false → same v.name name ≡ true → same gone name ≡ b → same gone name ≡ false
        other true e f g = absurd (true≢false (sym (is_same v.name gone (same_is v.name name f ∙ sym (same_is gone name g))) ∙ e))
        other false e f g = g

        cases : found name (filter (λ w. not (same w.name gone)) volumes) ≡ cond (same gone name) None (found name volumes)
            → (b : Bool) → same v.name gone ≡ b → found name (filter (λ w. not (same w.name gone)) (v ∷ volumes)) ≡ cond (same gone name) None (found name (v ∷ volumes))
        cases rest true e =
            ap (λ d. found name (cond (not d) (v ∷ filter (λ w. not (same w.name gone)) volumes) (filter (λ w. not (same w.name gone)) volumes))) e
            ∙ (rest ∙ goes_there (same gone name) (same v.name name) v (found name volumes) (λ f. ap (λ n. same n name) (sym (same_is v.name gone e)) ∙ f))
        cases rest false e =
            ap (λ d. found name (cond (not d) (v ∷ filter (λ w. not (same w.name gone)) volumes) (filter (λ w. not (same w.name gone)) volumes))) e
            ∙ (ap (cond (same v.name name) (Some v)) rest ∙ stays_there (same gone name) (same v.name name) v (found name volumes) (λ f. other (same gone name) e f refl))

-- ---- volumes that ascend

abbrev names_of : List PlainVolume → List (List ℕ)
names_of volumes = map (λ v. v.name) volumes

all_put : (P : List ℕ → Type 0) (new : PlainVolume) (volumes : List PlainVolume) → P new.name → AllByRecursion P (names_of volumes) → AllByRecursion P (names_of (put new volumes))
all_put P new [] p all = (p, tt)
all_put P new (v ∷ volumes) p all = elim (is_before new.name v.name) as (λ b. AllByRecursion P (names_of (cond b (new ∷ v ∷ volumes) (v ∷ put new volumes)))) [ true ↦ (p, all) | false ↦ (all.0, all_put P new volumes p all.1) ]

all_above : (low high : List ℕ) (names : List (List ℕ)) → name_cmp low high ≡ Less → AllByRecursion (λ n. name_cmp high n ≡ Less) names → AllByRecursion (λ n. name_cmp low n ≡ Less) names
all_above low high [] e all = tt
all_above low high (n ∷ names) e all = (nat_list_cmp_total.trans low high n e all.0, all_above low high names e all.1)

ascending_put : (new : PlainVolume) (volumes : List PlainVolume) → found new.name volumes ≡ None → AreAscending volumes → AreAscending (put new volumes)
unfolding IsStrictlySortedBy
ascending_put new [] none up = (tt, tt)
ascending_put new (v ∷ volumes) none up = cases (λ none. ascending_put new volumes none up.1) (is_before new.name v.name) (same v.name new.name) refl refl
  where
    cases : (found new.name volumes ≡ None → AreAscending (put new volumes)) → (b c : Bool) → is_before new.name v.name ≡ b → same v.name new.name ≡ c → AreAscending (cond b (new ∷ v ∷ volumes) (v ∷ put new volumes))
    cases rest true c e f = let less = less_is (name_cmp new.name v.name) e in ((less, all_above new.name v.name (names_of volumes) less up.0), up)
    cases rest false true e f = absurd (let g : Some v ≡ None = sym (ap (λ d. cond d (Some v) (found new.name volumes)) f) ∙ none in cc)
    cases rest false false e f = (
      all_put (λ n. name_cmp v.name n ≡ Less) new volumes (is_behind new.name v.name (name_cmp v.name new.name) refl e f) up.0,
      rest (sym (ap (λ d. cond d (Some v) (found new.name volumes)) f) ∙ none),
    )

pub ascending_more : (pool : PlainPool) (volume : PlainVolume) → AreAscending pool.volumes → AreAscending (with_volume volume pool).volumes
ascending_more pool volume up = cases (volume_at volume.name pool) refl
  where
    cases : (o : Option PlainVolume) → volume_at volume.name pool ≡ o → AreAscending (cond (is_some o) pool (record pool { volumes = placed volume pool.volumes })).volumes
    cases (Some x) e = up
    cases None e = subst AreAscending (sym (put_is volume pool.volumes)) (ascending_put volume pool.volumes e up)

names_after : (w : Write) (volumes : List PlainVolume) → names_of (map (volume_after w) volumes) ≡ names_of volumes
names_after w [] = refl
names_after w (v ∷ volumes) = λ i. name_after w v i ∷ names_after w volumes i

pub ascending_written : (pool : PlainPool) (w : Write) → AreAscending pool.volumes → AreAscending (written pool w).volumes
ascending_written pool w up = subst (IsStrictlySortedBy (slice_cmp nat_cmp)) (sym (names_after w pool.volumes)) up

ascending_writes : (pool : PlainPool) (writes : List Write) → AreAscending pool.volumes → AreAscending (fold written pool writes).volumes
ascending_writes pool [] up = up
ascending_writes pool (w ∷ writes) up = ascending_writes (written pool w) writes (ascending_written pool w up)

-- those that are kept ascend
all_kept : (P : List ℕ → Type 0) (test : PlainVolume → Bool) (volumes : List PlainVolume) → AllByRecursion P (names_of volumes) → AllByRecursion P (names_of (filter test volumes))
all_kept P test [] all = tt
all_kept P test (v ∷ volumes) all = elim (test v) as (λ b. AllByRecursion P (names_of (cond b (v ∷ filter test volumes) (filter test volumes)))) [ true ↦ (all.0, all_kept P test volumes all.1) | false ↦ all_kept P test volumes all.1 ]

ascending_kept : (test : PlainVolume → Bool) (volumes : List PlainVolume) → AreAscending volumes → AreAscending (filter test volumes)
unfolding IsStrictlySortedBy
ascending_kept test [] up = tt
ascending_kept test (v ∷ volumes) up = elim (test v) as (λ b. AreAscending (cond b (v ∷ filter test volumes) (filter test volumes))) [
  | true ↦ (all_kept (λ n. name_cmp v.name n ≡ Less) test volumes up.0, ascending_kept test volumes up.1)
  | false ↦ ascending_kept test volumes up.1
]

pub ascending_gone : (name : List ℕ) (pool : PlainPool) → AreAscending pool.volumes → AreAscending (destroyed name pool).volumes
ascending_gone name pool up = elim (has_snapshots name pool || has_clones name pool) as (λ b. AreAscending (cond b pool (without name pool)).volumes) [
  | true ↦ up
  | false ↦ ascending_kept (λ v. not (same v.name name)) pool.volumes up
]

pub ascending_changed : (group : ℕ) (pool : PlainPool) (change : Change) → AreAscending pool.volumes → AreAscending (changed group pool change).volumes
ascending_changed group pool (Create name size block_size) up = ascending_more pool (created group name size block_size) up
ascending_changed group pool (Snapshot volume part) up = taken (volume_at volume pool)
  where
    taken : (found : Option PlainVolume) → AreAscending (with_snapshot group (snapshot_name volume part) found pool).volumes
    taken None = up
    taken (Some it) = elim (is_snapshot it.kind) as (λ b. AreAscending (cond b pool (with_volume (snapshot_of group (snapshot_name volume part) it) pool)).volumes) [
      | true ↦ up
      | false ↦ ascending_more pool (snapshot_of group (snapshot_name volume part) it) up
    ]
ascending_changed group pool (Clone snapshot name) up = cloned (volume_at snapshot pool)
  where
    cloned : (found : Option PlainVolume) → AreAscending (with_clone group name found pool).volumes
    cloned None = up
    cloned (Some it) = elim (is_snapshot it.kind) as (λ b. AreAscending (cond b (with_volume (clone_of group name it) pool) pool).volumes) [
      | true ↦ ascending_more pool (clone_of group name it) up
      | false ↦ up
    ]
ascending_changed group pool (Destroy name) up = ascending_gone name pool up

pub ascending_actions : (group : ℕ) (pool : PlainPool) (actions : List Action) → AreAscending pool.volumes → AreAscending (fold (λ p a. changed group p a.change) pool actions).volumes
ascending_actions group pool [] up = up
ascending_actions group pool (a ∷ actions) up = ascending_actions group (changed group pool a.change) actions (ascending_changed group pool a.change up)

pub ascending_applied : (group : ℕ) (pool : PlainPool) (entry : Entry) → AreAscending pool.volumes → AreAscending (applied group pool entry).volumes
ascending_applied group pool entry up = ascending_actions group (fold written pool entry.writes) entry.actions (ascending_writes pool entry.writes up)

pub ascending_upto : (base : ℕ) (pool : PlainPool) (ledger : Ledger) (n : ℕ) → AreAscending pool.volumes → AreAscending (upto base pool ledger n).volumes
ascending_upto base pool ledger zero up = up
ascending_upto base pool ledger (suc n) up = cases (ascending_upto base pool ledger n up) (nat_le (suc n) base)
  where
    cases : AreAscending (upto base pool ledger n).volumes → (b : Bool) → AreAscending (cond b pool (applied (suc n) (upto base pool ledger n) (ledger (suc n)))).volumes
    cases rest true = up
    cases rest false = ascending_applied (suc n) (upto base pool ledger n) (ledger (suc n)) rest

-- ---- pools that have the same at each name

pub ascending_none : AreAscending []
unfolding IsStrictlySortedBy
ascending_none = tt

-- no name behind a name is that name
none_behind : (name : List ℕ) (volumes : List PlainVolume) → AllByRecursion (λ n. name_cmp name n ≡ Less) (names_of volumes) → found name volumes ≡ None
none_behind name [] all = refl
none_behind name (v ∷ volumes) all =
    ap (λ b. cond b (Some v) (found name volumes)) (not_same_back v.name name all.0) ∙ none_behind name volumes all.1
  where
    not_same_back : (a b : List ℕ) → name_cmp b a ≡ Less → same a b ≡ false
    not_same_back a b e = other (same a b) refl
      where
        other : (c : Bool) → same a b ≡ c → c ≡ false
        other true f = absurd (true≢false (sym (is_same b a (sym (same_is a b f))) ∙ not_same b a e))
        other false f = refl

-- what is found has a name behind, where all names are
found_behind : (name low : List ℕ) (volumes : List PlainVolume) (x : PlainVolume) → found name volumes ≡ Some x → AllByRecursion (λ n. name_cmp low n ≡ Less) (names_of volumes) → name_cmp low name ≡ Less
found_behind name low [] x e all = absurd (cc)
found_behind name low (v ∷ volumes) x e all = cases (λ f. found_behind name low volumes x f all.1) (same v.name name) refl
  where
    cases : (found name volumes ≡ Some x → name_cmp low name ≡ Less) → (b : Bool) → same v.name name ≡ b → name_cmp low name ≡ Less
    cases rest true f = subst (λ n. name_cmp low n ≡ Less) (same_is v.name name f) all.0
    cases rest false f = rest (sym (ap (λ b. cond b (Some v) (found name volumes)) f) ∙ e)

at_itself : (v : PlainVolume) (volumes : List PlainVolume) → found v.name (v ∷ volumes) ≡ Some v
at_itself v volumes = ap (λ b. cond b (Some v) (found v.name volumes)) (is_same v.name v.name refl)

pub equal_volumes : (xs ys : List PlainVolume) → AreAscending xs → AreAscending ys → ((name : List ℕ) → found name xs ≡ found name ys) → xs ≡ ys
unfolding IsStrictlySortedBy
equal_volumes [] [] up above h = refl
equal_volumes [] (y ∷ ys) up above h = absurd (let e : None ≡ Some y = h y.name ∙ at_itself y ys in cc)
equal_volumes (x ∷ xs) [] up above h = absurd (let e : Some x ≡ None = sym (at_itself x xs) ∙ h x.name in cc)
equal_volumes (x ∷ xs) (y ∷ ys) up above h = let first = heads (same y.name x.name) refl in λ i. first i ∷ equal_volumes xs ys up.1 above.1 (tails first) i
  where
    some_is : Some x ≡ Some y → x ≡ y
    some_is e = cc

    heads : (b : Bool) → same y.name x.name ≡ b → x ≡ y
    heads true e = some_is (sym (at_itself x xs) ∙ (h x.name ∙ ap (λ b. cond b (Some y) (found x.name ys)) e))
    heads false e =
        let behind : name_cmp y.name x.name ≡ Less = found_behind x.name y.name ys x (sym (ap (λ b. cond b (Some y) (found x.name ys)) e) ∙ (sym (h x.name) ∙ at_itself x xs)) above.0 in
        absurd (others (same x.name y.name) refl behind)
      where
        others : (b : Bool) → same x.name y.name ≡ b → name_cmp y.name x.name ≡ Less → ⊥
        others true f behind = true≢false (sym (is_same y.name x.name (sym (same_is x.name y.name f))) ∙ e)
        others false f behind = not_both x.name y.name (found_behind y.name x.name xs y (sym (ap (λ b. cond b (Some x) (found y.name xs)) f) ∙ (h y.name ∙ at_itself y ys)) up.0) behind

    tails : x ≡ y → (name : List ℕ) → found name xs ≡ found name ys
    tails first name = cases (same x.name name) refl
      where
        cases : (b : Bool) → same x.name name ≡ b → found name xs ≡ found name ys
        cases true e =
            let named = same_is x.name name e in
            subst (λ n. found n xs ≡ None) named (none_behind x.name xs up.0)
            ∙ sym (subst (λ n. found n ys ≡ None) (sym (ap (λ (v : PlainVolume). v.name) first) ∙ named) (none_behind y.name ys above.0))
        cases false e =
            sym (ap (λ b. cond b (Some x) (found name xs)) e)
            ∙ (h name ∙ ap (λ b. cond b (Some y) (found name ys)) (ap (λ (v : PlainVolume). same v.name name) (sym first) ∙ e))

pub equal_pools : (pool other : PlainPool) → AreAscending pool.volumes → AreAscending other.volumes → ((name : List ℕ) → volume_at name pool ≡ volume_at name other) → pool ≡ other
equal_pools pool other up above h = λ i. record { volumes = equal_volumes pool.volumes other.volumes up above h i }
