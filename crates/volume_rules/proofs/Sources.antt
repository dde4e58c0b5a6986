-- Where the bytes of a name stood before.
use Rattle.std.proofs.Common.{◌≡◌, ◌≢◌, ◌⊎◌, ⊎_elim, inl, inr, ℕ, zero, suc, ◌<◌, ◌≤◌, Bool, true, false, true≢false, List, [], ◌∷◌, ◌++◌, ◌+◌, ◌-◌, length, take, get_or, replicate, Option, Some, None, refl, sym, ap, ◌∙◌, subst, arith}
use Rattle.std.specs.Prelude.{cond, fold, nat_le, not}
use Rattle.std.proofs.lemmas.Bool.Decides.{nat_tests}
use Rattle.std.proofs.lemmas.List.{length-replicate, take_all, take_more}
use Rattle.pool_model.specs.declared.item.Action.{Action}
use Rattle.pool_model.specs.declared.item.Change.{Change}
use Rattle.pool_model.specs.declared.item.Change.TheVariants.{Clone, Create, Destroy, Snapshot}
use Rattle.pool_model.specs.declared.volume.PlainVolume.{PlainVolume}
use Rattle.pool_model.specs.Names.{name_of, same, snapshot_name}
use Rattle.pool_model.specs.Pools.{PlainPool, Entry, Ledger, is_snapshot, volume_at, written, clone_of, created, snapshot_of, with_clone, with_snapshot, with_volume, changed, applied, upto}
use Rattle.pool_model.specs.Refusals.{change_refusal, is_snapshot_there, is_volume}
use Rattle.pool_model.proofs.Causes.{first_none, none_of, not_false}
use Rattle.pool_model.proofs.Places.{same_is}
use Rattle.pool_model.proofs.Uptos.{upto_above, upto_base}
use Rattle.volume_rules.specs.declared.shape.VolumeShape.{VolumeShape}
use Rattle.volume_rules.specs.Effects.{GroupTakesEffect, TakeEffect}
use Rattle.volume_rules.specs.Overlay.{after_writes, bytes_or_zeros, StandsThere}
use Rattle.volume_rules.specs.Sources.{found_at, source_before, source_by, source_from, source_in}
use Rattle.volume_rules.proofs.Effects.{AllTakeEffect}
use Rattle.volume_rules.proofs.Indexes.{new_name, other_name}
use Rattle.volume_rules.proofs.Made.{changes, left_behind}
use Rattle.volume_rules.proofs.Overlays.{length_after_writes, shape_after_writes, under_writes}

-- ---- a change

-- the pool has these bytes at the name; nowhere are zeros
abbrev pub HasBytesAt : Option (List ℕ) → PlainPool → List ℕ → Type 0
HasBytesAt None pool bytes = bytes ≡ replicate (length bytes) 0
HasBytesAt (Some name) pool bytes = (volume : PlainVolume) × (volume_at name pool ≡ Some volume) × (volume.bytes ≡ bytes)

-- a change that takes effect makes one volume more, of what was there
record MakesOne (group : ℕ) (pool : PlainPool) (change : Change) : Type 0 where
  new : PlainVolume
  called : new.name ≡ name_of change
  made : new.group ≡ group
  none : volume_at (name_of change) pool ≡ None
  is : changed group pool change ≡ with_volume new pool
  of : Option (List ℕ)
  from : HasBytesAt of pool new.bytes
  sources : (name : List ℕ) → source_by change name ≡ cond (same (name_of change) name) of (Some name)

-- or it makes none: what stands behind it stood there before it
record MakesNone (group : ℕ) (pool : PlainPool) (change : Change) : Type 0 where
  stood : (name : List ℕ) (volume : PlainVolume) → volume_at name (changed group pool change) ≡ Some volume → volume_at name pool ≡ Some volume
  sources : (name : List ℕ) → source_by change name ≡ Some name

takes : (group : ℕ) (pool : PlainPool) (change : Change) → change_refusal change pool ≡ None → MakesOne group pool change ⊎ MakesNone group pool change
takes group pool (Create name size block_size) e =
    let two = first_none _ _ _ (first_none _ _ _ e).1 in
    inl (record {
      new = created group name size block_size;
      called = refl;
      made = refl;
      none = none_of _ two.0;
      is = refl;
      of = None;
      from = ap (λ n. replicate n 0) (sym (length-replicate {A = ℕ} size 0));
      sources = λ name. refl;
    })
takes group pool (Snapshot volume part) e = inl (taken (volume_at volume pool) refl)
  where
    taken : (found : Option PlainVolume) → volume_at volume pool ≡ found → MakesOne group pool (Snapshot volume part)
    taken None f = absurd (true≢false (sym (not_false _ (first_none _ _ _ (first_none _ _ _ e).1).0) ∙ ap is_volume f))
    taken (Some it) f =
        let two = first_none _ _ _ (first_none _ _ _ e).1 in
        let there : is_volume (volume_at volume pool) ≡ true = not_false _ two.0 in
        let writable : is_snapshot it.kind ≡ false = not_true (is_snapshot it.kind) (sym (ap is_volume f) ∙ there) in record {
          new = snapshot_of group (snapshot_name volume part) it;
          called = refl;
          made = refl;
          none = none_of _ (first_none _ _ _ two.1).0;
          is = ap (λ o. with_snapshot group (snapshot_name volume part) o pool) f ∙ ap (λ b. cond b pool (with_volume (snapshot_of group (snapshot_name volume part) it) pool)) writable;
          of = Some volume;
          from = (it, f, refl);
          sources = λ name. refl;
        }
      where
        not_true : (b : Bool) → not b ≡ true → b ≡ false
        not_true true g = absurd (true≢false (sym g))
        not_true false g = refl
takes group pool (Clone snapshot name) e = inl (cloned (volume_at snapshot pool) refl)
  where
    cloned : (found : Option PlainVolume) → volume_at snapshot pool ≡ found → MakesOne group pool (Clone snapshot name)
    cloned None f = absurd (true≢false (sym (not_false _ (first_none _ _ _ (first_none _ _ _ e).1).0) ∙ ap is_snapshot_there f))
    cloned (Some it) f =
        let two = first_none _ _ _ (first_none _ _ _ e).1 in
        let there : is_snapshot_there (volume_at snapshot pool) ≡ true = not_false _ two.0 in
        let taken : is_snapshot it.kind ≡ true = sym (ap is_snapshot_there f) ∙ there in record {
          new = clone_of group name it;
          called = refl;
          made = refl;
          none = none_of _ (first_none _ _ _ two.1).0;
          is = ap (λ o. with_clone group name o pool) f ∙ ap (λ b. cond b (with_volume (clone_of group name it) pool) pool) taken;
          of = Some snapshot;
          from = (it, f, refl);
          sources = λ name. refl;
        }
takes group pool (Destroy gone) e = inr (record { stood = left_behind pool gone; sources = λ name. refl })

-- what stands behind it at the new name is the new volume, and at another name it stood there before
behind_one : (group : ℕ) (pool : PlainPool) (change : Change) (t : MakesOne group pool change) (name : List ℕ) (volume : PlainVolume) → volume_at name (changed group pool change) ≡ Some volume
    → ((same (name_of change) name ≡ true) × (t.new ≡ volume)) ⊎ ((same (name_of change) name ≡ false) × (volume_at name pool ≡ Some volume))
behind_one group pool change t name volume e = cases (same (name_of change) name) refl
  where
    behind : volume_at name (with_volume t.new pool) ≡ Some volume
    behind = ap (volume_at name) (sym t.is) ∙ e

    cases : (b : Bool) → same (name_of change) name ≡ b → ((same (name_of change) name ≡ true) × (t.new ≡ volume)) ⊎ ((same (name_of change) name ≡ false) × (volume_at name pool ≡ Some volume))
    cases true s =
        let both : Some t.new ≡ Some volume = sym (new_name pool t.new name (ap (λ n. same n name) t.called ∙ s) (ap (λ n. volume_at n pool) (sym (same_is (name_of change) name s)) ∙ t.none)) ∙ behind in
        inl (s, cc)
    cases false s = inr (s, sym (other_name pool t.new name (ap (λ n. same n name) t.called ∙ s)) ∙ behind)

-- the bytes of a name behind a change stood at its source before
from_change : (group : ℕ) (pool : PlainPool) (change : Change) (source : Option (List ℕ)) (bytes : List ℕ) → change_refusal change pool ≡ None → HasBytesAt source (changed group pool change) bytes → HasBytesAt (source_in change source) pool bytes
from_change group pool change None bytes e h = h
from_change group pool change (Some name) bytes e h =
    ⊎_elim
    (λ (t : MakesOne group pool change). subst (λ o. HasBytesAt o pool bytes) (sym (t.sources name)) (⊎_elim
    (λ new. subst (λ b. HasBytesAt (cond b t.of (Some name)) pool bytes) (sym new.0) (subst (HasBytesAt t.of pool) (ap (λ (v : PlainVolume). v.bytes) new.1 ∙ h.2) t.from))
    (λ old. subst (λ b. HasBytesAt (cond b t.of (Some name)) pool bytes) (sym old.0) (h.0, old.1, h.2))
    (behind_one group pool change t name h.0 h.1)))
    (λ (t : MakesNone group pool change). subst (λ o. HasBytesAt o pool bytes) (sym (t.sources name)) (h.0, t.stood name h.0 h.1, h.2))
    (takes group pool change e)

-- what another group made is its own source
own_source : (group : ℕ) (pool : PlainPool) (change : Change) (name : List ℕ) (y : PlainVolume) → change_refusal change pool ≡ None → volume_at name (changed group pool change) ≡ Some y → y.group ≢ group
    → (source_by change name ≡ Some name) × (volume_at name pool ≡ Some y)
own_source group pool change name y e f apart =
    ⊎_elim
    (λ (t : MakesOne group pool change). ⊎_elim
    (λ new. absurd (apart (sym (ap (λ (v : PlainVolume). v.group) new.1) ∙ t.made)))
    (λ old. (t.sources name ∙ ap (λ b. cond b t.of (Some name)) old.0, old.1))
    (behind_one group pool change t name y f))
    (λ (t : MakesNone group pool change). (t.sources name, t.stood name y f))
    (takes group pool change e)

-- ---- the actions of a group

pub nowhere_before : (actions : List Action) → source_before actions None ≡ None
nowhere_before [] = refl
nowhere_before (a ∷ actions) = ap (source_in a.change) (nowhere_before actions)

-- the last action comes first
source_more : (actions : List Action) (last : Action) (source : Option (List ℕ)) → source_before (actions ++ last ∷ []) source ≡ source_before actions (source_in last.change source)
source_more [] last source = refl
source_more (a ∷ actions) last source = ap (source_in a.change) (source_more actions last source)

pub last_before : (actions : List Action) (last : Action) (source : Option (List ℕ)) → 1 ≤ length actions → last ≡ get_or actions (length actions - 1) last
    → source_before actions source ≡ source_before (take (length actions - 1) actions) (source_in last.change source)
last_before actions last source some is =
    let whole : take (length actions - 1 + 1) actions ≡ actions = take_all (length actions - 1 + 1) actions (omega arith) in
    ap (λ xs. source_before xs source) (sym whole ∙ take_more actions (length actions - 1) last (omega arith))
    ∙ (ap (λ (a : Action). source_before (take (length actions - 1) actions ++ a ∷ []) source) (sym is)
    ∙ source_more (take (length actions - 1) actions) last source)

pub none_before : (actions : List Action) (source : Option (List ℕ)) → length actions < 1 → source_before actions source ≡ source
none_before [] source e = refl
none_before (a ∷ actions) source e = absurd (omega arith)

from_actions : (group : ℕ) (pool : PlainPool) (actions : List Action) (source : Option (List ℕ)) (bytes : List ℕ) → TakeEffect group pool actions → HasBytesAt source (changes group pool actions) bytes → HasBytesAt (source_before actions source) pool bytes
from_actions group pool [] source bytes effect h = h
from_actions group pool (a ∷ actions) source bytes effect h =
    from_change group pool a.change (source_before actions source) bytes effect.0 (from_actions group (changed group pool a.change) actions source bytes effect.1 h)

own_source_actions : (group : ℕ) (pool : PlainPool) (actions : List Action) (name : List ℕ) (y : PlainVolume) → TakeEffect group pool actions → volume_at name (changes group pool actions) ≡ Some y → y.group ≢ group
    → (source_before actions (Some name) ≡ Some name) × (volume_at name pool ≡ Some y)
own_source_actions group pool [] name y effect f apart = (refl, f)
own_source_actions group pool (a ∷ actions) name y effect f apart =
    let rest = own_source_actions group (changed group pool a.change) actions name y effect.1 f apart in
    let first = own_source group pool a.change name y effect.0 rest.1 apart in
    (ap (source_in a.change) rest.0 ∙ first.0, first.1)

-- ---- a group

-- the volume at a source lies under the group's writes to it; where it is nowhere zeros do
abbrev pub LiesUnder : Option (List ℕ) → PlainPool → Entry → List ℕ → Type 0
LiesUnder None pool entry bytes = bytes ≡ replicate (length bytes) 0
LiesUnder (Some name) pool entry bytes = (volume : PlainVolume) × (volume_at name pool ≡ Some volume) × ((after_writes volume entry.writes).bytes ≡ bytes)

lies_under : (source : Option (List ℕ)) (pool : PlainPool) (entry : Entry) (bytes : List ℕ) → HasBytesAt source (fold written pool entry.writes) bytes → LiesUnder source pool entry bytes
lies_under None pool entry bytes h = h
lies_under (Some name) pool entry bytes h = let under = under_writes name pool entry.writes h.0 h.1 in (under.0, under.1, ap (λ (v : PlainVolume). v.bytes) under.2 ∙ h.2)

-- the bytes that stand there
pub stands_with : (source : Option (List ℕ)) (pool : PlainPool) (size : ℕ) → StandsThere source pool size → HasBytesAt source pool (bytes_or_zeros (found_at source pool) size) × (length (bytes_or_zeros (found_at source pool) size) ≡ size)
stands_with None pool size h = (ap (λ n. replicate n 0) (sym (length-replicate {A = ℕ} size 0)), length-replicate {A = ℕ} size 0)
stands_with (Some name) pool size h =
    let is : bytes_or_zeros (volume_at name pool) size ≡ h.0.bytes = ap (λ o. bytes_or_zeros o size) h.1 in
    ((h.0, h.1, sym is), ap length is ∙ h.2)

-- what stands behind a group, from what lies under its writes
pub from_group : (group : ℕ) (pool : PlainPool) (entry : Entry) (source : Option (List ℕ)) (size : ℕ) → GroupTakesEffect group pool entry → StandsThere source (applied group pool entry) size
    → LiesUnder (source_before entry.actions source) pool entry (bytes_or_zeros (found_at source (applied group pool entry)) size)
from_group group pool entry source size effect h =
    lies_under (source_before entry.actions source) pool entry _
    (from_actions group (fold written pool entry.writes) entry.actions source _ effect (stands_with source (applied group pool entry) size h).0)

under_stands : (source : Option (List ℕ)) (pool : PlainPool) (entry : Entry) (bytes : List ℕ) (size : ℕ) → length bytes ≡ size → LiesUnder source pool entry bytes → StandsThere source pool size
under_stands None pool entry bytes size e h = tt
under_stands (Some name) pool entry bytes size e h = (h.0, h.1, sym (length_after_writes h.0 entry.writes) ∙ (ap length h.2 ∙ e))

pub group_stands : (group : ℕ) (pool : PlainPool) (entry : Entry) (source : Option (List ℕ)) (size : ℕ) → GroupTakesEffect group pool entry → StandsThere source (applied group pool entry) size
    → StandsThere (source_before entry.actions source) pool size
group_stands group pool entry source size effect h =
    under_stands (source_before entry.actions source) pool entry _ size (stands_with source (applied group pool entry) size h).1 (from_group group pool entry source size effect h)

own_source_group : (group : ℕ) (pool : PlainPool) (entry : Entry) (name : List ℕ) (y : PlainVolume) → GroupTakesEffect group pool entry → volume_at name (applied group pool entry) ≡ Some y → y.group ≢ group
    → (source_before entry.actions (Some name) ≡ Some name) × (x : PlainVolume) × (volume_at name pool ≡ Some x) × (x.group ≡ y.group)
own_source_group group pool entry name y effect f apart =
    let own = own_source_actions group (fold written pool entry.writes) entry.actions name y effect f apart in
    let was = under_writes name pool entry.writes y own.1 in
    (own.0, was.0, was.1, sym (ap (λ (s : VolumeShape). s.group) (shape_after_writes was.0 entry.writes)) ∙ ap (λ (v : PlainVolume). v.group) was.2)

-- ---- the groups behind a base one

pub from_base : (c : ℕ) (ledger : Ledger) (source : Option (List ℕ)) → source_from c ledger c source ≡ source
from_base zero ledger source = refl
from_base (suc c) ledger source = grind (arith, nat_tests)

pub from_above : (c n : ℕ) (ledger : Ledger) (source : Option (List ℕ)) → c ≤ n → source_from c ledger (suc n) source ≡ source_from c ledger n (source_before (ledger (suc n)).actions source)
from_above c n ledger source le = grind (arith, nat_tests, le)

pub from_one : (c : ℕ) (ledger : Ledger) (source : Option (List ℕ)) → source_from c ledger (suc c) source ≡ source_before (ledger (suc c)).actions source
from_one c ledger source = from_above c c ledger source (omega arith) ∙ from_base c ledger (source_before (ledger (suc c)).actions source)

-- what is so of all groups from a base one on, each from the one below it
up_cases : (P : ℕ → Type 0) (c n : ℕ) (b : Bool) → nat_le c n ≡ b → c ≤ suc n → P c → (c ≤ n → P n) → (c ≤ n → P n → P (suc n)) → P (suc n)
up_cases P c n true t le start rest step = let low : c ≤ n = grind (arith, nat_tests, t) in step low (rest low)
up_cases P c n false t le start rest step = let same : c ≡ suc n = let high : n < c = grind (arith, nat_tests, t) in omega arith in subst P same start

up : (P : ℕ → Type 0) (c n : ℕ) → c ≤ n → P c → ((k : ℕ) → c ≤ k → P k → P (suc k)) → P n
up P c zero le start step = let none : c ≡ 0 = omega arith in subst P none start
up P c (suc n) le start step = up_cases P c n (nat_le c n) refl le start (λ low. up P c n low start step) (step n)

pub from_chain : (c m n : ℕ) (ledger : Ledger) (source : Option (List ℕ)) → c ≤ m → m ≤ n → source_from c ledger m (source_from m ledger n source) ≡ source_from c ledger n source
from_chain c m n ledger source low le =
    up (λ k. (s : Option (List ℕ)) → source_from c ledger m (source_from m ledger k s) ≡ source_from c ledger k s) m n le
    (λ s. ap (source_from c ledger m) (from_base m ledger s))
    (λ k above h s. ap (source_from c ledger m) (from_above m k ledger s above) ∙ (h (source_before (ledger (suc k)).actions s) ∙ sym (from_above c k ledger s (omega arith)))) source

pub groups_stand : (c n : ℕ) (pool : PlainPool) (ledger : Ledger) (source : Option (List ℕ)) (size : ℕ) → AllTakeEffect c pool ledger → c ≤ n → StandsThere source (upto c pool ledger n) size → StandsThere (source_from c ledger n source) pool size
groups_stand c n pool ledger source size effects le =
    up (λ k. (s : Option (List ℕ)) → StandsThere s (upto c pool ledger k) size → StandsThere (source_from c ledger k s) pool size) c n le
    (λ s h. subst (λ o. StandsThere o pool size) (sym (from_base c ledger s)) (subst (λ (p : PlainPool). StandsThere s p size) (upto_base c pool ledger) h))
    (λ k low rest s h. subst (λ o. StandsThere o pool size) (sym (from_above c k ledger s low))
    (rest (source_before (ledger (suc k)).actions s) (group_stands (suc k) (upto c pool ledger k) (ledger (suc k)) s size (effects k low) (subst (λ (p : PlainPool). StandsThere s p size) (upto_above c k pool ledger low) h)))) source

-- what was made by the base group or an earlier one is its own source
pub own_at_base : (c n : ℕ) (pool : PlainPool) (ledger : Ledger) (name : List ℕ) (y : PlainVolume) → AllTakeEffect c pool ledger → c ≤ n → volume_at name (upto c pool ledger n) ≡ Some y → y.group ≤ c → source_from c ledger n (Some name) ≡ Some name
own_at_base c n pool ledger name y effects le f old = up IsOwn c n le (λ z g low. from_base c ledger (Some name)) further y f old
  where
    IsOwn : ℕ → Type 0
    IsOwn k = (z : PlainVolume) → volume_at name (upto c pool ledger k) ≡ Some z → z.group ≤ c → source_from c ledger k (Some name) ≡ Some name

    further : (k : ℕ) → c ≤ k → IsOwn k → IsOwn (suc k)
    further k low rest z g old =
        let own = own_source_group (suc k) (upto c pool ledger k) (ledger (suc k)) name z (effects k low) (sym (ap (volume_at name) (upto_above c k pool ledger low)) ∙ g) (λ e. absurd (omega arith)) in
        from_above c k ledger (Some name) low ∙ (ap (source_from c ledger k) own.0 ∙ rest own.1 own.2 (let same = own.3 in omega arith))
