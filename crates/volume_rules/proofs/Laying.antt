-- Pending writes laid over what stands where the bytes stood.
use Rattle.std.proofs.Common.{◌≡◌, ℕ, suc, ◌≤◌, true, false, List, length, replicate, Option, Some, None, refl, sym, ap, ◌∙◌, subst, arith}
use Rattle.std.specs.Prelude.{cond, is_some}
use Rattle.std.proofs.lemmas.Bool.{and_parts}
use Rattle.pool_model.specs.declared.volume.PlainVolume.{PlainVolume}
use Rattle.pool_model.specs.declared.volume.VolumeKind.{VolumeKind}
use Rattle.pool_model.specs.declared.volume.VolumeKind.TheVariants.{Volume, Snapshot as SnapshotKind}
use Rattle.pool_model.specs.Groups.{taken_upto}
use Rattle.pool_model.specs.Names.{is_name, is_name_for, is_snapshot_name, same, volume_part}
use Rattle.pool_model.specs.Pools.{PlainPool, Entry, Ledger, is_snapshot, volume_at, applied, upto}
use Rattle.pool_model.specs.View.{View, is_syncing, now_of, open_group, waiting_group}
use Rattle.pool_model.proofs.Letters.{volume_name}
use Rattle.pool_model.proofs.Uptos.{upto_above, upto_base, upto_chain}
use Rattle.volume_rules.specs.Effects.{GroupTakesEffect, PendingTakeEffect}
use Rattle.volume_rules.specs.NowMoves.{AreGood, GroupsAreBelow, HasGoodNames}
use Rattle.volume_rules.specs.Overlay.{after_writes, base_of, bytes_or_zeros, closed_in, HasRange, HasRangeAt, StandsThere}
use Rattle.volume_rules.specs.Sources.{base_name, found_at, pool_upto, source_before, source_between, source_from}
use Rattle.volume_rules.proofs.Effects.{AllTakeEffect}
use Rattle.volume_rules.proofs.Later.{made_by_upto}
use Rattle.volume_rules.proofs.Made.{found_named}
use Rattle.volume_rules.proofs.Overlays.{length_after_writes, snapshot_stays}
use Rattle.volume_rules.proofs.Pending.{closed_above, open_is_pending, opens_after, taken_above, waits_after}
use Rattle.volume_rules.proofs.Sources.{LiesUnder, from_above, from_base, from_chain, from_group, from_one, group_stands, groups_stand, own_at_base, stands_with}

-- ---- one group

-- a name tells what it stands for
kind_named : (kind : VolumeKind) (name : List ℕ) → is_name_for kind name ≡ true → is_snapshot kind ≡ is_snapshot_name name
kind_named Volume name e = sym (volume_name name e)
kind_named SnapshotKind name e = sym (and_parts (is_name (volume_part name)) (is_snapshot_name name) e).1

-- what laying a group's writes over a buffer does, in each pool that the group takes effect in
abbrev pub LaysGroup : Entry → Option (List ℕ) → ℕ → ℕ → List ℕ → List ℕ → Type 0
LaysGroup entry source size offset old new = (group : ℕ) (pool : PlainPool) → HasGoodNames pool → GroupTakesEffect group pool entry → StandsThere source (applied group pool entry) size
    → HasRangeAt old (source_before entry.actions source) pool size offset → HasRangeAt new source (applied group pool entry) size offset

module _ (entry : Entry) (source : Option (List ℕ)) (size offset : ℕ) where
  -- where the bytes stood nowhere they are zeros
  pub lays_nowhere : (buffer : List ℕ) → source_before entry.actions source ≡ None → LaysGroup entry source size offset buffer buffer
  lays_nowhere buffer e group pool named effect stands r =
      subst (λ xs. HasRange buffer xs offset) zeros (subst (λ o. HasRangeAt buffer o pool size offset) e r)
    where
      under : LiesUnder None pool entry (bytes_or_zeros (found_at source (applied group pool entry)) size)
      under = subst (λ o. LiesUnder o pool entry (bytes_or_zeros (found_at source (applied group pool entry)) size)) e (from_group group pool entry source size effect stands)

      zeros : replicate size 0 ≡ bytes_or_zeros (found_at source (applied group pool entry)) size
      zeros = ap (λ n. replicate n 0) (sym (stands_with source (applied group pool entry) size stands).1) ∙ sym under

  -- what is known where they stood at a name
  lays_by : (name old new : List ℕ) (group : ℕ) (pool : PlainPool) → GroupTakesEffect group pool entry → StandsThere source (applied group pool entry) size → source_before entry.actions source ≡ Some name
      → ((volume : PlainVolume) → volume_at name pool ≡ Some volume → length volume.bytes ≡ size → HasRange old volume.bytes offset → HasRange new (after_writes volume entry.writes).bytes offset)
      → HasRangeAt old (source_before entry.actions source) pool size offset → HasRangeAt new source (applied group pool entry) size offset
  lays_by name old new group pool effect stands e lays r =
      subst (λ xs. HasRange new xs offset) under.2
      (lays under.0 under.1 sized (subst (λ o. HasRange old (bytes_or_zeros o size) offset) under.1 (subst (λ o. HasRangeAt old o pool size offset) e r)))
    where
      under : LiesUnder (Some name) pool entry (bytes_or_zeros (found_at source (applied group pool entry)) size)
      under = subst (λ o. LiesUnder o pool entry (bytes_or_zeros (found_at source (applied group pool entry)) size)) e (from_group group pool entry source size effect stands)

      sized : length under.0.bytes ≡ size
      sized = sym (length_after_writes under.0 entry.writes) ∙ (ap length under.2 ∙ (stands_with source (applied group pool entry) size stands).1)

  -- nothing is written over a snapshot
  pub lays_over_snapshot : (name buffer : List ℕ) → source_before entry.actions source ≡ Some name → is_snapshot_name name ≡ true → LaysGroup entry source size offset buffer buffer
  lays_over_snapshot name buffer e taken group pool named effect stands r =
      lays_by name buffer buffer group pool effect stands e
      (λ volume f sized h. subst (λ (v : PlainVolume). HasRange buffer v.bytes offset) (sym (snapshot_stays volume entry.writes (kind_named volume.kind name (named name volume f) ∙ taken))) h)
      r

  pub lays_over_volume : (name old new : List ℕ) → source_before entry.actions source ≡ Some name → is_snapshot_name name ≡ false
      → ((volume : PlainVolume) → same volume.name name ≡ true → is_snapshot volume.kind ≡ false → length volume.bytes ≡ size → HasRange old volume.bytes offset → HasRange new (after_writes volume entry.writes).bytes offset)
      → LaysGroup entry source size offset old new
  lays_over_volume name old new e writable lays group pool named effect stands r =
      lays_by name old new group pool effect stands e
      (λ volume f sized h. lays volume (found_named name pool volume f) (kind_named volume.kind name (named name volume f) ∙ writable) sized h)
      r

-- ---- the pending groups, one after another

-- a buffer had what stood there behind one group, and then has what stands there behind a later one
abbrev pub LaysBetween : View → ℕ → ℕ → Option (List ℕ) → ℕ → ℕ → List ℕ → List ℕ → Type 0
LaysBetween v earlier later source size offset old new = StandsThere source (pool_upto v later) size → HasRangeAt old (source_between v earlier later source) (pool_upto v earlier) size offset
    → HasRangeAt new source (pool_upto v later) size offset

-- and what stood there in the committed pool
abbrev pub LaysSyncing : View → Option (List ℕ) → ℕ → ℕ → List ℕ → List ℕ → Type 0
LaysSyncing v source size offset old new = StandsThere source (pool_upto v (taken_upto v)) size → HasRangeAt old (source_between v v.committed (taken_upto v) source) (v.pools v.committed) size offset
    → HasRangeAt new source (pool_upto v (taken_upto v)) size offset

module _ (v : View) (source : Option (List ℕ)) (size offset : ℕ) (below : GroupsAreBelow v) (good : AreGood v.ledger) (effects : PendingTakeEffect v) where
  lays_one : (n : ℕ) (items : Entry) (old new : List ℕ) → v.committed ≤ n → items ≡ v.ledger (suc n) → LaysGroup items source size offset old new → LaysBetween v n (suc n) source size offset old new
  lays_one n items old new le is lays stands r =
      let above = upto_above v.committed n (v.pools v.committed) v.ledger le in
      let next : LaysGroup (v.ledger (suc n)) source size offset old new = subst (λ (e : Entry). LaysGroup e source size offset old new) is lays in
      let before : StandsThere source (applied (suc n) (pool_upto v n) (v.ledger (suc n))) size = subst (λ (p : PlainPool). StandsThere source p size) above stands in
      let range : HasRangeAt old (source_before (v.ledger (suc n)).actions source) (pool_upto v n) size offset = subst (λ o. HasRangeAt old o (pool_upto v n) size offset) (from_one n v.ledger source) r in
      subst (λ (p : PlainPool). HasRangeAt new source p size offset) (sym above)
      (next (suc n) (pool_upto v n) (made_by_upto v.committed n (v.pools v.committed) v.ledger good below le).named (effects n le) before range)

  lays_none : (n : ℕ) (buffer : List ℕ) → LaysBetween v n n source size offset buffer buffer
  lays_none n buffer stands r = subst (λ o. HasRangeAt buffer o (pool_upto v n) size offset) (from_base n v.ledger source) r

  at_base : (old new : List ℕ) → LaysBetween v v.committed (taken_upto v) source size offset old new → LaysSyncing v source size offset old new
  at_base old new lays stands r = lays stands (subst (λ (p : PlainPool). HasRangeAt old (source_between v v.committed (taken_upto v) source) p size offset) (sym (upto_base v.committed (v.pools v.committed) v.ledger)) r)

  pub lays_syncing : (items : Entry) (old new : List ℕ) → is_syncing v.sync ≡ true → items ≡ v.ledger (suc v.committed) → LaysGroup items source size offset old new → LaysSyncing v source size offset old new
  lays_syncing items old new s is lays =
      at_base old new (subst (λ b. LaysBetween v v.committed (cond b (suc v.committed) v.committed) source size offset old new) (sym s) (lays_one v.committed items old new (omega arith) is lays))

  pub lays_no_syncing : (buffer : List ℕ) → is_syncing v.sync ≡ false → LaysSyncing v source size offset buffer buffer
  lays_no_syncing buffer s = at_base buffer buffer (subst (λ b. LaysBetween v v.committed (cond b (suc v.committed) v.committed) source size offset buffer buffer) (sym s) (lays_none v.committed buffer))

  pub lays_waiting : (items : Entry) (old new : List ℕ) → is_some v.waiting ≡ true → items ≡ v.ledger (waiting_group v) → LaysGroup items source size offset old new → LaysBetween v (taken_upto v) (closed_in v) source size offset old new
  lays_waiting items old new w is lays =
      subst (λ b. LaysBetween v (taken_upto v) (cond b (suc (taken_upto v)) (taken_upto v)) source size offset old new) (sym w)
      (lays_one (taken_upto v) items old new (taken_above v) (is ∙ ap v.ledger (waits_after v)) lays)

  pub lays_no_waiting : (buffer : List ℕ) → is_some v.waiting ≡ false → LaysBetween v (taken_upto v) (closed_in v) source size offset buffer buffer
  lays_no_waiting buffer w = subst (λ b. LaysBetween v (taken_upto v) (cond b (suc (taken_upto v)) (taken_upto v)) source size offset buffer buffer) (sym w) (lays_none (taken_upto v) buffer)

-- ---- where the bytes stood before them

pub before_syncing : (v : View) (source result : Option (List ℕ)) (items : Entry) → is_syncing v.sync ≡ true → items ≡ v.ledger (suc v.committed) → result ≡ source_before items.actions source → result ≡ source_between v v.committed (taken_upto v) source
before_syncing v source result items s is e =
    e ∙ (ap (λ (x : Entry). source_before x.actions source) is ∙ (sym (from_one v.committed v.ledger source) ∙ ap (λ b. source_from v.committed v.ledger (cond b (suc v.committed) v.committed) source) (sym s)))

pub before_no_syncing : (v : View) (source : Option (List ℕ)) → is_syncing v.sync ≡ false → source ≡ source_between v v.committed (taken_upto v) source
before_no_syncing v source s = sym (from_base v.committed v.ledger source) ∙ ap (λ b. source_from v.committed v.ledger (cond b (suc v.committed) v.committed) source) (sym s)

pub before_waiting : (v : View) (source result : Option (List ℕ)) (items : Entry) → is_some v.waiting ≡ true → items ≡ v.ledger (waiting_group v) → result ≡ source_before items.actions source → result ≡ source_between v (taken_upto v) (closed_in v) source
before_waiting v source result items w is e =
    e ∙ (ap (λ (x : Entry). source_before x.actions source) (is ∙ ap v.ledger (waits_after v))
    ∙ (sym (from_one (taken_upto v) v.ledger source) ∙ ap (λ b. source_from (taken_upto v) v.ledger (cond b (suc (taken_upto v)) (taken_upto v)) source) (sym w)))

pub before_no_waiting : (v : View) (source : Option (List ℕ)) → is_some v.waiting ≡ false → source ≡ source_between v (taken_upto v) (closed_in v) source
before_no_waiting v source w = sym (from_base (taken_upto v) v.ledger source) ∙ ap (λ b. source_from (taken_upto v) v.ledger (cond b (suc (taken_upto v)) (taken_upto v)) source) (sym w)

-- and before all of them
pub before_all : (v : View) (name : List ℕ) (closed syncing result : Option (List ℕ)) (items : Entry) → items ≡ v.ledger (open_group v) → closed ≡ source_before items.actions (Some name)
    → syncing ≡ source_between v (taken_upto v) (closed_in v) closed → result ≡ source_between v v.committed (taken_upto v) syncing → result ≡ base_name v name
before_all v name closed syncing result items is e f g =
    g ∙ (ap (source_from v.committed v.ledger (taken_upto v)) f
    ∙ (from_chain v.committed (taken_upto v) (closed_in v) v.ledger closed (taken_above v) (closed_above v)
    ∙ (ap (source_from v.committed v.ledger (closed_in v)) (e ∙ ap (λ (x : Entry). source_before x.actions (Some name)) (is ∙ ap v.ledger (opens_after v)))
    ∙ (sym (from_above v.committed (closed_in v) v.ledger (Some name) (let a = taken_above v in let b = closed_above v in omega arith))
    ∙ ap (λ n. source_from v.committed v.ledger n (Some name)) (sym (opens_after v))))))

-- ---- what stands in NOW

pub committed_bytes : (v : View) (name : List ℕ) (volume base : PlainVolume) → GroupsAreBelow v → PendingTakeEffect v → volume_at name (now_of v) ≡ Some volume → volume.group ≤ v.committed → volume_at name (v.pools v.committed) ≡ Some base
    → base_of v name volume ≡ base.bytes
committed_bytes v name volume base below effects found old f =
    ap (λ o. bytes_or_zeros (found_at o (v.pools v.committed)) (length volume.bytes))
    (own_at_base v.committed (open_group v) (v.pools v.committed) v.ledger name volume effects (let le = open_is_pending v in omega arith) found old)
    ∙ ap (λ o. bytes_or_zeros o (length volume.bytes)) f

pub base_stands : (v : View) (name : List ℕ) (volume : PlainVolume) → PendingTakeEffect v → volume_at name (now_of v) ≡ Some volume → StandsThere (base_name v name) (v.pools v.committed) (length volume.bytes)
base_stands v name volume effects f =
    groups_stand v.committed (open_group v) (v.pools v.committed) v.ledger (Some name) (length volume.bytes) effects (let le = open_is_pending v in omega arith) (volume, f, refl)

effects_behind : (c m : ℕ) (pool : PlainPool) (ledger : Ledger) → c ≤ m → AllTakeEffect c pool ledger → AllTakeEffect m (upto c pool ledger m) ledger
effects_behind c m pool ledger low effects n le = subst (λ (p : PlainPool). GroupTakesEffect (suc n) p (ledger (suc n))) (sym (upto_chain c m pool ledger n low le)) (effects n (omega arith))

-- the pending writes make the bytes of a name of NOW of those that lie under them
pub laid_now : (v : View) (name : List ℕ) (volume : PlainVolume) (size offset : ℕ) (closed syncing : Option (List ℕ)) (items : Entry) (old first second new : List ℕ) → GroupsAreBelow v → AreGood v.ledger → PendingTakeEffect v
    → volume_at name (now_of v) ≡ Some volume → length volume.bytes ≡ size → items ≡ v.ledger (open_group v) → closed ≡ source_before items.actions (Some name) → syncing ≡ source_between v (taken_upto v) (closed_in v) closed
    → LaysSyncing v syncing size offset old first → LaysBetween v (taken_upto v) (closed_in v) closed size offset first second → LaysGroup items (Some name) size offset second new
    → HasRange old (base_of v name volume) offset → HasRange new volume.bytes offset
laid_now v name volume size offset closed syncing items old first second new below good effects found sized is e f lays_first lays_second lays_open r =
    subst (λ o. HasRange new (bytes_or_zeros o size) offset) (sym behind ∙ found)
    (lays_last (suc (closed_in v)) (pool_upto v (closed_in v)) (made_by_upto v.committed (closed_in v) (v.pools v.committed) v.ledger good below low).named (effects (closed_in v) low) stands
    (subst (λ o. HasRangeAt second o (pool_upto v (closed_in v)) size offset) closed_is (lays_second stands_closed (subst (λ o. HasRangeAt first o (pool_upto v (taken_upto v)) size offset) f (lays_first stands_taken under)))))
  where
    low : v.committed ≤ closed_in v
    low = let a = taken_above v in let b = closed_above v in omega arith

    above : pool_upto v (suc (closed_in v)) ≡ applied (suc (closed_in v)) (pool_upto v (closed_in v)) (v.ledger (suc (closed_in v)))
    above = upto_above v.committed (closed_in v) (v.pools v.committed) v.ledger low

    behind : volume_at name (now_of v) ≡ volume_at name (applied (suc (closed_in v)) (pool_upto v (closed_in v)) (v.ledger (suc (closed_in v))))
    behind = ap (λ n. volume_at name (pool_upto v n)) (opens_after v) ∙ ap (volume_at name) above

    stands : StandsThere (Some name) (applied (suc (closed_in v)) (pool_upto v (closed_in v)) (v.ledger (suc (closed_in v)))) size
    stands = (volume, sym behind ∙ found, sized)

    last_items : items ≡ v.ledger (suc (closed_in v))
    last_items = is ∙ ap v.ledger (opens_after v)

    lays_last : LaysGroup (v.ledger (suc (closed_in v))) (Some name) size offset second new
    lays_last = subst (λ (x : Entry). LaysGroup x (Some name) size offset second new) last_items lays_open

    closed_is : closed ≡ source_before (v.ledger (suc (closed_in v))).actions (Some name)
    closed_is = e ∙ ap (λ (x : Entry). source_before x.actions (Some name)) last_items

    stands_closed : StandsThere closed (pool_upto v (closed_in v)) size
    stands_closed =
        subst (λ o. StandsThere o (pool_upto v (closed_in v)) size) (sym closed_is)
        (group_stands (suc (closed_in v)) (pool_upto v (closed_in v)) (v.ledger (suc (closed_in v))) (Some name) size (effects (closed_in v) low) stands)

    stands_taken : StandsThere syncing (pool_upto v (taken_upto v)) size
    stands_taken =
        subst (λ o. StandsThere o (pool_upto v (taken_upto v)) size) (sym f)
        (groups_stand (taken_upto v) (closed_in v) (pool_upto v (taken_upto v)) v.ledger closed size
        (effects_behind v.committed (taken_upto v) (v.pools v.committed) v.ledger (taken_above v) effects) (closed_above v)
        (subst (λ (p : PlainPool). StandsThere closed p size) (sym (upto_chain v.committed (taken_upto v) (v.pools v.committed) v.ledger (closed_in v) (taken_above v) (closed_above v))) stands_closed))

    base_is : source_between v v.committed (taken_upto v) syncing ≡ base_name v name
    base_is = before_all v name closed syncing (source_between v v.committed (taken_upto v) syncing) items is e f refl

    under : HasRangeAt old (source_between v v.committed (taken_upto v) syncing) (v.pools v.committed) size offset
    under = subst (λ (x : Option (List ℕ) × ℕ). HasRange old (bytes_or_zeros (found_at x.0 (v.pools v.committed)) x.1) offset) (λ i. (sym base_is i, sized i)) r
