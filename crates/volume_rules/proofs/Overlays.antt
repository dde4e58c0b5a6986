-- Pending writes over the bytes that lie under them.
use Rattle.std.proofs.Common.{◌≡◌, ◌⊎◌, ⊎_elim, inl, inr, ℕ, suc, ◌+◌, ◌<◌, Bool, true, false, true≢false, List, [], ◌∷◌, ◌++◌, length, take, get_or, Option, Some, None, refl, sym, ap, ◌∙◌, subst, arith}
use Rattle.std.specs.Prelude.{◌&&◌, cond, fold, not}
use Rattle.std.specs.Option.{option_map}
use Rattle.std.proofs.lemmas.List.{take_more}
use Rattle.pool_model.specs.declared.item.Write.{Write}
use Rattle.pool_model.specs.declared.volume.PlainVolume.{PlainVolume}
use Rattle.pool_model.specs.declared.volume.VolumeKind.{VolumeKind}
use Rattle.pool_model.specs.Names.{is_name_for, same, stored}
use Rattle.pool_model.specs.Pools.{PlainPool, Entry, is_snapshot, volume_at, volume_after, written, applied}
use Rattle.pool_model.proofs.Places.{same_is, is_same, name_after, volume_written}
use Rattle.volume_rules.specs.declared.shape.VolumeShape.{VolumeShape}
use Rattle.volume_rules.specs.Shapes.{shape_of}
use Rattle.volume_rules.specs.GoodChanges.{MakesGoodVolumes}
use Rattle.volume_rules.specs.NowMoves.{HasGoodNames, IsMadeBy, IsOlder}
use Rattle.volume_rules.specs.Overlay.{after_writes, HasRange}
use Rattle.volume_rules.proofs.Made.{behind_changes, names_changes}
use Rattle.volume_rules.proofs.Volumes.{shape_after}
use Rattle.volume_rules.proofs.NowMoves.{fold_push}

-- ---- a volume after writes

pub name_after_writes : (volume : PlainVolume) (writes : List Write) → (after_writes volume writes).name ≡ volume.name
name_after_writes volume [] = refl
name_after_writes volume (w ∷ writes) = name_after_writes (volume_after w volume) writes ∙ name_after w volume

pub shape_after_writes : (volume : PlainVolume) (writes : List Write) → shape_of (after_writes volume writes) ≡ shape_of volume
shape_after_writes volume [] = refl
shape_after_writes volume (w ∷ writes) = shape_after_writes (volume_after w volume) writes ∙ shape_after w volume

pub length_after_writes : (volume : PlainVolume) (writes : List Write) → length (after_writes volume writes).bytes ≡ length volume.bytes
length_after_writes volume writes = ap (λ (s : VolumeShape). s.size) (shape_after_writes volume writes)

kind_after_writes : (volume : PlainVolume) (writes : List Write) → (after_writes volume writes).kind ≡ volume.kind
kind_after_writes volume writes = ap (λ (s : VolumeShape). s.kind) (shape_after_writes volume writes)

-- a snapshot stays as it is
pub snapshot_stays : (volume : PlainVolume) (writes : List Write) → is_snapshot volume.kind ≡ true → after_writes volume writes ≡ volume
snapshot_stays volume [] taken = refl
snapshot_stays volume (w ∷ writes) taken = ap (λ v. after_writes v writes) one ∙ snapshot_stays volume writes taken
  where
    one : volume_after w volume ≡ volume
    one =
        ap (λ b. cond (same volume.name w.volume && not b) (record volume { bytes = stored w.offset w.bytes volume.bytes }) volume) taken
        ∙ elim (same volume.name w.volume) as (λ b. cond (b && false) (record volume { bytes = stored w.offset w.bytes volume.bytes }) volume ≡ volume) [ true ↦ refl | false ↦ refl ]

after_more : (volume : PlainVolume) (writes : List Write) (i : ℕ) (item : Write) → i < length writes → item ≡ get_or writes i item → after_writes volume (take (i + 1) writes) ≡ volume_after item (after_writes volume (take i writes))
after_more volume writes i item lt is =
    ap (after_writes volume) (take_more writes i item lt ∙ ap (λ w. take i writes ++ w ∷ []) (sym is)) ∙ fold_push (λ v w. volume_after w v) volume (take i writes) item

-- a write to the volume is laid over it
pub lay_more : (volume : PlainVolume) (writes : List Write) (i : ℕ) (item : Write) (name buffer new : List ℕ) (offset : ℕ) → i < length writes → item ≡ get_or writes i item → same volume.name name ≡ true → is_snapshot volume.kind ≡ false → same item.volume name ≡ true → buffer ≡ new
    → HasRange new (stored item.offset item.bytes (after_writes volume (take i writes)).bytes) offset → HasRange buffer (after_writes volume (take (i + 1) writes)).bytes offset
lay_more volume writes i item name buffer new offset lt is named writable wanted e h =
    let more = after_more volume writes i item lt is ∙ ap (λ b. cond b (record here { bytes = stored item.offset item.bytes here.bytes }) here) test in
    subst (λ (xs : List ℕ). HasRange xs (after_writes volume (take (i + 1) writes)).bytes offset) (sym e) (subst (λ (v : PlainVolume). HasRange new v.bytes offset) (sym more) h)
  where
    here : PlainVolume
    here = after_writes volume (take i writes)

    meant : same (after_writes volume (take i writes)).name item.volume ≡ true
    meant = is_same _ _ (name_after_writes volume (take i writes) ∙ (same_is volume.name name named ∙ sym (same_is item.volume name wanted)))

    test : (same (after_writes volume (take i writes)).name item.volume && not (is_snapshot (after_writes volume (take i writes)).kind)) ≡ true
    test = ap (λ b. b && not (is_snapshot (after_writes volume (take i writes)).kind)) meant ∙ (ap (λ k. not (is_snapshot k)) (kind_after_writes volume (take i writes)) ∙ ap not writable)

-- one to another volume isn't
pub skip_more : (volume : PlainVolume) (writes : List Write) (i : ℕ) (item : Write) (name buffer new : List ℕ) (offset : ℕ) → i < length writes → item ≡ get_or writes i item → same volume.name name ≡ true → same item.volume name ≡ false → buffer ≡ new
    → HasRange new (after_writes volume (take i writes)).bytes offset → HasRange buffer (after_writes volume (take (i + 1) writes)).bytes offset
skip_more volume writes i item name buffer new offset lt is named other e h =
    let more = after_more volume writes i item lt is ∙ ap (λ b. cond b (record here { bytes = stored item.offset item.bytes here.bytes }) here) test in
    subst (λ (xs : List ℕ). HasRange xs (after_writes volume (take (i + 1) writes)).bytes offset) (sym e) (subst (λ (v : PlainVolume). HasRange new v.bytes offset) (sym more) h)
  where
    here : PlainVolume
    here = after_writes volume (take i writes)

    flip : (a b : List ℕ) → same a b ≡ false → (t : Bool) → same b a ≡ t → same b a ≡ false
    flip a b e true f = absurd (true≢false (sym (is_same a b (sym (same_is b a f))) ∙ e))
    flip a b e false f = f

    apart : same (after_writes volume (take i writes)).name item.volume ≡ false
    apart = ap (λ n. same n item.volume) (name_after_writes volume (take i writes) ∙ same_is volume.name name named) ∙ flip item.volume name other (same name item.volume) refl

    test : (same (after_writes volume (take i writes)).name item.volume && not (is_snapshot (after_writes volume (take i writes)).kind)) ≡ false
    test = ap (λ b. b && not (is_snapshot (after_writes volume (take i writes)).kind)) apart

-- ---- the volume of a name after a group

map_after : (w : Write) (writes : List Write) (o : Option PlainVolume) → option_map (λ v. after_writes v writes) (option_map (volume_after w) o) ≡ option_map (λ v. after_writes v (w ∷ writes)) o
map_after w writes None = refl
map_after w writes (Some v) = refl

volume_at_writes : (name : List ℕ) (pool : PlainPool) (writes : List Write) → volume_at name (fold written pool writes) ≡ option_map (λ v. after_writes v writes) (volume_at name pool)
volume_at_writes name pool [] = none_or (volume_at name pool)
  where
    none_or : (o : Option PlainVolume) → o ≡ option_map (λ v. after_writes v []) o
    none_or None = refl
    none_or (Some v) = refl
volume_at_writes name pool (w ∷ writes) = volume_at_writes name (written pool w) writes ∙ (ap (option_map (λ v. after_writes v writes)) (volume_written pool w name) ∙ map_after w writes (volume_at name pool))

-- what stands behind writes stood before them
pub under_writes : (name : List ℕ) (pool : PlainPool) (writes : List Write) (z : PlainVolume) → volume_at name (fold written pool writes) ≡ Some z
    → (volume : PlainVolume) × (volume_at name pool ≡ Some volume) × (after_writes volume writes ≡ z)
under_writes name pool writes z e = cases (volume_at name pool) refl
  where
    cases : (o : Option PlainVolume) → volume_at name pool ≡ o → (volume : PlainVolume) × (volume_at name pool ≡ Some volume) × (after_writes volume writes ≡ z)
    cases None f = absurd (let differ : None ≡ Some z = sym (volume_at_writes name pool writes ∙ ap (option_map (λ v. after_writes v writes)) f) ∙ e in cc)
    cases (Some x) f = let both : Some (after_writes x writes) ≡ Some z = sym (volume_at_writes name pool writes ∙ ap (option_map (λ v. after_writes v writes)) f) ∙ e in (x, f, cc)

group_after_writes : (volume : PlainVolume) (writes : List Write) → (after_writes volume writes).group ≡ volume.group
group_after_writes volume writes = ap (λ (s : VolumeShape). s.group) (shape_after_writes volume writes)

-- what stands there behind a group has the group's writes and stood there before it, or was made by the group
pub behind_group : (group : ℕ) (pool : PlainPool) (entry : Entry) (name : List ℕ) (y : PlainVolume) → volume_at name (applied group pool entry) ≡ Some y
    → ((x : PlainVolume) × (volume_at name pool ≡ Some x) × (after_writes x entry.writes ≡ y) × (x.group ≡ y.group)) ⊎ (y.group ≡ group)
behind_group group pool entry name y e =
    ⊎_elim (λ was. let x = under_writes name pool entry.writes y was in inl (x.0, x.1, x.2, sym (group_after_writes x.0 entry.writes) ∙ ap (λ (v : PlainVolume). v.group) x.2)) (λ made. inr made)
    (behind_changes group (fold written pool entry.writes) entry.actions name y e)

older_applied : (n : ℕ) (pool : PlainPool) (entry : Entry) → IsOlder n pool → IsOlder (suc n) (applied (suc n) pool entry)
older_applied n pool entry older name y e =
    ⊎_elim (λ was. let low = older name was.0 was.1 in let g = was.3 in omega arith) (λ made. let g = made in omega arith)
    (behind_group (suc n) pool entry name y e)

names_writes : (pool : PlainPool) (writes : List Write) → HasGoodNames pool → HasGoodNames (fold written pool writes)
names_writes pool writes named name y e =
    let x = under_writes name pool writes y e in
    subst (λ (k : VolumeKind). is_name_for k name ≡ true) (sym (kind_after_writes x.0 writes) ∙ ap (λ (v : PlainVolume). v.kind) x.2) (named name x.0 x.1)

pub made_by_applied : (n : ℕ) (pool : PlainPool) (entry : Entry) → IsMadeBy n pool → MakesGoodVolumes entry → IsMadeBy (suc n) (applied (suc n) pool entry)
made_by_applied n pool entry m good = record {
  older = older_applied n pool entry m.older;
  named = names_changes (suc n) (fold written pool entry.writes) entry.actions good (names_writes pool entry.writes m.named);
}
