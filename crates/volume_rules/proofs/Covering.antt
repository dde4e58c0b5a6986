-- Bytes that a write sets: those before make no difference.
use Rattle.std.proofs.Common.{◌≡◌, ◌⊎◌, ⊎_elim, inl, inr, ℕ, zero, suc, ◌+◌, ◌-◌, ◌<◌, ◌≤◌, Bool, true, false, true≢false, nat_le, List, [], ◌∷◌, ◌++◌, take, drop, length, get_or, replicate, Option, Some, None, refl, sym, ap, ◌∙◌, subst, arith}
use Rattle.std.specs.Prelude.{◌&&◌, Any, cond, map, not}
use Rattle.std.specs.Option.{option_map}
use Rattle.std.proofs.lemmas.Bool.{cases_lt}
use Rattle.std.proofs.lemmas.Bool.Decides.{nat_tests}
use Rattle.std.proofs.lemmas.List.{get_or-take, get_or-drop, get_or_append_left, get_or-append_right, length-take-le, length-replicate, get_or-replicate}
use Rattle.pool_model.specs.declared.item.Write.{Write}
use Rattle.pool_model.specs.declared.volume.PlainVolume.{PlainVolume}
use Rattle.pool_model.specs.Flow.{flow_of}
use Rattle.pool_model.specs.Names.{is_name_for, same, stored}
use Rattle.pool_model.specs.Pools.{PlainPool, Ledger, is_snapshot, volume_at, volume_after}
use Rattle.pool_model.specs.View.{View, open_group, now_of}
use Rattle.pool_model.proofs.Places.{same_is, is_same, name_after}
use Rattle.volume_rules.specs.declared.shape.VolumeShape.{VolumeShape}
use Rattle.volume_rules.specs.Shapes.{outline, shape_of, HaveSameShapes}
use Rattle.volume_rules.specs.NowMoves.{GroupsAreBelow, IsMadeBy}
use Rattle.volume_rules.specs.Effects.{PendingTakeEffect}
use Rattle.volume_rules.specs.Sources.{base_name, found_at, pool_upto}
use Rattle.volume_rules.specs.Covering.{IsCovered}
use Rattle.volume_rules.specs.Overlay.{after_writes, bytes_or_zeros, base_of, HasRange, StandsThere}
use Rattle.volume_rules.proofs.Made.{found_named}
use Rattle.volume_rules.proofs.Effects.{effects_along}
use Rattle.volume_rules.proofs.Later.{later, name_later, shape_later, stood_below}
use Rattle.volume_rules.proofs.Laying.{base_stands}
use Rattle.volume_rules.proofs.NowMoves.{shapes_upto}
use Rattle.pool_model.proofs.Uptos.{upto_chain}
use Rattle.volume_rules.proofs.Ranges.{range_from, range_at}
use Rattle.volume_rules.proofs.Volumes.{outlined, outlined_at, same_shapes_at, shape_after, shapes_back}

-- ---- a byte after a write

append_alike : (xs ys rest other : List ℕ) (k d : ℕ) → length xs ≡ length ys → (k < length xs → get_or xs k d ≡ get_or ys k d)
    → (length xs ≤ k → get_or rest (k - length xs) d ≡ get_or other (k - length xs) d) → get_or (xs ++ rest) k d ≡ get_or (ys ++ other) k d
append_alike xs ys rest other k d same front behind =
    ⊎_elim (λ lt. get_or_append_left xs rest d k lt ∙ front lt ∙ sym (get_or_append_left ys other d k (omega arith)))
    (λ past. get_or-append_right xs rest (length xs) k d refl past ∙ behind past ∙ sym (get_or-append_right ys other (length xs) k d (sym same) past))
    (cases_lt k (length xs))

-- a byte of the write, or one that was the same before
put_alike : (at : ℕ) (new xs ys : List ℕ) (k d : ℕ) → length xs ≡ length ys → at + length new ≤ length xs
    → (get_or xs k d ≡ get_or ys k d) ⊎ ((at ≤ k) × (k < at + length new))
    → get_or (take at xs ++ (new ++ drop (at + length new) xs)) k d ≡ get_or (take at ys ++ (new ++ drop (at + length new) ys)) k d
put_alike at new xs ys k d same fits alike =
    append_alike (take at xs) (take at ys) (new ++ drop (at + length new) xs) (new ++ drop (at + length new) ys) k d (front ∙ sym (length-take-le at ys (omega arith)))
    (λ lt. let low : k < at = omega (arith, front) in
    get_or-take at xs k d low ∙ before (λ (here : (at ≤ k) × (k < at + length new)). let from = here.0 in omega arith) ∙ sym (get_or-take at ys k d low))
    (λ past. append_alike new new (drop (at + length new) xs) (drop (at + length new) ys) (k - length (take at xs)) d refl (λ lt. refl)
    (λ behind. let back : at + length new + (k - length (take at xs) - length new) ≡ k = omega (arith, front) in
    get_or-drop (at + length new) xs (k - length (take at xs) - length new) d ∙ ap (λ n. get_or xs n d) back
    ∙ before (λ (here : (at ≤ k) × (k < at + length new)). let to = here.1 in omega (arith, front))
    ∙ sym (get_or-drop (at + length new) ys (k - length (take at xs) - length new) d ∙ ap (λ n. get_or ys n d) back)))
  where
    front : length (take at xs) ≡ at
    front = length-take-le at xs (omega arith)

    before : ((at ≤ k) × (k < at + length new) → ⊥) → get_or xs k d ≡ get_or ys k d
    before apart = ⊎_elim (λ was. was) (λ here. absurd (apart here)) alike

-- the write lies within a volume of that name and size, and has the byte
pub record Sets (name : List ℕ) (size : ℕ) (write : Write) (k : ℕ) : Type 0 where
  pub named : write.volume ≡ name
  pub within : write.offset + length write.bytes ≤ size
  pub begins : write.offset ≤ k
  pub ends : k < write.offset + length write.bytes

stored_alike : (name : List ℕ) (write : Write) (xs ys : List ℕ) (k d : ℕ) → length xs ≡ length ys → (get_or xs k d ≡ get_or ys k d) ⊎ Sets name (length xs) write k
    → get_or (stored write.offset write.bytes xs) k d ≡ get_or (stored write.offset write.bytes ys) k d
stored_alike name write xs ys k d same alike = cases (nat_le (write.offset + length write.bytes) (length xs)) refl
  where
    after : Bool → List ℕ → List ℕ
    after b zs = cond b (take write.offset zs ++ (write.bytes ++ drop (write.offset + length write.bytes) zs)) zs

    test : (b : Bool) → nat_le (write.offset + length write.bytes) (length xs) ≡ b → nat_le (write.offset + length write.bytes) (length ys) ≡ b
    test b e = ap (nat_le (write.offset + length write.bytes)) (sym same) ∙ e

    cases : (b : Bool) → nat_le (write.offset + length write.bytes) (length xs) ≡ b → get_or (stored write.offset write.bytes xs) k d ≡ get_or (stored write.offset write.bytes ys) k d
    cases true e =
        let fits : write.offset + length write.bytes ≤ length xs = grind (arith, nat_tests, e) in
        ap (λ b. get_or (after b xs) k d) e
        ∙ put_alike write.offset write.bytes xs ys k d same fits (⊎_elim (λ was. inl was) (λ (sets : Sets name (length xs) write k). inr (sets.begins, sets.ends)) alike)
        ∙ sym (ap (λ b. get_or (after b ys) k d) (test true e))
    cases false e =
        ap (λ b. get_or (after b xs) k d) e
        ∙ ⊎_elim (λ was. was) (λ (sets : Sets name (length xs) write k). absurd (let within = sets.within in let past : length xs < write.offset + length write.bytes = grind (arith, nat_tests, e) in omega arith)) alike
        ∙ sym (ap (λ b. get_or (after b ys) k d) (test false e))

-- a volume of that name and size, which is no snapshot
pub record IsOf (name : List ℕ) (size : ℕ) (volume : PlainVolume) : Type 0 where
  pub named : volume.name ≡ name
  pub sized : length volume.bytes ≡ size
  pub writable : is_snapshot volume.kind ≡ false

meant_cases : (name : List ℕ) (size : ℕ) (volume : PlainVolume) (write : Write) (b : Bool) → IsOf name size volume → same name write.volume ≡ b → (same volume.name write.volume && not (is_snapshot volume.kind)) ≡ b
meant_cases name size volume write b is e =
    ap (λ k. same volume.name write.volume && not k) is.writable ∙ (and_true (same volume.name write.volume) ∙ (ap (λ n. same n write.volume) is.named ∙ e))
  where
    and_true : (t : Bool) → (t && true) ≡ t
    and_true true = refl
    and_true false = refl

after_one : (name : List ℕ) (size : ℕ) (volume other : PlainVolume) (write : Write) (k d : ℕ) → IsOf name size volume → IsOf name size other
    → (get_or volume.bytes k d ≡ get_or other.bytes k d) ⊎ Sets name size write k
    → get_or (volume_after write volume).bytes k d ≡ get_or (volume_after write other).bytes k d
after_one name size volume other write k d is also alike = cases (same name write.volume) refl
  where
    byte : Bool → PlainVolume → ℕ
    byte b v = let after : PlainVolume = cond b (record v { bytes = stored write.offset write.bytes v.bytes }) v in get_or after.bytes k d

    same_size : length volume.bytes ≡ length other.bytes
    same_size = is.sized ∙ sym also.sized

    cases : (b : Bool) → same name write.volume ≡ b → get_or (volume_after write volume).bytes k d ≡ get_or (volume_after write other).bytes k d
    cases true e =
        ap (λ b. byte b volume) (meant_cases name size volume write true is e)
        ∙ stored_alike name write volume.bytes other.bytes k d same_size (⊎_elim (λ was. inl was) (λ sets. inr (subst (λ n. Sets name n write k) (sym is.sized) sets)) alike)
        ∙ sym (ap (λ b. byte b other) (meant_cases name size other write true also e))
    cases false e =
        ap (λ b. byte b volume) (meant_cases name size volume write false is e)
        ∙ ⊎_elim (λ was. was) (λ (sets : Sets name size write k). absurd (true≢false (sym (is_same name write.volume (sym sets.named)) ∙ e))) alike
        ∙ sym (ap (λ b. byte b other) (meant_cases name size other write false also e))

-- ---- after writes of which one sets the byte

Any-cases : {X : Type 0} (P : X → Type 0) (x : X) (xs : List X) → Any P (x ∷ xs) → P x ⊎ Any P xs
Any-cases P x xs (k, y, within, at, is) = first_or_later k within at
  where
    first_or_later : (k : ℕ) → k < length (x ∷ xs) → get_or (x ∷ xs) k y ≡ y → P x ⊎ Any P xs
    first_or_later zero lt e = inl (subst P (sym e) is)
    first_or_later (suc i) lt e = inr (i, y, omega arith, e, is)

is_of_after : (name : List ℕ) (size : ℕ) (write : Write) (volume : PlainVolume) → IsOf name size volume → IsOf name size (volume_after write volume)
is_of_after name size write volume is = record {
  named = name_after write volume ∙ is.named;
  sized = ap (λ (s : VolumeShape). s.size) (shape_after write volume) ∙ is.sized;
  writable = ap (λ (s : VolumeShape). is_snapshot s.kind) (shape_after write volume) ∙ is.writable;
}

pub after_all : (name : List ℕ) (size : ℕ) (volume other : PlainVolume) (writes : List Write) (k d : ℕ) → IsOf name size volume → IsOf name size other
    → (get_or volume.bytes k d ≡ get_or other.bytes k d) ⊎ Any (λ write. Sets name size write k) writes
    → get_or (after_writes volume writes).bytes k d ≡ get_or (after_writes other writes).bytes k d
after_all name size volume other [] k d is also (inl was) = was
after_all name size volume other [] k d is also (inr any) = absurd (omega (arith, any.2))
after_all name size volume other (write ∷ writes) k d is also alike =
    after_all name size (volume_after write volume) (volume_after write other) writes k d (is_of_after name size write volume is) (is_of_after name size write other also)
    (⊎_elim (λ was. inl (one (inl was))) (λ any. ⊎_elim (λ sets. inl (one (inr sets))) (λ later. inr later) (Any-cases (λ w. Sets name size w k) write writes any)) alike)
  where
    one : (get_or volume.bytes k d ≡ get_or other.bytes k d) ⊎ Sets name size write k → get_or (volume_after write volume).bytes k d ≡ get_or (volume_after write other).bytes k d
    one = after_one name size volume other write k d is also

-- ---- after groups

is_of_later : (name : List ℕ) (size base n : ℕ) (ledger : Ledger) (x : PlainVolume) → IsOf name size x → IsOf name size (later x base ledger n)
is_of_later name size base n ledger x is = record {
  named = name_later base n ledger x ∙ is.named;
  sized = ap (λ (s : VolumeShape). s.size) (shape_later base n ledger x) ∙ is.sized;
  writable = ap (λ (s : VolumeShape). is_snapshot s.kind) (shape_later base n ledger x) ∙ is.writable;
}

-- a group behind the base one, up to another, sets the byte
abbrev SetBetween : List ℕ → ℕ → ℕ → ℕ → Ledger → ℕ → Type 0
SetBetween name size base n ledger k = (group : ℕ) × (base < group) × (group ≤ n) × Any (λ write. Sets name size write k) (ledger group).writes

later_alike : (name : List ℕ) (size base n : ℕ) (ledger : Ledger) (x y : PlainVolume) (k d : ℕ) → IsOf name size x → IsOf name size y
    → (get_or x.bytes k d ≡ get_or y.bytes k d) ⊎ SetBetween name size base n ledger k
    → get_or (later x base ledger n).bytes k d ≡ get_or (later y base ledger n).bytes k d
unfolding later
later_alike name size base zero ledger x y k d is also (inl was) = was
later_alike name size base zero ledger x y k d is also (inr set) = absurd (let low = set.1 in let high = set.2 in omega arith)
later_alike name size base (suc n) ledger x y k d is also alike = cases (nat_le (suc n) base) refl (later_alike name size base n ledger x y k d is also)
  where
    byte : Bool → PlainVolume → ℕ
    byte b v = let u : PlainVolume = cond b v (after_writes (later v base ledger n) (ledger (suc n)).writes) in get_or u.bytes k d

    now_or_before : SetBetween name size base (suc n) ledger k → Any (λ write. Sets name size write k) (ledger (suc n)).writes ⊎ SetBetween name size base n ledger k
    now_or_before set = ⊎_elim
        (λ lt. inr (set.0, set.1, (let below = lt in omega arith), set.3))
        (λ ge. inl (subst (λ g. Any (λ write. Sets name size write k) (ledger g).writes) (let high = set.2 in omega arith) set.3))
        (cases_lt set.0 (suc n))

    cases : (b : Bool) → nat_le (suc n) base ≡ b
        → ((get_or x.bytes k d ≡ get_or y.bytes k d) ⊎ SetBetween name size base n ledger k → get_or (later x base ledger n).bytes k d ≡ get_or (later y base ledger n).bytes k d)
        → byte (nat_le (suc n) base) x ≡ byte (nat_le (suc n) base) y
    cases true e earlier =
        ap (λ b. byte b x) e
        ∙ ⊎_elim (λ was. was) (λ set. absurd (let le : suc n ≤ base = grind (arith, nat_tests, e) in let low = set.1 in let high = set.2 in omega arith)) alike
        ∙ sym (ap (λ b. byte b y) e)
    cases false e earlier =
        ap (λ b. byte b x) e
        ∙ after_all name size (later x base ledger n) (later y base ledger n) (ledger (suc n)).writes k d (is_of_later name size base n ledger x is) (is_of_later name size base n ledger y also)
        (⊎_elim (λ was. inl (earlier (inl was))) (λ set. ⊎_elim (λ here. inr here) (λ before. inl (earlier (inr before))) (now_or_before set)) alike)
        ∙ sym (ap (λ b. byte b y) e)

-- ---- a range that a pending write covers

zeros_in : (n size offset : ℕ) → offset + n ≤ size → HasRange (replicate n 0) (replicate size 0) offset
zeros_in n size offset fits =
    range_from (replicate n 0) (replicate size 0) offset (let a = length-replicate {A = ℕ} n 0 in let b = length-replicate {A = ℕ} size 0 in omega arith)
    (λ k d lt. get_or-replicate n k 0 d (let a = length-replicate {A = ℕ} n 0 in omega arith) ∙ sym (get_or-replicate size (offset + k) 0 d (let a = length-replicate {A = ℕ} n 0 in omega arith)))

blank_shapes : (pool : PlainPool) → HaveSameShapes pool (outlined pool)
blank_shapes pool = record { outlines = sym (along pool.volumes) }
  where
    along : (volumes : List PlainVolume) → map outline (map outline volumes) ≡ map outline volumes
    along [] = refl
    along (v ∷ volumes) = λ i. record v { bytes = replicate (length-replicate {A = ℕ} (length v.bytes) 0 i) 0 } ∷ along volumes i

-- a volume of the same shape
shaped_at : (name : List ℕ) (pool other : PlainPool) (volume : PlainVolume) → HaveSameShapes pool other → volume_at name other ≡ Some volume → (was : PlainVolume) × (volume_at name pool ≡ Some was) × (shape_of was ≡ shape_of volume)
shaped_at name pool other volume h e = cases (volume_at name pool) refl (same_shapes_at name pool other h ∙ ap (option_map shape_of) e)
  where
    cases : (o : Option PlainVolume) → volume_at name pool ≡ o → option_map shape_of o ≡ Some (shape_of volume) → (was : PlainVolume) × (volume_at name pool ≡ Some was) × (shape_of was ≡ shape_of volume)
    cases None f g = absurd (cc)
    cases (Some was) f g = (was, f, cc)

made_along : (group : ℕ) (pool other : PlainPool) → HaveSameShapes pool other → IsMadeBy group pool → IsMadeBy group other
made_along group pool other h made = record {
  older = λ name volume e. let was = shaped_at name pool other volume h e in subst (λ (s : VolumeShape). s.group ≤ group) was.2 (made.older name was.0 was.1);
  named = λ name volume e. let was = shaped_at name pool other volume h e in subst (λ (s : VolumeShape). is_name_for s.kind name ≡ true) was.2 (made.named name was.0 was.1);
}

-- zeros lie wherever something stands, and nowhere
blank_bytes : (source : Option (List ℕ)) (pool : PlainPool) (size : ℕ) → StandsThere source (outlined pool) size → bytes_or_zeros (found_at source (outlined pool)) size ≡ replicate size 0
blank_bytes None pool size h = refl
blank_bytes (Some name) pool size h = ap (λ o. bytes_or_zeros o size) (outlined_at name pool) ∙ cases (volume_at name pool) (sym (outlined_at name pool) ∙ h.1)
  where
    cases : (o : Option PlainVolume) → option_map outline o ≡ Some h.0 → bytes_or_zeros (option_map outline o) size ≡ replicate size 0
    cases None e = absurd (cc)
    cases (Some volume) e =
        let is : outline volume ≡ h.0 = cc in
        ap (λ n. replicate n 0) (sym (length-replicate {A = ℕ} (length volume.bytes) 0) ∙ (ap (λ (v : PlainVolume). length v.bytes) is ∙ h.2))

-- a view whose committed pool has zeros for bytes
abbrev with_zeros : View → View
with_zeros v = record v { pools = λ group. outlined (v.pools group) }

-- What makes the bytes of a volume of the bytes under its pending writes, in each view, makes them of zeros too where a pending write covers the range.
pub covered_laid : (v : View) (name : List ℕ) (volume : PlainVolume) (offset : ℕ) (old new : List ℕ) → GroupsAreBelow v → PendingTakeEffect v → volume_at name (now_of v) ≡ Some volume
    → offset + length old ≤ length volume.bytes → length new ≡ length old → IsCovered v name (shape_of volume) offset (length old) → old ≡ replicate (length old) 0
    → ((w : View) (u : PlainVolume) → flow_of w ≡ flow_of v → GroupsAreBelow w → PendingTakeEffect w → volume_at name (now_of w) ≡ Some u → shape_of u ≡ shape_of volume → HasRange old (base_of w name u) offset → HasRange new u.bytes offset)
    → HasRange new volume.bytes offset
covered_laid v name volume offset old new below effects found fits whole covered zeros lays =
    range_from new volume.bytes offset (omega arith) (λ k d lt. range_at new other.0.bytes offset has k d lt ∙ alike k d (let a = whole in omega arith))
  where
    pools : HaveSameShapes (v.pools v.committed) (outlined (v.pools v.committed))
    pools = blank_shapes (v.pools v.committed)

    upto_shapes : (n : ℕ) → HaveSameShapes (pool_upto v n) (pool_upto (with_zeros v) n)
    upto_shapes n = shapes_upto v.committed (v.pools v.committed) (outlined (v.pools v.committed)) v.ledger v.ledger n pools (λ group. refl)

    back : (n : ℕ) → HaveSameShapes (pool_upto (with_zeros v) n) (pool_upto v n)
    back n = shapes_back (pool_upto v n) (pool_upto (with_zeros v) n) (upto_shapes n)

    still : PendingTakeEffect (with_zeros v)
    still = effects_along v.committed (v.pools v.committed) (outlined (v.pools v.committed)) v.ledger v.ledger pools (λ group. refl) effects

    -- what stands in the other view
    other : (u : PlainVolume) × (volume_at name (now_of (with_zeros v)) ≡ Some u) × (shape_of u ≡ shape_of volume)
    other = shaped_at name (now_of (with_zeros v)) (now_of v) volume (back (open_group v)) found

    size : length other.0.bytes ≡ length volume.bytes
    size = ap (λ (s : VolumeShape). s.size) other.2

    under : HasRange old (base_of (with_zeros v) name other.0) offset
    under =
        subst (λ xs. HasRange old xs offset) (sym (blank_bytes (base_name (with_zeros v) name) (v.pools v.committed) (length other.0.bytes) (base_stands (with_zeros v) name other.0 still other.1)))
        (subst (λ n. HasRange old (replicate n 0) offset) (sym size) (subst (λ xs. HasRange xs (replicate (length volume.bytes) 0) offset) (sym zeros) (zeros_in (length old) (length volume.bytes) offset fits)))

    has : HasRange new other.0.bytes offset
    has = lays (with_zeros v) other.0 refl (made_along v.committed (v.pools v.committed) (outlined (v.pools v.committed)) pools below) still other.1 other.2 under

    -- the group before the one that covers the range
    before : (n : ℕ) × (covered.group ≡ suc n) × (v.committed ≤ n)
    before = pred covered.group covered.pending
      where
        pred : (g : ℕ) → v.committed < g → (n : ℕ) × (g ≡ suc n) × (v.committed ≤ n)
        pred zero lt = absurd (omega arith)
        pred (suc n) lt = (n, refl, omega arith)

    behind : volume.group ≤ before.0
    behind = let a = covered.behind in let b = before.1 in omega arith

    within : before.0 ≤ open_group v
    within = let a = covered.accepted in let b = before.1 in omega arith

    -- the volume stood there already, in each view
    stood : (x : PlainVolume) × (volume_at name (pool_upto v before.0) ≡ Some x) × (later x before.0 v.ledger (open_group v) ≡ volume)
    stood =
        stood_below before.0 (open_group v) (pool_upto v before.0) v.ledger name volume within
        (ap (volume_at name) (upto_chain v.committed before.0 (v.pools v.committed) v.ledger (open_group v) before.2 within) ∙ found) behind

    stood_other : (x : PlainVolume) × (volume_at name (pool_upto (with_zeros v) before.0) ≡ Some x) × (later x before.0 v.ledger (open_group v) ≡ other.0)
    stood_other =
        stood_below before.0 (open_group v) (pool_upto (with_zeros v) before.0) v.ledger name other.0 within
        (ap (volume_at name) (upto_chain v.committed before.0 (outlined (v.pools v.committed)) v.ledger (open_group v) before.2 within) ∙ other.1)
        (subst (λ (s : VolumeShape). s.group ≤ before.0) (sym other.2) behind)

    shaped : shape_of stood.0 ≡ shape_of volume
    shaped = sym (shape_later before.0 (open_group v) v.ledger stood.0) ∙ ap shape_of stood.2

    shaped_other : shape_of stood_other.0 ≡ shape_of volume
    shaped_other = sym (shape_later before.0 (open_group v) v.ledger stood_other.0) ∙ (ap shape_of stood_other.2 ∙ other.2)

    is_of : (x : PlainVolume) (p : PlainPool) → volume_at name p ≡ Some x → shape_of x ≡ shape_of volume → IsOf name (length volume.bytes) x
    is_of x p e s = record {
      named = same_is x.name name (found_named name p x e);
      sized = ap (λ (t : VolumeShape). t.size) s;
      writable = ap (λ (t : VolumeShape). is_snapshot t.kind) s ∙ covered.writable;
    }

    set : (k : ℕ) → k < length old → SetBetween name (length volume.bytes) before.0 (open_group v) v.ledger (offset + k)
    set k lt = let any = covered.covering in (
      covered.group,
      (let a = before.1 in omega arith),
      covered.accepted,
      (
        any.0,
        any.1,
        any.2,
        any.3,
        record {
          named = any.4.0;
          within = any.4.1.within;
          begins = let a = any.4.1.begins in omega arith;
          ends = let a = any.4.1.ends in omega arith;
        },
      ),
    )

    alike : (k d : ℕ) → k < length old → get_or other.0.bytes (offset + k) d ≡ get_or volume.bytes (offset + k) d
    alike k d lt =
        ap (λ (u : PlainVolume). get_or u.bytes (offset + k) d) (sym stood_other.2)
        ∙ (later_alike name (length volume.bytes) before.0 (open_group v) v.ledger stood_other.0 stood.0 (offset + k) d
        (is_of stood_other.0 (pool_upto (with_zeros v) before.0) stood_other.1 shaped_other) (is_of stood.0 (pool_upto v before.0) stood.1 shaped) (inr (set k lt))
        ∙ ap (λ (u : PlainVolume). get_or u.bytes (offset + k) d) stood.2)
