-- Writes that are laid piece by piece, each piece at the positions of the writes that touch it.
use Rattle.std.proofs.Common.{◌≡◌, ◌⊎◌, ⊎_elim, inl, inr, ℕ, zero, suc, ◌+◌, ◌-◌, ◌/◌, ◌%◌, ◌<◌, ◌≤◌, Bool, true, false, true≢false, List, [], ◌∷◌, ◌++◌, length, take, drop, get_or, refl, sym, ap, ◌∙◌, subst, arith}
use Rattle.std.proofs.lemmas.Bool.{cases_lt}
use Rattle.std.proofs.lemmas.Bool.Decides.{nat_tests}
use Rattle.std.proofs.lemmas.List.{get_or_default}
use Rattle.std.proofs.lemmas.List.Edits.{length-between, get_or-between}
use Rattle.std.proofs.Math.Seq.{take-length}
use Rattle.std.specs.Prelude.{cond, nat_le, slice_range, IsTrue, ◌↔◌}
use Rattle.std.specs.List.{Contains}
use borrow.Rule.Slice.PartMut.{put_mid}
use Rattle.pool_model.specs.declared.item.Write.{Write}
use Rattle.pool_model.specs.declared.volume.PlainVolume.{PlainVolume}
use Rattle.pool_model.specs.Names.{same, stored}
use Rattle.pool_model.specs.Pools.{is_snapshot}
use Rattle.pool_model.proofs.Places.{same_is, is_same}
use Rattle.txg_pipeline.specs.Positions.{HasByteIn, IsAt, AreTouching}
use Rattle.volume_rules.specs.Covering.{AreCovering, CoversRange}
use Rattle.volume_rules.specs.Overlay.{after_writes, HasRange}
use Rattle.volume_rules.proofs.Overlays.{length_after_writes, lay_more, skip_more}
use Rattle.volume_rules.proofs.Ranges.{range_from, range_at, untouched, put_before, put_within, put_after, length-put}

-- ---- positions

pub some_at : {A : Type 0} (xs : List A) (i : ℕ) → i < length xs → (x : A) × (x ≡ get_or xs i x)
some_at [] i lt = absurd (omega arith)
some_at (x ∷ xs) zero lt = (x, refl)
some_at (x ∷ xs) (suc i) lt = some_at xs i (omega arith)

-- the element at an index is among them
pub is_listed : (positions : List ℕ) (i p : ℕ) → i < length positions → p ≡ get_or positions i 0 → Contains positions p
is_listed positions i p lt e = (i, lt, get_or_default positions i p 0 lt ∙ sym e)

-- the position at an index is one of a write
pub position_within : (Is : Write → Type 0) (writes same_writes : List Write) (positions : List ℕ) (i : ℕ) → same_writes ≡ writes → ((p : ℕ) → Contains positions p → IsAt Is writes p) → i < length positions → get_or positions i 0 < length same_writes
position_within Is writes same_writes positions i e at lt =
    subst (λ (ws : List Write). get_or positions i 0 < length ws) (sym e) ((at (get_or positions i 0) (is_listed positions i (get_or positions i 0) lt refl)).1)

-- the positions below i are below n, and the others aren't
pub record Reaches (positions : List ℕ) (i n : ℕ) : Type 0 where
  pub before : (k : ℕ) → k < i → k < length positions → get_or positions k 0 < n
  pub behind : (k : ℕ) → i ≤ k → k < length positions → n ≤ get_or positions k 0

-- one of those to the volume that have a byte in the piece
abbrev Touching : List ℕ → ℕ → Write → Type 0
Touching name piece write = (write.volume ≡ name) × HasByteIn piece write

-- ---- a range in one piece

stored_out : (at : ℕ) (new bytes : List ℕ) → length bytes < at + length new → stored at new bytes ≡ bytes
stored_out at new bytes lt = let t : nat_le (at + length new) (length bytes) ≡ false = grind (arith, nat_tests, lt) in
    ap (λ b. cond b (take at bytes ++ (new ++ drop (at + length new) bytes)) bytes) t

-- a write that has no byte in the piece leaves the range
stays : (buffer bytes : List ℕ) (write : Write) (offset : ℕ) → offset % 131072 + length buffer ≤ 131072 → offset + length buffer ≤ length bytes
    → (HasByteIn (offset / 131072) write → ⊥) → HasRange buffer bytes offset → HasRange buffer (stored write.offset write.bytes bytes) offset
stays buffer bytes write offset within fits not h = ⊎_elim
    (λ out. subst (λ (xs : List ℕ). HasRange buffer xs offset) (sym (stored_out write.offset write.bytes bytes out)) h)
    (λ le. untouched buffer bytes write.bytes write.offset offset le fits apart h)
    (cases_lt (length bytes) (write.offset + length write.bytes))
  where
    apart : (k : ℕ) → k < length buffer → (offset + k < write.offset) ⊎ (write.offset + length write.bytes ≤ offset + k)
    apart k lt = ⊎_elim
        (λ low. inl low)
        (λ high. ⊎_elim
        (λ inside. absurd (not (offset + k, high, inside, (let e : (offset + k) / 131072 ≡ offset / 131072 = omega arith in e))))
        (λ past. inr past)
        (cases_lt (offset + k) (write.offset + length write.bytes)))
        (cases_lt (offset + k) write.offset)

passes : (volume : PlainVolume) (writes : List Write) (name buffer : List ℕ) (offset i : ℕ) → same volume.name name ≡ true → is_snapshot volume.kind ≡ false → offset % 131072 + length buffer ≤ 131072 → offset + length buffer ≤ length volume.bytes
    → i < length writes → (IsAt (Touching name (offset / 131072)) writes i → ⊥)
    → HasRange buffer (after_writes volume (take i writes)).bytes offset → HasRange buffer (after_writes volume (take (i + 1) writes)).bytes offset
passes volume writes name buffer offset i named writable within fits lt not h = cases (same item.volume name) refl
  where
    item : Write
    item = (some_at writes i lt).0

    is : item ≡ get_or writes i item
    is = (some_at writes i lt).1

    size : length (after_writes volume (take i writes)).bytes ≡ length volume.bytes
    size = length_after_writes volume (take i writes)

    cases : (b : Bool) → same item.volume name ≡ b → HasRange buffer (after_writes volume (take (i + 1) writes)).bytes offset
    cases false e = skip_more volume writes i item name buffer buffer offset lt is named e refl h
    cases true e = lay_more volume writes i item name buffer buffer offset lt is named writable e refl
        (stays buffer (after_writes volume (take i writes)).bytes item offset within (let s = size in omega (arith, s)) (λ has. not (item, lt, sym is, (same_is item.volume name e, has))) h)

-- so do many in a row
gap : (volume : PlainVolume) (writes : List Write) (name buffer : List ℕ) (offset d m n : ℕ) → same volume.name name ≡ true → is_snapshot volume.kind ≡ false → offset % 131072 + length buffer ≤ 131072 → offset + length buffer ≤ length volume.bytes
    → n ≡ m + d → n ≤ length writes → ((p : ℕ) → m ≤ p → p < n → IsAt (Touching name (offset / 131072)) writes p → ⊥)
    → HasRange buffer (after_writes volume (take m writes)).bytes offset → HasRange buffer (after_writes volume (take n writes)).bytes offset
gap volume writes name buffer offset zero m n named writable within fits e le none h =
    let same_place : m ≡ n = omega arith in subst (λ (k : ℕ). HasRange buffer (after_writes volume (take k writes)).bytes offset) same_place h
gap volume writes name buffer offset (suc d) m n named writable within fits e le none h =
    let last : m + d + 1 ≡ n = omega arith in
    subst (λ (k : ℕ). HasRange buffer (after_writes volume (take k writes)).bytes offset) last
    (passes volume writes name buffer offset (m + d) named writable within fits (omega arith) (none (m + d) (omega arith) (omega arith))
    (gap volume writes name buffer offset d m (m + d) named writable within fits refl (omega arith) (λ p low high. none p low (omega arith)) h))

-- before the first position
pub laid_none : (volume : PlainVolume) (writes : List Write) (name buffer positions : List ℕ) (offset n : ℕ) → AreTouching name (offset / 131072) writes positions
    → same volume.name name ≡ true → is_snapshot volume.kind ≡ false → offset % 131072 + length buffer ≤ 131072 → offset + length buffer ≤ length volume.bytes → n ≤ length writes → Reaches positions 0 n
    → HasRange buffer volume.bytes offset → HasRange buffer (after_writes volume (take n writes)).bytes offset
laid_none volume writes name buffer positions offset n are named writable within fits le reach h =
    gap volume writes name buffer offset n 0 n named writable within fits (omega arith) le none h
  where
    none : (p : ℕ) → 0 ≤ p → p < n → IsAt (Touching name (offset / 131072)) writes p → ⊥
    none p low high at =
        let has = (are.exactly p).1 at in
        let e : get_or positions has.0 0 ≡ p = get_or_default positions has.0 0 p has.1 ∙ has.2 in
        let past = reach.behind has.0 (omega arith) has.1 in
        omega (arith, e, past)

-- one position more
pub laid_more : (volume : PlainVolume) (writes : List Write) (name buffer new positions : List ℕ) (item : Write) (offset size i n p : ℕ) → AreTouching name (offset / 131072) writes positions
    → same volume.name name ≡ true → is_snapshot volume.kind ≡ false → offset % 131072 + length new ≤ 131072 → offset + length new ≤ length volume.bytes → length volume.bytes ≡ size
    → i < length positions → p ≡ get_or positions i 0 → item ≡ get_or writes p item
    → ((m : ℕ) → m ≤ length writes → Reaches positions i m → HasRange buffer (after_writes volume (take m writes)).bytes offset)
    → ((bytes : List ℕ) → length bytes ≡ size → HasRange buffer bytes offset → HasRange new (stored item.offset item.bytes bytes) offset)
    → n ≤ length writes → Reaches positions (i + 1) n → HasRange new (after_writes volume (take n writes)).bytes offset
laid_more volume writes name buffer new positions item offset size i n p are named writable within fits sized lt is item_is laid lays le reach =
    gap volume writes name new offset (n - (p + 1)) (p + 1) n named writable within fits (omega (arith, below)) le none one
  where
    at : IsAt (Touching name (offset / 131072)) writes p
    at = (are.exactly p).0 (is_listed positions i p lt is)

    below : p < n
    below = let b = reach.before i (omega arith) lt in omega (arith, b, is)

    same_item : item ≡ at.0
    same_item = item_is ∙ (get_or_default writes p item at.0 at.1 ∙ at.2)

    wanted : same item.volume name ≡ true
    wanted = is_same item.volume name (ap (λ (w : Write). w.volume) same_item ∙ at.3.0)

    prior : Reaches positions i p
    prior = record {
      before = λ k low within. (let a = are.ascending k i 0 low lt in omega (arith, a, is));
      behind = λ k high within. ⊎_elim
          (λ past. let a = are.ascending i k 0 past within in omega (arith, a, is))
          (λ not_past. let e : get_or positions k 0 ≡ p = ap (λ j. get_or positions j 0) (let s : k ≡ i = omega arith in s) ∙ sym is in omega (arith, e))
          (cases_lt i k);
    }

    here : List ℕ
    here = (after_writes volume (take p writes)).bytes

    one : HasRange new (after_writes volume (take (p + 1) writes)).bytes offset
    one = lay_more volume writes p item name new new offset at.1 item_is named writable wanted refl
        (lays (after_writes volume (take p writes)).bytes (length_after_writes volume (take p writes) ∙ sized) (laid p (let l = at.1 in omega (arith, l)) prior))

    none : (q : ℕ) → p + 1 ≤ q → q < n → IsAt (Touching name (offset / 131072)) writes q → ⊥
    none q low high there =
        let has = (are.exactly q).1 there in
        let e : get_or positions has.0 0 ≡ q = get_or_default positions has.0 0 q has.1 ∙ has.2 in
        ⊎_elim
        (λ early. ⊎_elim
        (λ earlier. let a = are.ascending has.0 i 0 earlier lt in omega (arith, a, is, e))
        (λ not_earlier. let f : get_or positions has.0 0 ≡ p = ap (λ j. get_or positions j 0) (let s : has.0 ≡ i = omega arith in s) ∙ sym is in omega (arith, e, f))
        (cases_lt has.0 i))
        (λ later. let b = reach.behind has.0 later has.1 in omega (arith, b, e))
        (cases_lt has.0 (i + 1))

-- behind the last position
pub laid_all : (volume : PlainVolume) (writes : List Write) (name buffer positions : List ℕ) (offset i : ℕ) → AreTouching name (offset / 131072) writes positions → length positions ≤ i
    → ((n : ℕ) → n ≤ length writes → Reaches positions i n → HasRange buffer (after_writes volume (take n writes)).bytes offset)
    → HasRange buffer (after_writes volume writes).bytes offset
laid_all volume writes name buffer positions offset i are past laid =
    subst (λ (ws : List Write). HasRange buffer (after_writes volume ws).bytes offset) (take-length writes) (laid (length writes) (omega arith) reach)
  where
    reach : Reaches positions i (length writes)
    reach = record {
      before = λ k low within. ((are.exactly (get_or positions k 0)).0 (is_listed positions k (get_or positions k 0) within refl)).1;
      behind = λ k high within. absurd (omega arith);
    }

-- ---- piece after piece

-- the first bytes of the range are those after the writes, and the others those before them
pub record IsLaidUpTo (done : ℕ) (buffer after before : List ℕ) (offset : ℕ) : Type 0 where
  pub laid : (k d : ℕ) → k < done → k < length buffer → get_or buffer k d ≡ get_or after (offset + k) d
  pub rest : (k d : ℕ) → done ≤ k → k < length buffer → get_or buffer k d ≡ get_or before (offset + k) d

pub part_length : (buffer : List ℕ) (done count : ℕ) → done + count ≤ length buffer → length (slice_range buffer done (done + count)) ≡ count
part_length buffer done count room = length-between buffer done (done + count) room ∙ (let e : done + count - done ≡ count = omega arith in e)

pub put_length : (done count : ℕ) (buffer part : List ℕ) → length part ≡ count → done + count ≤ length buffer → length (put_mid done (done + count - done) buffer part) ≡ length buffer
put_length done count buffer part size room =
    let width : done + count - done ≡ count = omega arith in
    ap (λ (m : ℕ). length (put_mid done m buffer part)) width ∙ length-put done count buffer part size room

pub up_to_none : (buffer after before : List ℕ) (offset : ℕ) → HasRange buffer before offset → IsLaidUpTo 0 buffer after before offset
up_to_none buffer after before offset h = record {
  laid = λ k d low lt. absurd (omega arith);
  rest = λ k d high lt. range_at buffer before offset h k d lt;
}

pub up_to_all : (done : ℕ) (buffer after before : List ℕ) (offset : ℕ) → offset + length buffer ≤ length after → length buffer ≤ done → IsLaidUpTo done buffer after before offset → HasRange buffer after offset
up_to_all done buffer after before offset fits past up = range_from buffer after offset fits (λ k d lt. up.laid k d (omega arith) lt)

pub up_to_more : (done count : ℕ) (buffer part after before : List ℕ) (offset : ℕ) → done + count ≤ length buffer → length part ≡ count → offset + length buffer ≤ length before
    → IsLaidUpTo done buffer after before offset
    → (HasRange (slice_range buffer done (done + count)) before (offset + done) → HasRange part after (offset + done))
    → IsLaidUpTo (done + count) (put_mid done (done + count - done) buffer part) after before offset
up_to_more done count buffer part after before offset room size fits up lays =
    let width : count ≡ done + count - done = omega arith in
    subst (λ (m : ℕ). IsLaidUpTo (done + count) (put_mid done m buffer part) after before offset) width more
  where
    was : HasRange (slice_range buffer done (done + count)) before (offset + done)
    was =
        let long = part_length buffer done count room in
        range_from (slice_range buffer done (done + count)) before (offset + done) (omega (arith, long))
        (λ k d lt. get_or-between buffer done (done + count) k d (omega (arith, long)) ∙ (up.rest (done + k) d (omega arith) (omega (arith, long)) ∙ ap (λ n. get_or before n d) (let e : offset + (done + k) ≡ offset + done + k = omega arith in e)))

    full : length (put_mid done count buffer part) ≡ length buffer
    full = length-put done count buffer part size room

    laid : (k d : ℕ) → k < done + count → k < length (put_mid done count buffer part) → get_or (put_mid done count buffer part) k d ≡ get_or after (offset + k) d
    laid k d low lt = ⊎_elim
        (λ early. put_before done count buffer part k d (omega arith) early ∙ up.laid k d early (omega arith))
        (λ late.
        put_within done count buffer part k d (omega arith) late (omega (arith, size))
        ∙ (range_at part after (offset + done) (lays was) (k - done) d (omega (arith, size)) ∙ ap (λ n. get_or after n d) (let e : offset + done + (k - done) ≡ offset + k = omega arith in e)))
        (cases_lt k done)

    more : IsLaidUpTo (done + count) (put_mid done count buffer part) after before offset
    more = record {
      laid = laid;
      rest = λ k d high lt. put_after done count buffer part k d (omega arith) size high ∙ up.rest k d (omega arith) (let f = full in omega (arith, f));
    }

-- ---- writes that have a whole range

pub covering_touches : (size offset len : ℕ) (write : Write) → 0 < len → CoversRange size offset len write → HasByteIn (offset / 131072) write
covering_touches size offset len write some covers = (offset, covers.begins, (let e = covers.ends in omega (arith, e)), refl)

-- none of the writes at one position more has the range
pub none_more : (size offset len : ℕ) (writes : List Write) (positions : List ℕ) (i : ℕ) (item : Write) (b : Bool) → IsTrue b ↔ CoversRange size offset len item → b ≡ false
    → get_or positions i 0 < length writes → item ≡ get_or writes (get_or positions i 0) item
    → ((k : ℕ) (write : Write) → k < i → k < length positions → get_or writes (get_or positions k 0) write ≡ write → CoversRange size offset len write → ⊥)
    → (k : ℕ) (write : Write) → k < i + 1 → k < length positions → get_or writes (get_or positions k 0) write ≡ write → CoversRange size offset len write → ⊥
none_more size offset len writes positions i item b test no_cover within is before k write below listed here covers = ⊎_elim
    (λ lt. before k write lt listed here covers)
    (λ le.
    let same_index : k ≡ i = omega arith in
    let e : write ≡ item = sym here ∙ (ap (λ (j : ℕ). get_or writes (get_or positions j 0) write) same_index ∙ (get_or_default writes (get_or positions i 0) write item within ∙ sym is)) in
    true≢false (sym (test.1 (subst (CoversRange size offset len) e covers)) ∙ no_cover))
    (cases_lt k i)

-- one does
pub one_covers : (name : List ℕ) (size offset len : ℕ) (writes : List Write) (p : ℕ) (item : Write) (b : Bool) → IsTrue b ↔ CoversRange size offset len item → b ≡ true
    → IsAt (λ write. write.volume ≡ name) writes p → item ≡ get_or writes p item → AreCovering name size offset len writes
one_covers name size offset len writes p item b test holds at is =
    let same_item : at.0 ≡ item = sym at.2 ∙ (get_or_default writes p at.0 item at.1 ∙ sym is) in
    (p, item, at.1, sym is, (sym (ap (λ (w : Write). w.volume) same_item) ∙ at.3, test.0 holds))

-- none does
pub none_covers : (name : List ℕ) (size offset len : ℕ) (writes : List Write) (positions : List ℕ) (i : ℕ) → length positions ≤ i
    → ((position : ℕ) → IsAt (λ write. (write.volume ≡ name) × CoversRange size offset len write) writes position → Contains positions position)
    → ((k : ℕ) (write : Write) → k < i → k < length positions → get_or writes (get_or positions k 0) write ≡ write → CoversRange size offset len write → ⊥)
    → AreCovering name size offset len writes → ⊥
none_covers name size offset len writes positions i past all none any =
    let has = all any.0 (any.1, any.2, any.3, any.4) in
    let e : get_or positions has.0 0 ≡ any.0 = get_or_default positions has.0 0 any.0 has.1 ∙ has.2 in
    none has.0 any.1 (let lt = has.1 in omega (arith, lt)) has.1 (ap (λ (p : ℕ). get_or writes p any.1) e ∙ any.3) any.4.1
