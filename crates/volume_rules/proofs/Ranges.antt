-- A range of bytes, with a write laid over it.
use Rattle.std.proofs.Common.{◌≡◌, ◌⊎◌, ⊎_elim, inl, inr, ℕ, ◌+◌, ◌-◌, ◌<◌, ◌≤◌, Bool, true, false, List, ◌++◌, length, take, drop, get_or, refl, sym, ap, ◌∙◌, subst, arith}
use Rattle.std.specs.Prelude.{cond, max, min, nat_le, slice_range}
use Rattle.std.proofs.lemmas.Bool.Decides.{nat_tests}
use Rattle.std.proofs.lemmas.List.{length-append, length-take, length-drop, get_or-take, get_or-drop, get_or_append_left, get_or-append_right, drop-drop, same_lists}
use Rattle.std.proofs.lemmas.List.Edits.{length-between, get_or-between}
use borrow.Rule.Slice.PartMut.{put_mid}
use Rattle.pool_model.specs.Names.{stored}
use Rattle.volume_rules.specs.Overlay.{HasRange}
use Rattle.volume_rules.proofs.Volumes.{length-stored}

-- ---- three lists in a row

first : (xs ys zs : List ℕ) (k d : ℕ) → k < length xs → get_or (xs ++ (ys ++ zs)) k d ≡ get_or xs k d
first xs ys zs k d lt = get_or_append_left xs (ys ++ zs) d k lt

second : (xs ys zs : List ℕ) (k d : ℕ) → length xs ≤ k → k < length xs + length ys → get_or (xs ++ (ys ++ zs)) k d ≡ get_or ys (k - length xs) d
second xs ys zs k d le lt = get_or-append_right xs (ys ++ zs) (length xs) k d refl le ∙ get_or_append_left ys zs d (k - length xs) (omega arith)

third : (xs ys zs : List ℕ) (k d : ℕ) → length xs + length ys ≤ k → get_or (xs ++ (ys ++ zs)) k d ≡ get_or zs (k - length xs - length ys) d
third xs ys zs k d le = get_or-append_right xs (ys ++ zs) (length xs) k d refl (omega arith) ∙ get_or-append_right ys zs (length ys) (k - length xs) d refl (omega arith)

length-front : (a : ℕ) (xs : List ℕ) → a ≤ length xs → length (take a xs) ≡ a
length-front a xs le = omega (arith, length-take a xs)

-- ---- a part that is put in place of as many bytes

pub put_before : (a m : ℕ) (xs ys : List ℕ) (k d : ℕ) → a ≤ length xs → k < a → get_or (put_mid a m xs ys) k d ≡ get_or xs k d
put_before a m xs ys k d le lt = first (take a xs) ys _ k d (let e = length-front a xs le in omega arith) ∙ get_or-take a xs k d lt

pub put_within : (a m : ℕ) (xs ys : List ℕ) (k d : ℕ) → a ≤ length xs → a ≤ k → k < a + length ys → get_or (put_mid a m xs ys) k d ≡ get_or ys (k - a) d
put_within a m xs ys k d le low lt =
    let e = length-front a xs le in
    second (take a xs) ys _ k d (omega arith) (omega arith) ∙ ap (λ n. get_or ys (k - n) d) e

pub put_after : (a m : ℕ) (xs ys : List ℕ) (k d : ℕ) → a ≤ length xs → length ys ≡ m → a + m ≤ k → get_or (put_mid a m xs ys) k d ≡ get_or xs k d
put_after a m xs ys k d le same low =
    let e = length-front a xs le in
    third (take a xs) ys _ k d (omega arith)
    ∙ (get_or-drop m (drop a xs) (k - length (take a xs) - length ys) d
    ∙ (get_or-drop a xs (m + (k - length (take a xs) - length ys)) d
    ∙ ap (λ n. get_or xs n d) (let back : a + (m + (k - length (take a xs) - length ys)) ≡ k = omega arith in back)))

pub length-put : (a m : ℕ) (xs ys : List ℕ) → length ys ≡ m → a + m ≤ length xs → length (put_mid a m xs ys) ≡ length xs
length-put a m xs ys same le = simp (length-append, length-take, length-drop) (omega arith)

-- ---- a write within a volume

stored_is : (at : ℕ) (new bytes : List ℕ) → at + length new ≤ length bytes → stored at new bytes ≡ put_mid at (length new) bytes new
stored_is at new bytes le = let t : nat_le (at + length new) (length bytes) ≡ true = grind (arith, nat_tests, le) in
    ap (λ b. cond b (take at bytes ++ (new ++ drop (at + length new) bytes)) bytes) t ∙ ap (λ rest. take at bytes ++ (new ++ rest)) (sym (drop_both at (length new) bytes))
  where
    drop_both : (m n : ℕ) (xs : List ℕ) → drop n (drop m xs) ≡ drop (m + n) xs
    drop_both m n xs = drop-drop n m xs

-- the bytes of a write, where it lies
written_at : (at : ℕ) (new bytes : List ℕ) (k d : ℕ) → at + length new ≤ length bytes → at ≤ k → k < at + length new → get_or (stored at new bytes) k d ≡ get_or new (k - at) d
written_at at new bytes k d fits low lt = ap (λ xs. get_or xs k d) (stored_is at new bytes fits) ∙ put_within at (length new) bytes new k d (omega arith) low lt

-- the others
elsewhere : (at : ℕ) (new bytes : List ℕ) (k d : ℕ) → at + length new ≤ length bytes → (k < at) ⊎ (at + length new ≤ k) → get_or (stored at new bytes) k d ≡ get_or bytes k d
elsewhere at new bytes k d fits apart = ap (λ xs. get_or xs k d) (stored_is at new bytes fits) ∙ ⊎_elim (λ lt. put_before at (length new) bytes new k d (omega arith) lt) (λ le. put_after at (length new) bytes new k d (omega arith) refl le) apart

-- ---- ranges

length-range : (bytes : List ℕ) (offset n : ℕ) → offset + n ≤ length bytes → length (slice_range bytes offset (offset + n)) ≡ n
length-range bytes offset n le = length-between bytes offset (offset + n) le ∙ (let e : offset + n - offset ≡ n = omega arith in e)

-- a buffer whose bytes are those from the offset on has the range
pub range_from : (buffer bytes : List ℕ) (offset : ℕ) → offset + length buffer ≤ length bytes → ((k d : ℕ) → k < length buffer → get_or buffer k d ≡ get_or bytes (offset + k) d) → HasRange buffer bytes offset
range_from buffer bytes offset le f =
    same_lists buffer (slice_range bytes offset (offset + length buffer)) (sym (length-range bytes offset (length buffer) le))
    (λ k d lt. f k d lt ∙ sym (get_or-between bytes offset (offset + length buffer) k d (omega arith)))

pub range_at : (buffer bytes : List ℕ) (offset : ℕ) → HasRange buffer bytes offset → (k d : ℕ) → k < length buffer → get_or buffer k d ≡ get_or bytes (offset + k) d
range_at buffer bytes offset h k d lt = ap (λ xs. get_or xs k d) h ∙ get_or-between bytes offset (offset + length buffer) k d (omega arith)

-- a write that lies apart from the range
pub untouched : (buffer bytes new : List ℕ) (at offset : ℕ) → at + length new ≤ length bytes → offset + length buffer ≤ length bytes → ((k : ℕ) → k < length buffer → (offset + k < at) ⊎ (at + length new ≤ offset + k)) → HasRange buffer bytes offset → HasRange buffer (stored at new bytes) offset
untouched buffer bytes new at offset fits le apart h =
    range_from buffer (stored at new bytes) offset (let e = length-stored at new bytes in omega arith)
    (λ k d lt. range_at buffer bytes offset h k d lt ∙ sym (elsewhere at new bytes (offset + k) d fits (apart k lt)))

-- the part of a write that lies in the range is put into the buffer
pub laid_part : (buffer bytes new part : List ℕ) (at offset a m s : ℕ) → at + length new ≤ length bytes → offset + length buffer ≤ length bytes
    → part ≡ slice_range new s (s + m) → s + m ≤ length new → offset + a ≡ at + s → a + m ≤ length buffer
    → (a ≡ 0) ⊎ (s ≡ 0) → (a + m ≡ length buffer) ⊎ (s + m ≡ length new)
    → HasRange buffer bytes offset → HasRange (put_mid a m buffer part) (stored at new bytes) offset
laid_part buffer bytes new part at offset a m s fits le is within place room begins ends h =
    range_from (put_mid a m buffer part) (stored at new bytes) offset (let e = length-stored at new bytes in let f = full in omega arith)
    (λ k d lt. cases k d (let f = full in omega arith) (nat_le a k) (nat_le (a + m) k) refl refl)
  where
    size : length part ≡ m
    size = ap length is ∙ length-range new s m within

    full : length (put_mid a m buffer part) ≡ length buffer
    full = length-put a m buffer part size room

    cases : (k d : ℕ) → k < length buffer → (b t : Bool) → nat_le a k ≡ b → nat_le (a + m) k ≡ t → get_or (put_mid a m buffer part) k d ≡ get_or (stored at new bytes) (offset + k) d
    cases k d lt false t e f =
        let low : k < a = grind (arith, nat_tests, e) in
        put_before a m buffer part k d (omega arith) low ∙ (range_at buffer bytes offset h k d lt ∙ sym (elsewhere at new bytes (offset + k) d fits (inl (⊎_elim (λ z. omega arith) (λ z. omega arith) begins))))
    cases k d lt true true e f =
        let high : a + m ≤ k = grind (arith, nat_tests, f) in
        put_after a m buffer part k d (omega arith) size high ∙ (range_at buffer bytes offset h k d lt ∙ sym (elsewhere at new bytes (offset + k) d fits (inr (⊎_elim (λ z. omega arith) (λ z. omega arith) ends))))
    cases k d lt true false e f =
        let low : a ≤ k = grind (arith, nat_tests, e) in
        let high : k < a + m = grind (arith, nat_tests, f) in
        let long = size in
        put_within a m buffer part k d (omega arith) low (omega arith)
        ∙ (ap (λ xs. get_or xs (k - a) d) is
        ∙ (get_or-between new s (s + m) (k - a) d (omega arith)
        ∙ (ap (λ n. get_or new n d) (let same : s + (k - a) ≡ offset + k - at = omega arith in same)
        ∙ sym (written_at at new bytes (offset + k) d fits (omega arith) (omega arith)))))

-- ---- where a write and a range meet

either_first : (a b : ℕ) → (max a b ≡ a) ⊎ (max a b ≡ b)
either_first a b = elim (nat_le a b) as (λ t. nat_le a b ≡ t → (max a b ≡ a) ⊎ (max a b ≡ b)) [ true ↦ λ e. inr (let le : a ≤ b = grind (arith, nat_tests, e) in omega arith) | false ↦ λ e. inl (let lt : b < a = grind (arith, nat_tests, e) in omega arith) ] refl

either_last : (a b : ℕ) → (min a b ≡ a) ⊎ (min a b ≡ b)
either_last a b = elim (nat_le a b) as (λ t. nat_le a b ≡ t → (min a b ≡ a) ⊎ (min a b ≡ b)) [ true ↦ λ e. inl (let le : a ≤ b = grind (arith, nat_tests, e) in omega arith) | false ↦ λ e. inr (let lt : b < a = grind (arith, nat_tests, e) in omega arith) ] refl

-- they don't meet
pub apart_at : (at len offset n k start end : ℕ) → start ≡ max at offset → end ≡ min (at + len) (offset + n) → end ≤ start → k < n → (offset + k < at) ⊎ (at + len ≤ offset + k)
apart_at at len offset n k start end s e le lt = cases (nat_le at (offset + k)) refl
  where
    cases : (b : Bool) → nat_le at (offset + k) ≡ b → (offset + k < at) ⊎ (at + len ≤ offset + k)
    cases true t = let low : at ≤ offset + k = grind (arith, nat_tests, t) in inr (omega arith)
    cases false t = inl (grind (arith, nat_tests, t))

-- they meet from start to end
pub laid : (buffer bytes new part : List ℕ) (at offset start end : ℕ) → at + length new ≤ length bytes → offset + length buffer ≤ length bytes
    → start ≡ max at offset → end ≡ min (at + length new) (offset + length buffer) → start < end
    → part ≡ slice_range new (start - at) (start - at + (end - start))
    → HasRange buffer bytes offset → HasRange (put_mid (start - offset) (start - offset + (end - start) - (start - offset)) buffer part) (stored at new bytes) offset
laid buffer bytes new part at offset start end fits le s e lt is h =
    let width : start - offset + (end - start) - (start - offset) ≡ end - start = omega arith in
    subst (λ m. HasRange (put_mid (start - offset) m buffer part) (stored at new bytes) offset) (sym width)
    (laid_part buffer bytes new part at offset (start - offset) (end - start) (start - at) fits le is (omega arith) (omega arith) (omega arith)
    (⊎_elim (λ f. inr (omega arith)) (λ f. inl (omega arith)) (either_first at offset))
    (⊎_elim (λ f. inr (omega arith)) (λ f. inl (omega arith)) (either_last (at + length new) (offset + length buffer)))
    h)
