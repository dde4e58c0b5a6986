-- An index tells of one write more.
use Rattle.std.proofs.Common.{◌≡◌, ◌⊎◌, ⊎_elim, inl, inr, ℕ, ◌+◌, ◌-◌, ◌*◌, ◌/◌, ◌%◌, ◌<◌, ◌≤◌, Bool, true, false, true≢false, List, [], ◌∷◌, ◌++◌, length, take, get_or, Option, Some, None, Vec, refl, sym, ap, ◌∙◌, subst, arith, length-append}
use Rattle.std.proofs.lemmas.Bool.{cases_eq, cases_lt}
use Rattle.std.specs.Prelude.{cond, ◌↔◌, ◌==◌, ◌&&◌, nat_le, nat_lt, Result, Ok, Err, OnOk, OnErr, is_ok}
use Rattle.std.specs.List.{Contains}
use Rattle.std.specs.Map.{lookup}
use Rattle.std.specs.Option.{option_map_or}
use Rattle.std.specs.declared.alloc.Global.{Global}
use Rattle.std.specs.declared.hash.FoldHasher.{FoldHasher}
use Rattle.std.specs.declared.hash.BuildHasherDefault.{BuildHasherDefault}
use Rattle.std.specs.HashMap.{HashMap}
use Rattle.std.proofs.lemmas.Bool.Decides.{nat_tests}
use Rattle.std.proofs.Math.ListN.{get_or-append}
use Rattle.std.proofs.Math.Seq.{get_or-append_seam, take-append_seam}
use Rattle.std.proofs.lemmas.List.{get_or_default, append-nil}
use Rattle.std.proofs.lemmas.List.Elements.{Contains-push, Contains-push_cases, Contains-append_left}
use Rattle.pool_model.specs.declared.item.Write.{Write}
use Rattle.pool_model.specs.Names.{same}
use Rattle.pool_model.proofs.Places.{same_is, is_same}
use Rattle.txg_pipeline.specs.declared.places.PieceIndex.{PieceIndex}
use Rattle.txg_pipeline.specs.declared.places.PlaceIndex.{PlaceIndex}
use Rattle.txg_pipeline.specs.Positions.{HasByteIn, IsAt, AreAt, AreOf, AreTouching, listed_in, listed_of, listed_at, Indexes}

-- ---- the positions of some of the writes

position_below : (Is : Write → Type 0) (writes : List Write) (positions : List ℕ) → AreAt Is writes positions → (p : ℕ) → Contains positions p → p < length writes
position_below Is writes positions are p has = ((are.exactly p).0 has).1

at_more : (Is : Write → Type 0) (writes : List Write) (write : Write) (p : ℕ) → IsAt Is writes p → IsAt Is (writes ++ write ∷ []) p
at_more Is writes write p at =
    (at.0, (let n = length-append writes (write ∷ []) in let lt = at.1 in omega (arith, n)), get_or-append writes (write ∷ []) at.0 p at.1 ∙ at.2, at.3)

at_last : (Is : Write → Type 0) (writes : List Write) (write : Write) → Is write → IsAt Is (writes ++ write ∷ []) (length writes)
at_last Is writes write is = (write, (let n = length-append writes (write ∷ []) in omega (arith, n)), get_or-append_seam writes write [] write, is)

at_cases : (Is : Write → Type 0) (writes : List Write) (write : Write) (p : ℕ) → IsAt Is (writes ++ write ∷ []) p → IsAt Is writes p ⊎ ((p ≡ length writes) × Is write)
at_cases Is writes write p at = ⊎_elim
    (λ lt. inl (at.0, lt, sym (get_or-append writes (write ∷ []) at.0 p lt) ∙ at.2, at.3))
    (λ le.
    let e : p ≡ length writes = (let n = length-append writes (write ∷ []) in let lt = at.1 in omega (arith, n)) in
    let w : write ≡ at.0 = sym (get_or-append_seam writes write [] at.0) ∙ (ap (λ q. get_or (writes ++ write ∷ []) q at.0) (sym e) ∙ at.2) in
    inr (e, subst Is (sym w) at.3))
    (cases_lt p (length writes))

-- a write that is one of these joins them
pub listed : (Is : Write → Type 0) (writes : List Write) (write : Write) (positions : List ℕ) → Is write → AreAt Is writes positions → AreAt Is (writes ++ write ∷ []) (positions ++ length writes ∷ [])
listed Is writes write positions is are = record {
  ascending = λ i j d lt within. pairs i j d lt within;
  exactly = λ p. (λ has. there p (Contains-push_cases positions (length writes) p has), λ at. back p (at_cases Is writes write p at));
}
  where
    there : (p : ℕ) → Contains positions p ⊎ (length writes ≡ p) → IsAt Is (writes ++ write ∷ []) p
    there p (inl has) = at_more Is writes write p ((are.exactly p).0 has)
    there p (inr e) = subst (IsAt Is (writes ++ write ∷ [])) e (at_last Is writes write is)

    back : (p : ℕ) → IsAt Is writes p ⊎ ((p ≡ length writes) × Is write) → Contains (positions ++ length writes ∷ []) p
    back p (inl at) = Contains-append_left positions (length writes ∷ []) p ((are.exactly p).1 at)
    back p (inr e) = subst (Contains (positions ++ length writes ∷ [])) (sym e.0) (Contains-push positions (length writes))

    pairs : (i j d : ℕ) → i < j → j < length (positions ++ length writes ∷ []) → get_or (positions ++ length writes ∷ []) i d < get_or (positions ++ length writes ∷ []) j d
    pairs i j d lt within = ⊎_elim
        (λ low.
        let high : i < length positions = omega arith in
        let a = get_or-append positions (length writes ∷ []) d i high in
        let b = get_or-append positions (length writes ∷ []) d j low in
        let h = are.ascending i j d lt low in
        omega (arith, a, b))
        (λ past.
        let n = length-append positions (length writes ∷ []) in
        let e : j ≡ length positions = omega (arith, n) in
        let high : i < length positions = omega arith in
        let a = get_or-append positions (length writes ∷ []) d i high in
        let b : get_or (positions ++ length writes ∷ []) j d ≡ length writes = ap (λ q. get_or (positions ++ length writes ∷ []) q d) e ∙ get_or-append_seam positions (length writes) [] d in
        let h : get_or positions i d < length writes = position_below Is writes positions are (get_or positions i d) (i, high, get_or_default positions i (get_or positions i d) d high) in
        omega (arith, a, b))
        (cases_lt j (length positions))

-- another one doesn't
pub passed : (Is : Write → Type 0) (writes : List Write) (write : Write) (positions : List ℕ) → (Is write → ⊥) → AreAt Is writes positions → AreAt Is (writes ++ write ∷ []) positions
passed Is writes write positions not are = record {
  ascending = are.ascending;
  exactly = λ p. (λ has. at_more Is writes write p ((are.exactly p).0 has), λ at. back p (at_cases Is writes write p at));
}
  where
    back : (p : ℕ) → IsAt Is writes p ⊎ ((p ≡ length writes) × Is write) → Contains positions p
    back p (inl at) = (are.exactly p).1 at
    back p (inr e) = absurd (not e.1)

-- by a test
pub joined : (Is : Write → Type 0) (writes : List Write) (write : Write) (positions after : List ℕ) (position : ℕ) (b : Bool) → (b ≡ true → Is write) → (b ≡ false → Is write → ⊥)
    → position ≡ length writes → after ≡ positions ++ cond b (position ∷ []) [] → AreAt Is writes positions → AreAt Is (writes ++ write ∷ []) after
joined Is writes write positions after position true holds never p e are =
    subst (AreAt Is (writes ++ write ∷ [])) (sym (e ∙ ap (λ (n : ℕ). positions ++ n ∷ []) p)) (listed Is writes write positions (holds refl) are)
joined Is writes write positions after position false holds never p e are =
    subst (AreAt Is (writes ++ write ∷ [])) (sym (e ∙ append-nil positions)) (passed Is writes write positions (never refl) are)

-- ---- no writes

pub none_at : (Is : Write → Type 0) → AreAt Is [] []
none_at Is = record {
  ascending = λ i j d lt within. absurd (omega arith);
  exactly = λ p. (λ has. let lt = has.1 in absurd (omega arith), λ at. let lt = at.1 in absurd (omega arith));
}

-- ---- the pieces of a write

pub piece_within : (offset len piece byte : ℕ) → 0 < len → offset ≤ byte → byte < offset + len → byte / 131072 ≡ piece
    → (offset / 131072 ≤ piece) × (piece < offset / 131072 + (len - 1) / 131072 + (offset % 131072 + (len - 1) % 131072) / 131072 + 1)
piece_within offset len piece byte some low high is = (omega arith, omega arith)

pub byte_within : (offset len piece : ℕ) → 0 < len → offset / 131072 ≤ piece → piece < offset / 131072 + (len - 1) / 131072 + (offset % 131072 + (len - 1) % 131072) / 131072 + 1
    → (byte : ℕ) × (offset ≤ byte) × (byte < offset + len) × (byte / 131072 ≡ piece)
byte_within offset len piece some low high = ⊎_elim
    (λ lt. (piece * 131072, omega arith, omega arith, omega arith))
    (λ le. (offset, omega arith, omega arith, omega arith))
    (cases_lt (offset / 131072) piece)

-- ---- lists of positions by piece

pub noted_more : (first i position : ℕ) (now later before : List ℕ) (q : ℕ) → first ≤ i → now ≡ before ++ cond (nat_le first q && nat_lt q i) (position ∷ []) [] → later ≡ now ++ cond (i == q) (position ∷ []) []
    → later ≡ before ++ cond (nat_le first q && nat_lt q (i + 1)) (position ∷ []) []
noted_more first i position now later before q le n l = ⊎_elim
    (λ e.
    let a : (nat_le first q && nat_lt q i) ≡ false = grind (arith, nat_tests, e) in
    let b : (i == q) ≡ true = grind (arith, nat_tests, e) in
    let d : (nat_le first q && nat_lt q (i + 1)) ≡ true = grind (arith, nat_tests, e, le) in
    l ∙ (ap (λ t. now ++ cond t (position ∷ []) []) b ∙ (ap (λ xs. xs ++ position ∷ []) (n ∙ (ap (λ t. before ++ cond t (position ∷ []) []) a ∙ append-nil before)) ∙ sym (ap (λ t. before ++ cond t (position ∷ []) []) d))))
    (λ ne.
    let b : (i == q) ≡ false = grind (arith, nat_tests, ne) in
    let d : (nat_le first q && nat_lt q i) ≡ (nat_le first q && nat_lt q (i + 1)) = grind (arith, nat_tests, ne) in
    l ∙ (ap (λ t. now ++ cond t (position ∷ []) []) b ∙ (append-nil now ∙ (n ∙ ap (λ t. before ++ cond t (position ∷ []) []) d))))
    (cases_eq i q)

abbrev shorter : List ℕ → List ℕ
shorter xs = take (length xs - 1) xs

pub taken_more : (first i : ℕ) (now later before : List ℕ) (q : ℕ) → first ≤ i → now ≡ cond (nat_le first q && nat_lt q i) (shorter before) before → later ≡ cond (i == q) (shorter now) now
    → later ≡ cond (nat_le first q && nat_lt q (i + 1)) (shorter before) before
taken_more first i now later before q le n l = ⊎_elim
    (λ e.
    let a : (nat_le first q && nat_lt q i) ≡ false = grind (arith, nat_tests, e) in
    let b : (i == q) ≡ true = grind (arith, nat_tests, e) in
    let d : (nat_le first q && nat_lt q (i + 1)) ≡ true = grind (arith, nat_tests, e, le) in
    l ∙ (ap (λ t. cond t (shorter now) now) b ∙ (ap shorter (n ∙ ap (λ t. cond t (shorter before) before) a) ∙ sym (ap (λ t. cond t (shorter before) before) d))))
    (λ ne.
    let b : (i == q) ≡ false = grind (arith, nat_tests, ne) in
    let d : (nat_le first q && nat_lt q i) ≡ (nat_le first q && nat_lt q (i + 1)) = grind (arith, nat_tests, ne) in
    l ∙ (ap (λ t. cond t (shorter now) now) b ∙ (n ∙ ap (λ t. cond t (shorter before) before) d)))
    (cases_eq i q)

-- where a loop from first on and before end came to
pub all_between : (first i end q : ℕ) → end ≤ i → (first ≤ end → i ≤ end) → (end < first → i ≡ first) → (nat_le first q && nat_lt q i) ≡ (nat_le first q && nat_lt q end)
all_between first i end q past within none = ⊎_elim
    (λ lt. let e = none lt in grind (arith, nat_tests, e, lt))
    (λ le. let e : i ≡ end = (let h = within le in omega arith) in ap (λ n. nat_le first q && nat_lt q n) e)
    (cases_lt end first)

-- what joined is taken back
pub taken_back : (b : Bool) (position : ℕ) (before now later : List ℕ) → now ≡ before ++ cond b (position ∷ []) [] → later ≡ cond b (shorter now) now → later ≡ before
taken_back false position before now later n l = l ∙ (n ∙ append-nil before)
taken_back true position before now later n l =
    let e : length now - 1 ≡ length before = (let h = ap length n ∙ length-append before (position ∷ []) in omega (arith, h)) in
    l ∙ (ap (λ k. take k now) e ∙ (ap (take (length before)) n ∙ take-append_seam before (position ∷ [])))

-- ---- look-ups by name

found_cases : {K X : Type 0} (test : K → Bool) (k : K) (v x : X) (rest : Option X) (b : Bool) → test k ≡ b → (rest ≡ Some x → (key : K) × (test key ≡ true)) → cond b (Some v) rest ≡ Some x → (key : K) × (test key ≡ true)
found_cases test k v x rest true e f g = (k, e)
found_cases test k v x rest false e f g = f g

found_key : {K X : Type 0} (test : K → Bool) (es : List (K × X)) (x : X) → lookup test es ≡ Some x → (key : K) × (test key ≡ true)
found_key test [] x e = absurd (cc)
found_key test (p ∷ es) x e = found_cases test p.0 p.1 x (lookup test es) (test p.0) refl (found_key test es x) e

-- two lists that agree at each key of a name agree at the name
agree_at : {K X : Type 0} (items : K → List ℕ) (old new : List (K × X)) (name : List ℕ) → ((q : K) → name ≡ items q → lookup (λ k. same (items q) (items k)) new ≡ lookup (λ k. same (items q) (items k)) old) → lookup (λ k. same name (items k)) new ≡ lookup (λ k. same name (items k)) old
agree_at {K} {X} items old new name f = cases (at new) (at old) refl refl
  where
    at : List (K × X) → Option X
    at es = lookup (λ k. same name (items k)) es

    along : (q : K) → same name (items q) ≡ true → at new ≡ at old
    along q e =
        let n = same_is name (items q) e in
        ap (λ m. lookup (λ k. same m (items k)) new) n ∙ (f q n ∙ sym (ap (λ m. lookup (λ k. same m (items k)) old) n))

    cases : (a b : Option X) → at new ≡ a → at old ≡ b → at new ≡ at old
    cases (Some x) b e g = let k = found_key (λ k. same name (items k)) new x e in along k.0 k.1
    cases None (Some x) e g = let k = found_key (λ k. same name (items k)) old x g in along k.0 k.1
    cases None None e g = e ∙ sym g

-- what is told of each name, where the value at one name became another one
told : {K X : Type 0} (items : K → List ℕ) (old new : List (K × X)) (at : List ℕ) (v : X)
    → lookup (λ k. same at (items k)) new ≡ Some v
    → ((q : K) → same at (items q) ≡ false → lookup (λ k. same (items q) (items k)) new ≡ lookup (λ k. same (items q) (items k)) old)
    → (f : X → List ℕ) (more : List ℕ) → f v ≡ option_map_or f (lookup (λ k. same at (items k)) old) [] ++ more
    → (name : List ℕ) → option_map_or f (lookup (λ k. same name (items k)) new) [] ≡ option_map_or f (lookup (λ k. same name (items k)) old) [] ++ cond (same at name) more []
told items old new at v here others f more e name = cases (same at name) refl
  where
    cases : (b : Bool) → same at name ≡ b → option_map_or f (lookup (λ k. same name (items k)) new) [] ≡ option_map_or f (lookup (λ k. same name (items k)) old) [] ++ cond b more []
    cases true s =
        let n = same_is at name s in
        subst (λ m. option_map_or f (lookup (λ k. same m (items k)) new) [] ≡ option_map_or f (lookup (λ k. same m (items k)) old) [] ++ more) n (ap (λ o. option_map_or f o []) here ∙ e)
    cases false s =
        ap (λ o. option_map_or f o []) (agree_at items old new name (λ q n. others q (ap (same at) (sym n) ∙ s)))
        ∙ sym (append-nil (option_map_or f (lookup (λ k. same name (items k)) old) []))

-- ---- one write more

-- the value at the write's name became this one, and the others stayed
pub record Becomes (old new : PlaceIndex) (name : List ℕ) (v : PieceIndex) : Type 0 where
  pub here : lookup (λ key. same name key.items) new.volumes.entries ≡ Some v
  pub others : (q : Vec ℕ Global) → same name q.items ≡ false → lookup (λ key. same q.items key.items) new.volumes.entries ≡ lookup (λ key. same q.items key.items) old.volumes.entries

both_true : (a b : Bool) → (a && b) ≡ true → (a ≡ true) × (b ≡ true)
both_true true b e = (refl, e)
both_true false b e = absurd (true≢false (sym e))

cond_and : (a b : Bool) (xs : List ℕ) → cond a (cond b xs []) [] ≡ cond (a && b) xs []
cond_and true b xs = refl
cond_and false b xs = refl

pub indexed_more : (old new : PlaceIndex) (writes : List Write) (w : Write) (v : PieceIndex) (position first end : ℕ) → position ≡ length writes
    → ((piece : ℕ) → HasByteIn piece w ↔ (first ≤ piece) × (piece < end)) → Becomes old new w.volume v
    → v.all.items ≡ listed_of old w.volume ++ position ∷ []
    → ((piece : ℕ) → listed_in v.pieces piece ≡ listed_at old w.volume piece ++ cond (nat_le first piece && nat_lt piece end) (position ∷ []) [])
    → Indexes old writes → Indexes new (writes ++ w ∷ [])
indexed_more old new writes w v position first end at touches becomes all pieces was = record {
  all = λ name. joined (λ write. write.volume ≡ name) writes w (listed_of old name) (listed_of new name) position (same w.volume name)
      (λ e. same_is w.volume name e) (λ e is. true≢false (sym (is_same w.volume name is) ∙ e)) at
      (told (λ (key : Vec ℕ Global). key.items) old.volumes.entries new.volumes.entries w.volume v becomes.here becomes.others (λ index. index.all.items) (position ∷ []) all name)
      (was.all name);
  touching = λ name piece.
      let b = nat_le first piece && nat_lt piece end in
      joined (λ write. (write.volume ≡ name) × HasByteIn piece write) writes w (listed_at old name piece) (listed_at new name piece) position (same w.volume name && b)
      (λ e. let t = both_true (same w.volume name) b e in (same_is w.volume name t.0, (touches piece).1 (let low = (both_true (nat_le first piece) (nat_lt piece end) t.1).0 in let high = (both_true (nat_le first piece) (nat_lt piece end) t.1).1 in (grind (arith, nat_tests, low), grind (arith, nat_tests, high)))))
      (λ e is. true≢false (sym (both (same w.volume name) b (is_same w.volume name is.0) (let h = (touches piece).0 is.1 in let low = h.0 in let high = h.1 in grind (arith, nat_tests, low, high))) ∙ e)) at
      (told (λ (key : Vec ℕ Global). key.items) old.volumes.entries new.volumes.entries w.volume v becomes.here becomes.others (λ index. listed_in index.pieces piece) (cond b (position ∷ []) []) (pieces piece) name
      ∙ ap (λ xs. listed_at old name piece ++ xs) (cond_and (same w.volume name) b (position ∷ [])))
      (was.touching name piece);
}
  where
    both : (a b : Bool) → a ≡ true → b ≡ true → (a && b) ≡ true
    both true b e f = f
    both false b e f = absurd (true≢false (sym e))

-- the index tells what it told
pub indexed_same : (old new : PlaceIndex) (writes : List Write) → ((name : List ℕ) → listed_of new name ≡ listed_of old name) → ((name : List ℕ) (piece : ℕ) → listed_at new name piece ≡ listed_at old name piece)
    → Indexes old writes → Indexes new writes
indexed_same old new writes all pieces was = record {
  all = λ name. subst (AreOf name writes) (sym (all name)) (was.all name);
  touching = λ name piece. subst (AreTouching name piece writes) (sym (pieces name piece)) (was.touching name piece);
}

pub became_same : (old new : PlaceIndex) (name : List ℕ) (v : PieceIndex) (writes : List Write) → Becomes old new name v → v.all.items ≡ listed_of old name
    → ((piece : ℕ) → listed_in v.pieces piece ≡ listed_at old name piece) → Indexes old writes → Indexes new writes
became_same old new name v writes becomes all pieces =
    indexed_same old new writes
    (λ n. told (λ (key : Vec ℕ Global). key.items) old.volumes.entries new.volumes.entries name v becomes.here becomes.others (λ index. index.all.items) [] (all ∙ sym (append-nil (listed_of old name))) n ∙ none (same name n) (listed_of old n))
    (λ n piece. told (λ (key : Vec ℕ Global). key.items) old.volumes.entries new.volumes.entries name v becomes.here becomes.others (λ index. listed_in index.pieces piece) [] (pieces piece ∙ sym (append-nil (listed_at old name piece))) n ∙ none (same name n) (listed_at old n piece))
  where
    none : (b : Bool) (xs : List ℕ) → xs ++ cond b [] [] ≡ xs
    none true xs = append-nil xs
    none false xs = append-nil xs

-- ---- what a call found, and what it left

pub on_ok_two : {T E P Q R : Type 0} (r : Result T E) → (P → Q → R) → OnOk r P → OnOk r Q → OnOk r R
on_ok_two (Ok x) f p q = f p q
on_ok_two (Err y) f p q = tt

pub on_err_two : {T E P Q R : Type 0} (r : Result T E) → (P → Q → R) → OnErr r P → OnErr r Q → OnErr r R
on_err_two (Ok x) f p q = tt
on_err_two (Err y) f p q = f p q

pub is_pushed : {T E : Type 0} (r : Result T E) (len capacity : ℕ) → len + 1 ≤ capacity → OnErr r (capacity ≤ len) → is_ok r ≡ true
is_pushed (Ok x) len capacity room full = refl
is_pushed (Err y) len capacity room full = absurd (omega arith)

abbrev pub Volumes : Type 0
Volumes = HashMap (Vec ℕ Global) PieceIndex (BuildHasherDefault FoldHasher)

-- the index of a name became this one, in a map that had these volumes
pub becomes_in : (old : PlaceIndex) (mid after : Volumes) (name called : List ℕ) (v : PieceIndex) → mid ≡ old.volumes → name ≡ called
    → lookup (λ key. same name key.items) after.entries ≡ Some v
    → ((q : Vec ℕ Global) → same name q.items ≡ false → lookup (λ key. same q.items key.items) after.entries ≡ lookup (λ key. same q.items key.items) mid.entries)
    → Becomes old (record { volumes = after }) called v
becomes_in old mid after name called v m n here others =
    subst (λ (x : List ℕ). Becomes old (record { volumes = after }) x v) n
    (record { here = here; others = λ q e. others q e ∙ ap (λ (volumes : Volumes). lookup (λ key. same q.items key.items) volumes.entries) m })

-- what the index had at a name of which it knew this
found_of : (old : PlaceIndex) (name called : List ℕ) (o : Option PieceIndex) → name ≡ called → o ≡ lookup (λ key. same name key.items) old.volumes.entries → lookup (λ key. same called key.items) old.volumes.entries ≡ o
found_of old name called o n found = ap (λ (x : List ℕ). lookup (λ key. same x key.items) old.volumes.entries) (sym n) ∙ sym found

pub added_to : (old new : PlaceIndex) (writes : List Write) (w : Write) (name : List ℕ) (o : Option PieceIndex) (v : PieceIndex) (position first end : ℕ)
    → name ≡ w.volume → o ≡ lookup (λ key. same name key.items) old.volumes.entries → ((piece : ℕ) → HasByteIn piece w ↔ (first ≤ piece) × (piece < end)) → Becomes old new w.volume v
    → v.all.items ≡ option_map_or (λ index. index.all.items) o [] ++ position ∷ []
    → ((piece : ℕ) → listed_in v.pieces piece ≡ option_map_or (λ index. listed_in index.pieces piece) o [] ++ cond (nat_le first piece && nat_lt piece end) (position ∷ []) [])
    → position ≡ length writes → Indexes old writes → Indexes new (writes ++ w ∷ [])
added_to old new writes w name o v position first end n found touches becomes all pieces at was =
    let is = found_of old name w.volume o n found in
    indexed_more old new writes w v position first end at touches becomes
    (all ∙ ap (λ x. option_map_or (λ index. index.all.items) x [] ++ position ∷ []) (sym is))
    (λ piece. pieces piece ∙ ap (λ x. option_map_or (λ index. listed_in index.pieces piece) x [] ++ cond (nat_le first piece && nat_lt piece end) (position ∷ []) []) (sym is))
    was

pub kept_in : (old new : PlaceIndex) (writes : List Write) (name called : List ℕ) (index v : PieceIndex)
    → name ≡ called → Some index ≡ lookup (λ key. same name key.items) old.volumes.entries → Becomes old new called v → v.all.items ≡ index.all.items
    → ((piece : ℕ) → listed_in v.pieces piece ≡ listed_in index.pieces piece) → Indexes old writes → Indexes new writes
kept_in old new writes name called index v n found becomes all pieces was =
    let is = found_of old name called (Some index) n found in
    became_same old new called v writes becomes
    (all ∙ ap (λ x. option_map_or (λ index. index.all.items) x []) (sym is))
    (λ piece. pieces piece ∙ ap (λ x. option_map_or (λ index. listed_in index.pieces piece) x []) (sym is))
    was

pub kept_along : (old : PlaceIndex) (mid after : Volumes) (writes : List Write) → mid ≡ old.volumes → after.entries ≡ mid.entries → Indexes old writes → Indexes (record { volumes = after }) writes
kept_along old mid after writes m e was =
    let same_entries : after.entries ≡ old.volumes.entries = e ∙ ap (λ (volumes : Volumes). volumes.entries) m in
    indexed_same old (record { volumes = after }) writes
    (λ name. ap (λ (entries : List (Vec ℕ Global × PieceIndex)). option_map_or (λ index. index.all.items) (lookup (λ key. same name key.items) entries) []) same_entries)
    (λ name piece. ap (λ (entries : List (Vec ℕ Global × PieceIndex)). option_map_or (λ index. listed_in index.pieces piece) (lookup (λ key. same name key.items) entries) []) same_entries)
    was
