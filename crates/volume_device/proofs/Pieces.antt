-- Two writes in a row are one.
use Rattle.std.proofs.Common.{◌≡◌, ◌⊎◌, inl, inr, ℕ, ◌+◌, ◌≤◌, List, [], ◌∷◌, ◌++◌, length, take, drop, map, Bool, true, false, not, ◌&&◌, Option, Some, None, refl, sym, ap, ◌∙◌, subst, arith, append_assoc, length-append, length-drop}
use Rattle.std.specs.Prelude.{cond, find, nat_le}
use Rattle.std.specs.Option.{option_map}
use Rattle.std.proofs.lemmas.Bool.Decides.{nat_tests}
use Rattle.std.proofs.lemmas.List.{append-nil, drop-drop, drop_at, length-take-le, map-id, take-append-drop, take_at}
use Rattle.std.proofs.lemmas.Slice.Eq.{bytes_eq-Decides}
use Rattle.pool_model.specs.declared.item.Write.{Write}
use Rattle.pool_model.specs.declared.volume.PlainVolume.{PlainVolume}
use Rattle.pool_model.specs.Names.{same, stored}
use Rattle.pool_model.specs.Pools.{AreAscending, Entry, PlainPool, applied, is_snapshot, volume_after, volume_at, written}
use Rattle.volume_device.specs.Contents.{FitsIn, IsOverwritten, overwritten}

-- ---- bytes

stored_is : (offset : ℕ) (new old : List ℕ) → offset + length new ≤ length old → stored offset new old ≡ take offset old ++ (new ++ drop (offset + length new) old)
stored_is offset new old le =
    let fits : nat_le (offset + length new) (length old) ≡ true = grind (arith, nat_tests, le) in
    ap (λ b. cond b (take offset old ++ (new ++ drop (offset + length new) old)) old) fits

-- no bytes
stored_none : (offset : ℕ) (old : List ℕ) → stored offset [] old ≡ old
stored_none offset old = cases (nat_le (offset + 0) (length old))
  where
    same_end : take offset old ++ drop (offset + 0) old ≡ old
    same_end = ap (λ n. take offset old ++ drop n old) (let e : offset + 0 ≡ offset = omega arith in e) ∙ take-append-drop offset old

    cases : (b : Bool) → cond b (take offset old ++ drop (offset + 0) old) old ≡ old
    cases true = same_end
    cases false = refl

length_front : (offset : ℕ) (first old : List ℕ) → offset + length first ≤ length old → length (take offset old ++ first) ≡ offset + length first
length_front offset first old le = let front = length-take-le offset old (omega arith) in omega (arith, length-append (take offset old) first)

length_stored : (offset : ℕ) (new old : List ℕ) → length (stored offset new old) ≡ length old
length_stored offset new old = cases (nat_le (offset + length new) (length old)) refl
  where
    cases : (b : Bool) → nat_le (offset + length new) (length old) ≡ b → length (stored offset new old) ≡ length old
    cases false e = ap (λ b. length (cond b (take offset old ++ (new ++ drop (offset + length new) old)) old)) e
    cases true e =
        let le : offset + length new ≤ length old = grind (arith, nat_tests, e) in
        ap length (stored_is offset new old le ∙ sym (append_assoc (take offset old) new (drop (offset + length new) old)))
        ∙ (length-append (take offset old ++ new) (drop (offset + length new) old)
        ∙ (let front = length_front offset new old le in omega (arith, length-drop (offset + length new) old)))

stored_both : (offset : ℕ) (first second old : List ℕ) → offset + length first + length second ≤ length old
    → stored (offset + length first) second (stored offset first old) ≡ stored offset (first ++ second) old
stored_both offset first second old le =
    stored_is (offset + length first) second (stored offset first old) (let e = length_stored offset first old in omega arith)
    ∙ ((λ i. take (offset + length first) (is i) ++ (second ++ drop (offset + length first + length second) (is i)))
    ∙ ((λ i. front i ++ (second ++ back i))
    ∙ (append_assoc (take offset old) first (second ++ rest)
    ∙ (ap (λ xs. take offset old ++ xs) (sym (append_assoc first second rest))
    ∙ (ap (λ n. take offset old ++ ((first ++ second) ++ drop n old)) ends ∙ sym (stored_is offset (first ++ second) old (omega (arith, length-append first second, le))))))))
  where
    within : offset + length first ≤ length old
    within = omega (arith, le)

    rest : List ℕ
    rest = drop (offset + length first + length second) old

    is : stored offset first old ≡ (take offset old ++ first) ++ drop (offset + length first) old
    is = stored_is offset first old within ∙ sym (append_assoc (take offset old) first (drop (offset + length first) old))

    front : take (offset + length first) ((take offset old ++ first) ++ drop (offset + length first) old) ≡ take offset old ++ first
    front = take_at (take offset old ++ first) (drop (offset + length first) old) (offset + length first) (length_front offset first old within)

    back : drop (offset + length first + length second) ((take offset old ++ first) ++ drop (offset + length first) old) ≡ drop (offset + length first + length second) old
    back =
        sym (drop-drop (length second) (offset + length first) ((take offset old ++ first) ++ drop (offset + length first) old))
        ∙ (ap (drop (length second)) (drop_at (take offset old ++ first) (drop (offset + length first) old) (offset + length first) (length_front offset first old within))
        ∙ drop-drop (length second) (offset + length first) old)

    ends : offset + length first + length second ≡ offset + length (first ++ second)
    ends = omega (arith, length-append first second)

-- ---- volumes

abbrev write_of : List ℕ → ℕ → List ℕ → Write
write_of name offset bytes = record { writer = 1; number = 1; volume = name; offset = offset; bytes = bytes }

volume_none : (name : List ℕ) (offset : ℕ) (volume : PlainVolume) → volume_after (write_of name offset []) volume ≡ volume
volume_none name offset volume = cases (same volume.name name && not (is_snapshot volume.kind))
  where
    cases : (b : Bool) → cond b (record volume { bytes = stored offset [] volume.bytes }) volume ≡ volume
    cases true = ap (λ (bytes : List ℕ). record volume { bytes = bytes }) (stored_none offset volume.bytes)
    cases false = refl

written_none : (name : List ℕ) (offset : ℕ) (pool : PlainPool) → overwritten name offset [] pool ≡ pool
written_none name offset pool =
    ap (λ (volumes : List PlainVolume). record pool { volumes = volumes })
    ((λ i. map (λ (volume : PlainVolume). volume_none name offset volume i) pool.volumes) ∙ map-id pool.volumes)

-- no bytes change nothing
pub overwritten_none : (name : List ℕ) (offset : ℕ) (pool : PlainPool) → IsOverwritten name offset [] pool pool
overwritten_none name offset pool = record { each = λ other. ap (volume_at other) same_pool; whole = λ ascending. same_pool }
  where
    same_pool : pool ≡ overwritten name offset [] pool
    same_pool = sym (written_none name offset pool)

-- whether a write of this name changes the volume
abbrev takes : List ℕ → PlainVolume → Bool
takes name volume = same volume.name name && not (is_snapshot volume.kind)

after_taken : (name : List ℕ) (offset : ℕ) (bytes : List ℕ) (volume : PlainVolume) → takes name volume ≡ true → volume_after (write_of name offset bytes) volume ≡ record volume { bytes = stored offset bytes volume.bytes }
after_taken name offset bytes volume e = ap (λ b. cond b (record volume { bytes = stored offset bytes volume.bytes }) volume) e

after_not : (name : List ℕ) (offset : ℕ) (bytes : List ℕ) (volume : PlainVolume) → takes name volume ≡ false → volume_after (write_of name offset bytes) volume ≡ volume
after_not name offset bytes volume e = ap (λ b. cond b (record volume { bytes = stored offset bytes volume.bytes }) volume) e

after_both : (name : List ℕ) (offset : ℕ) (first second : List ℕ) (volume : PlainVolume)
    → (takes name volume ≡ true → stored (offset + length first) second (stored offset first volume.bytes) ≡ stored offset (first ++ second) volume.bytes)
    → volume_after (write_of name (offset + length first) second) (volume_after (write_of name offset first) volume) ≡ volume_after (write_of name offset (first ++ second)) volume
after_both name offset first second volume joined = cases (takes name volume) refl
  where
    cases : (b : Bool) → takes name volume ≡ b
        → volume_after (write_of name (offset + length first) second) (volume_after (write_of name offset first) volume) ≡ volume_after (write_of name offset (first ++ second)) volume
    cases true e =
        ap (volume_after (write_of name (offset + length first) second)) (after_taken name offset first volume e)
        ∙ (after_taken name (offset + length first) second (record volume { bytes = stored offset first volume.bytes }) e
        ∙ (ap (λ (bytes : List ℕ). record volume { bytes = bytes }) (joined e) ∙ sym (after_taken name offset (first ++ second) volume e)))
    cases false e =
        ap (volume_after (write_of name (offset + length first) second)) (after_not name offset first volume e)
        ∙ (after_not name (offset + length first) second volume e ∙ sym (after_not name offset (first ++ second) volume e))

-- ---- ranges

-- nothing is written, or the range fits
abbrev pub Fits : PlainPool → List ℕ → ℕ → List ℕ → Type 0
Fits pool name offset bytes = (bytes ≡ []) ⊎ FitsIn pool name offset (length bytes)

stored_joined : (offset : ℕ) (first second old : List ℕ) → (first ≡ []) ⊎ (offset + length first ≤ length old) → (second ≡ []) ⊎ (offset + length first + length second ≤ length old)
    → stored (offset + length first) second (stored offset first old) ≡ stored offset (first ++ second) old
stored_joined offset first second old (inl none) (inr le) =
    (λ i. stored (offset + length (none i)) second (stored offset (none i) old))
    ∙ (ap (stored (offset + 0) second) (stored_none offset old)
    ∙ ((let e : offset + 0 ≡ offset = omega arith in λ i. stored (e i) (sym (ap (λ (xs : List ℕ). xs ++ second) none) i) old)))
stored_joined offset first second old a (inl none) =
    (λ i. stored (offset + length first) (none i) (stored offset first old))
    ∙ (stored_none (offset + length first) (stored offset first old)
    ∙ ap (λ (xs : List ℕ). stored offset xs old) (sym (ap (λ (xs : List ℕ). first ++ xs) none ∙ append-nil first)))
stored_joined offset first second old (inr low) (inr le) = stored_both offset first second old le

some_is : (x y : PlainVolume) → Some x ≡ Some y → x ≡ y
some_is x y e = cc

-- the volume of that name, where the range fits in it
within : (pool : PlainPool) (name : List ℕ) (offset len : ℕ) (volume : PlainVolume) → volume_at name pool ≡ Some volume → FitsIn pool name offset len → offset + len ≤ length volume.bytes
within pool name offset len volume there fits = subst (λ (v : PlainVolume). offset + len ≤ length v.bytes) (some_is fits.volume volume (sym fits.there ∙ there)) fits.within

both_or_none : (pool : PlainPool) (name : List ℕ) (offset : ℕ) (bytes : List ℕ) (volume : PlainVolume) → volume_at name pool ≡ Some volume → Fits pool name offset bytes → (bytes ≡ []) ⊎ (offset + length bytes ≤ length volume.bytes)
both_or_none pool name offset bytes volume there (inl none) = inl none
both_or_none pool name offset bytes volume there (inr fits) = inr (within pool name offset (length bytes) volume there fits)

fits_joined : (pool : PlainPool) (name : List ℕ) (offset : ℕ) (first second : List ℕ) → Fits pool name offset first → Fits pool name (offset + length first) second → Fits pool name offset (first ++ second)
fits_joined pool name offset first second (inl none) (inl nothing) = inl ((λ i. none i ++ nothing i))
fits_joined pool name offset first second a (inr fits) = inr (record {
  volume = fits.volume;
  there = fits.there;
  plain = fits.plain;
  within = let w = fits.within in omega (arith, length-append first second);
})
fits_joined pool name offset first second (inr fits) (inl nothing) = inr (record {
  volume = fits.volume;
  there = fits.there;
  plain = fits.plain;
  within = let w = fits.within in let e : length second ≡ 0 = ap length nothing in omega (arith, length-append first second);
})

-- ---- pools

and_first : (a b : Bool) → (a && b) ≡ true → a ≡ true
and_first true b e = refl
and_first false b e = absurd cc

found_named : (other : List ℕ) (volumes : List PlainVolume) (volume : PlainVolume) → find (λ v. same v.name other) volumes ≡ Some volume → same volume.name other ≡ true
found_named other [] volume e = absurd cc
found_named other (v ∷ volumes) volume e = cases (found_named other volumes volume) (same v.name other) refl
  where
    cases : (find (λ w. same w.name other) volumes ≡ Some volume → same volume.name other ≡ true) → (b : Bool) → same v.name other ≡ b → same volume.name other ≡ true
    cases rest true is =
        let here : Some v ≡ Some volume = sym (ap (λ b. cond b (Some v) (find (λ w. same w.name other) volumes)) is) ∙ e in
        ap (λ (x : PlainVolume). same x.name other) (sym (some_is v volume here)) ∙ is
    cases rest false is = rest (sym (ap (λ b. cond b (Some v) (find (λ w. same w.name other) volumes)) is) ∙ e)

same_is : (a b : List ℕ) → same a b ≡ true → a ≡ b
same_is a b e = (bytes_eq-Decides a b).0 e

-- what is found by another name, and has this one, is found by this one
found_there : (pool : PlainPool) (name other : List ℕ) (volume : PlainVolume) → volume_at other pool ≡ Some volume → takes name volume ≡ true → volume_at name pool ≡ Some volume
found_there pool name other volume there t =
    let named = same_is volume.name name (and_first (same volume.name name) (not (is_snapshot volume.kind)) t) in
    let called = same_is volume.name other (found_named other pool.volumes volume there) in
    ap (λ (n : List ℕ). volume_at n pool) (sym named ∙ called) ∙ there

kind_after : (w : Write) (volume : PlainVolume) → (volume_after w volume).kind ≡ volume.kind
kind_after w volume = elim (same volume.name w.volume && not (is_snapshot volume.kind)) as (λ b. (cond b (record volume { bytes = stored w.offset w.bytes volume.bytes }) volume).kind ≡ volume.kind) [ true ↦ refl | false ↦ refl ]

length_after : (w : Write) (volume : PlainVolume) → length (volume_after w volume).bytes ≡ length volume.bytes
length_after w volume = elim (same volume.name w.volume && not (is_snapshot volume.kind)) as (λ b. length (cond b (record volume { bytes = stored w.offset w.bytes volume.bytes }) volume).bytes ≡ length volume.bytes) [ true ↦ length_stored w.offset w.bytes volume.bytes | false ↦ refl ]

-- a write changes no volume's kind and length
fits_before : (p q : PlainPool) (name : List ℕ) (w : Write) (offset len : ℕ) → volume_at name q ≡ option_map (volume_after w) (volume_at name p) → FitsIn q name offset len → FitsIn p name offset len
fits_before p q name w offset len after fits = cases (volume_at name p) refl
  where
    cases : (o : Option PlainVolume) → volume_at name p ≡ o → FitsIn p name offset len
    cases None e = let none : None ≡ Some fits.volume = sym (after ∙ ap (option_map (volume_after w)) e) ∙ fits.there in absurd cc
    cases (Some volume) e =
        let is = some_is (volume_after w volume) fits.volume (sym (after ∙ ap (option_map (volume_after w)) e) ∙ fits.there) in record {
          volume = volume;
          there = e;
          plain = ap is_snapshot (sym (kind_after w volume) ∙ ap (λ (v : PlainVolume). v.kind) is) ∙ fits.plain;
          within = let same_length = sym (length_after w volume) ∙ ap (λ (v : PlainVolume). length v.bytes) is in let le = fits.within in omega arith;
        }

abbrev pub AreMaps : Type 0
AreMaps = (pool : PlainPool) (w : Write) (name : List ℕ) → volume_at name (written pool w) ≡ option_map (volume_after w) (volume_at name pool)

abbrev pub StillAscend : Type 0
StillAscend = (group : ℕ) (pool : PlainPool) (entry : Entry) → AreAscending pool.volumes → AreAscending (applied group pool entry).volumes

abbrev pub AreEqual : Type 0
AreEqual = (pool other : PlainPool) → AreAscending pool.volumes → AreAscending other.volumes → ((name : List ℕ) → volume_at name pool ≡ volume_at name other) → pool ≡ other

module _ (maps : AreMaps) where
  fits_first : (p q : PlainPool) (name : List ℕ) (offset : ℕ) (first second : List ℕ) (at : ℕ) → IsOverwritten name offset first p q → Fits q name at second → Fits p name at second
  fits_first p q name offset first second at over (inl none) = inl none
  fits_first p q name offset first second at over (inr fits) = inr (fits_before p q name (write_of name offset first) at (length second) (over.each name ∙ maps p (write_of name offset first) name) fits)

  -- two writes that fit are one that fits
  pub fits_one : (p q : PlainPool) (name : List ℕ) (offset : ℕ) (first second : List ℕ) → Fits p name offset first → IsOverwritten name offset first p q → Fits q name (offset + length first) second → Fits p name offset (first ++ second)
  fits_one p q name offset first second fits over more = fits_joined p name offset first second fits (fits_first p q name offset first second (offset + length first) over more)

  joined_at : (p : PlainPool) (name : List ℕ) (offset : ℕ) (first second other : List ℕ) → Fits p name offset first → Fits p name (offset + length first) second
      → option_map (volume_after (write_of name (offset + length first) second)) (option_map (volume_after (write_of name offset first)) (volume_at other p)) ≡ option_map (volume_after (write_of name offset (first ++ second))) (volume_at other p)
  joined_at p name offset first second other fits more = cases (volume_at other p) refl
    where
      cases : (o : Option PlainVolume) → volume_at other p ≡ o
          → option_map (volume_after (write_of name (offset + length first) second)) (option_map (volume_after (write_of name offset first)) o) ≡ option_map (volume_after (write_of name offset (first ++ second))) o
      cases None e = refl
      cases (Some volume) e = ap (λ (v : PlainVolume). Some v) (after_both name offset first second volume (λ t.
          let there = found_there p name other volume e t in
          stored_joined offset first second volume.bytes (both_or_none p name offset first volume there fits) (both_or_none p name (offset + length first) second volume there more)))

  module _ (ascend : StillAscend) (equal : AreEqual) where
    pub ascends : (name : List ℕ) (offset : ℕ) (bytes : List ℕ) (p q : PlainPool) → AreAscending p.volumes → IsOverwritten name offset bytes p q → AreAscending q.volumes
    ascends name offset bytes p q up over =
        subst (λ (r : PlainPool). AreAscending r.volumes) (sym (over.whole up)) (ascend 0 p (record { writes = write_of name offset bytes ∷ []; actions = [] }) up)

    -- two writes in a row are one
    pub one_write : (p q r : PlainPool) (name : List ℕ) (offset : ℕ) (first second : List ℕ) → Fits p name offset first → IsOverwritten name offset first p q → Fits q name (offset + length first) second → IsOverwritten name (offset + length first) second q r
        → IsOverwritten name offset (first ++ second) p r
    one_write p q r name offset first second fits over fits_more more = record {
      each = each;
      whole = λ up. equal r (overwritten name offset (first ++ second) p)
          (ascends name (offset + length first) second q r (ascends name offset first p q up over) more)
          (ascend 0 p (record { writes = write_of name offset (first ++ second) ∷ []; actions = [] }) up)
          each;
    }
      where
        each : (other : List ℕ) → volume_at other r ≡ volume_at other (overwritten name offset (first ++ second) p)
        each other =
            more.each other
            ∙ (maps q (write_of name (offset + length first) second) other
            ∙ (ap (option_map (volume_after (write_of name (offset + length first) second))) (over.each other ∙ maps p (write_of name offset first) other)
            ∙ (joined_at p name offset first second other fits (fits_first p q name offset first second (offset + length first) over fits_more)
            ∙ sym (maps p (write_of name offset (first ++ second)) other))))
