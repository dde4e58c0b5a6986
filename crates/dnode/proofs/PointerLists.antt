-- Pointers that are read one after another.
use Rattle.std.proofs.Common.{◌≡◌, ℕ, ◌+◌, ◌<◌, List, [], ◌∷◌, ◌++◌, length, refl, sym, ap, ◌∙◌, append_assoc, arith}
use Rattle.std.specs.List.{AllByRecursion}
use Rattle.std.proofs.lemmas.List.{append-nil, nil_from_length, length-append}
use Rattle.block_pointer.specs.declared.pointer.BlockPtr.{BlockPtr}
use Rattle.block_pointer.specs.Pointer.{spelling}
use Rattle.dnode.specs.Indirect.{FitsPointer, SpellsIndirect, indirect_bytes}

-- the pointers read so far, and what is known of those that are left
pub record AreRead (bytes rest : List ℕ) (pointers : List BlockPtr) (count : ℕ) : Type 0 where
  pub len : length pointers ≡ count
  pub each : AllByRecursion FitsPointer pointers
  pub parts : bytes ≡ indirect_bytes pointers ++ rest
  pub only : (whole : List BlockPtr) → SpellsIndirect bytes whole → (left : List BlockPtr) × AllByRecursion FitsPointer left × (whole ≡ pointers ++ left) × (rest ≡ indirect_bytes left)

pub reading_starts : (bytes : List ℕ) → AreRead bytes bytes [] 0
reading_starts bytes = record { len = refl; each = tt; parts = refl; only = λ whole spells. (whole, spells.0.each, refl, spells.1) }

indirect_bytes-push : (pointers : List BlockPtr) (p : BlockPtr) (rest : List ℕ) → indirect_bytes (pointers ++ p ∷ []) ++ rest ≡ indirect_bytes pointers ++ (spelling p ++ rest)
indirect_bytes-push [] p rest = ap (λ (x : List ℕ). x ++ rest) (append-nil (spelling p))
indirect_bytes-push (q ∷ qs) p rest = append_assoc (spelling q) (indirect_bytes (qs ++ p ∷ [])) rest ∙ ap (λ (x : List ℕ). spelling q ++ x) (indirect_bytes-push qs p rest) ∙ sym (append_assoc (spelling q) (indirect_bytes qs) (spelling p ++ rest))

fit-push : (pointers : List BlockPtr) (p : BlockPtr) → AllByRecursion FitsPointer pointers → FitsPointer p → AllByRecursion FitsPointer (pointers ++ p ∷ [])
fit-push [] p each fits = (fits, tt)
fit-push (q ∷ qs) p each fits = (each.0, fit-push qs p each.1 fits)

-- a pointer is left while not all are read
pub record Begins (rest : List ℕ) (p : BlockPtr) (more : List ℕ) : Type 0 where
  pub fits : FitsPointer p
  pub parts : rest ≡ spelling p ++ more

first_left : (rest : List ℕ) (left : List BlockPtr) → 0 < length left → AllByRecursion FitsPointer left → rest ≡ indirect_bytes left
    → (p : BlockPtr) × (ps : List BlockPtr) × (left ≡ p ∷ ps) × Begins rest p (indirect_bytes ps) × AllByRecursion FitsPointer ps
first_left rest [] some each e = absurd (omega arith)
first_left rest (p ∷ ps) some each e = (p, ps, refl, record { fits = each.0; parts = e }, each.1)

some_left : (whole pointers left : List BlockPtr) (count : ℕ) → whole ≡ pointers ++ left → length whole ≡ 128 → length pointers ≡ count → length left + count ≡ 128
some_left whole pointers left count e len known = omega (arith, ap length e, length-append pointers left)

pub reading_goes_on : (bytes rest more : List ℕ) (pointers : List BlockPtr) (count : ℕ) (p : BlockPtr) → AreRead bytes rest pointers count → count < 128 → FitsPointer p → rest ≡ spelling p ++ more
    → ((q : BlockPtr) (behind : List ℕ) → FitsPointer q → rest ≡ spelling q ++ behind → (p ≡ q) × (more ≡ behind)) → AreRead bytes more (pointers ++ p ∷ []) (count + 1)
reading_goes_on bytes rest more pointers count p so_far few fits parts one = record {
  len = omega (arith, length-append pointers (p ∷ []), so_far.len);
  each = fit-push pointers p so_far.each fits;
  parts = so_far.parts ∙ ap (λ (x : List ℕ). indirect_bytes pointers ++ x) parts ∙ sym (indirect_bytes-push pointers p more);
  only = λ whole spells.
      let known = so_far.only whole spells in
      let long : length known.0 + count ≡ 128 = some_left whole pointers known.0 count known.2 spells.0.count so_far.len in
      let first = first_left rest known.0 (omega arith) known.1 known.3 in
      let same = one first.0 (indirect_bytes first.1) first.3.fits first.3.parts in
      let back : whole ≡ (pointers ++ p ∷ []) ++ first.1 =
      known.2 ∙ ap (λ (x : List BlockPtr). pointers ++ x) (first.2 ∙ ap (λ (x : BlockPtr). x ∷ first.1) (sym same.0)) ∙ sym (append_assoc pointers (p ∷ []) first.1) in
      (first.1, first.4, back, same.1);
}

-- where no pointer is at the front, the bytes spell no block
pub reading_stops : (bytes rest : List ℕ) (pointers : List BlockPtr) (count : ℕ) → AreRead bytes rest pointers count → count < 128 → ((p : BlockPtr) (more : List ℕ) → FitsPointer p → rest ≡ spelling p ++ more → ⊥)
    → (whole : List BlockPtr) → SpellsIndirect bytes whole → ⊥
reading_stops bytes rest pointers count so_far few none whole spells =
    let known = so_far.only whole spells in
    let long : length known.0 + count ≡ 128 = some_left whole pointers known.0 count known.2 spells.0.count so_far.len in
    let first = first_left rest known.0 (omega arith) known.1 known.3 in
    none first.0 (indirect_bytes first.1) first.3.fits first.3.parts

-- when all are read, a block that the bytes spell has these pointers and no bytes more
pub reading_ends : (bytes rest : List ℕ) (pointers : List BlockPtr) → AreRead bytes rest pointers 128 → (whole : List BlockPtr) → SpellsIndirect bytes whole → (whole ≡ pointers) × (rest ≡ [])
reading_ends bytes rest pointers so_far whole spells =
    let known = so_far.only whole spells in
    let long : length known.0 + 128 ≡ 128 = some_left whole pointers known.0 128 known.2 spells.0.count so_far.len in
    let none : known.0 ≡ [] = nil_from_length known.0 (omega arith) in
    (known.2 ∙ ap (λ (x : List BlockPtr). pointers ++ x) none ∙ append-nil pointers, known.3 ∙ ap indirect_bytes none)

pub all_read : (bytes rest : List ℕ) (pointers : List BlockPtr) → AreRead bytes rest pointers 128 → length rest ≡ 0 → SpellsIndirect bytes pointers
all_read bytes rest pointers so_far none =
    (record { count = so_far.len; each = so_far.each }, so_far.parts ∙ ap (λ (x : List ℕ). indirect_bytes pointers ++ x) (nil_from_length rest none) ∙ append-nil (indirect_bytes pointers))
