-- Values that are read one after the other.
use Rattle.std.proofs.Common.{◌≡◌, ℕ, ◌<◌, List, [], ◌∷◌, ◌++◌, length, All, refl, sym, ap, ◌∙◌, append_assoc, arith}
use Rattle.std.specs.List.{flat_map}
use Rattle.std.proofs.lemmas.Grind.{flat_map-append}
use Rattle.std.proofs.lemmas.List.{append-nil, nil_from_length}
use Rattle.std.proofs.lemmas.List.Elements.{All-nil, All-cons, All-head, All-tail, All-append}

-- the values read so far, and what is known of those that are left
pub record AreRead {X : Type 0} (spelling : X → List ℕ) (Fits : X → Type 0) (bytes rest : List ℕ) (xs : List X) : Type 0 where
  pub each : All Fits xs
  pub parts : bytes ≡ flat_map spelling xs ++ rest
  pub only : (whole : List X) → All Fits whole → bytes ≡ flat_map spelling whole → (left : List X) × All Fits left × (whole ≡ xs ++ left) × (rest ≡ flat_map spelling left)

pub reading_starts : {X : Type 0} (spelling : X → List ℕ) (Fits : X → Type 0) (bytes : List ℕ) → AreRead spelling Fits bytes bytes []
reading_starts spelling Fits bytes = record { each = All-nil Fits; parts = refl; only = λ whole fits is. (whole, fits, refl, is) }

-- one value is left at least
pub first_left : {X : Type 0} (spelling : X → List ℕ) (Fits : X → Type 0) (rest : List ℕ) (left : List X) → 0 < length rest → All Fits left → rest ≡ flat_map spelling left
    → (x : X) × (xs : List X) × (left ≡ x ∷ xs) × Fits x × (rest ≡ spelling x ++ flat_map spelling xs) × All Fits xs
first_left spelling Fits rest [] some each e = absurd (omega (arith, ap length e, some))
first_left spelling Fits rest (x ∷ xs) some each e = (x, xs, refl, All-head Fits x xs each, e, All-tail Fits x xs each)

pushed : {X : Type 0} (spelling : X → List ℕ) (xs : List X) (x : X) (rest : List ℕ) → flat_map spelling xs ++ (spelling x ++ rest) ≡ flat_map spelling (xs ++ x ∷ []) ++ rest
pushed spelling xs x rest =
    sym (append_assoc (flat_map spelling xs) (spelling x) rest)
    ∙ ap (λ (bytes : List ℕ). bytes ++ rest) (ap (λ (bytes : List ℕ). flat_map spelling xs ++ bytes) (sym (append-nil (spelling x))) ∙ sym (flat_map-append spelling xs (x ∷ [])))

pub reading_goes_on : {X : Type 0} (spelling : X → List ℕ) (Fits : X → Type 0) (bytes rest more : List ℕ) (xs : List X) (x : X) → AreRead spelling Fits bytes rest xs → 0 < length rest → Fits x → rest ≡ spelling x ++ more
    → ((y : X) (behind : List ℕ) → Fits y → rest ≡ spelling y ++ behind → (x ≡ y) × (more ≡ behind)) → AreRead spelling Fits bytes more (xs ++ x ∷ [])
reading_goes_on {X} spelling Fits bytes rest more xs x so_far some fits parts one = record {
  each = All-append Fits xs (x ∷ []) so_far.each (All-cons Fits x [] fits (All-nil Fits));
  parts = so_far.parts ∙ ap (λ (b : List ℕ). flat_map spelling xs ++ b) parts ∙ pushed spelling xs x more;
  only = λ whole each is.
      let known = so_far.only whole each is in
      let first = first_left spelling Fits rest known.0 some known.1 known.3 in
      let same = one first.0 (flat_map spelling first.1) first.3 first.4 in
      let back : whole ≡ (xs ++ x ∷ []) ++ first.1 =
      known.2 ∙ ap (λ (ys : List X). xs ++ ys) (first.2 ∙ ap (λ (y : X). y ∷ first.1) (sym same.0)) ∙ sym (append_assoc xs (x ∷ []) first.1) in
      (first.1, first.5, back, same.1);
}

-- where no value is at the front, the bytes spell no list
pub reading_stops : {X : Type 0} (spelling : X → List ℕ) (Fits : X → Type 0) (bytes rest : List ℕ) (xs : List X) → AreRead spelling Fits bytes rest xs → 0 < length rest
    → ((x : X) (more : List ℕ) → Fits x → rest ≡ spelling x ++ more → ⊥) → (whole : List X) → All Fits whole → bytes ≡ flat_map spelling whole → ⊥
reading_stops spelling Fits bytes rest xs so_far some none whole each is =
    let known = so_far.only whole each is in
    let first = first_left spelling Fits rest known.0 some known.1 known.3 in
    none first.0 (flat_map spelling first.1) first.3 first.4

-- when no bytes are left, the values are all that the bytes spell
pub all_read : {X : Type 0} (spelling : X → List ℕ) (Fits : X → Type 0) (bytes rest : List ℕ) (xs : List X) → AreRead spelling Fits bytes rest xs → length rest ≡ 0 → bytes ≡ flat_map spelling xs
all_read spelling Fits bytes rest xs so_far none = so_far.parts ∙ ap (λ (b : List ℕ). flat_map spelling xs ++ b) (nil_from_length rest none) ∙ append-nil (flat_map spelling xs)
