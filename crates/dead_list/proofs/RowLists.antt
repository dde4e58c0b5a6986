-- Rows that are read one after another.
use Rattle.std.specs.Result.{IsErrAnd, IfErr}
use Rattle.std.proofs.Common.{◌≡◌, ℕ, ◌*◌, ◌<◌, Result, Ok, Err, subst, List, [], ◌∷◌, ◌++◌, length, refl, sym, ap, ◌∙◌, append_assoc, arith}
use Rattle.std.specs.List.{AllByRecursion}
use Rattle.std.proofs.lemmas.List.{append-nil, nil_from_length, length-append}
use Rattle.block_pointer.specs.declared.block.Block.{Block}
use Rattle.dead_list.specs.Rows.{FitsRow, row, rows}

-- the blocks read so far, and what is known of those that are left
pub record AreRead (bytes rest : List ℕ) (blocks : List Block) : Type 0 where
  pub each : AllByRecursion FitsRow blocks
  pub parts : bytes ≡ rows blocks ++ rest
  pub only : (whole : List Block) → AllByRecursion FitsRow whole → bytes ≡ rows whole → (left : List Block) × AllByRecursion FitsRow left × (whole ≡ blocks ++ left) × (rest ≡ rows left)

pub reading_starts : (bytes : List ℕ) → AreRead bytes bytes []
reading_starts bytes = record { each = tt; parts = refl; only = λ whole each e. (whole, each, refl, e) }

rows-push : (blocks : List Block) (b : Block) (rest : List ℕ) → rows (blocks ++ b ∷ []) ++ rest ≡ rows blocks ++ (row b ++ rest)
rows-push [] b rest = ap (λ (x : List ℕ). x ++ rest) (append-nil (row b))
rows-push (c ∷ cs) b rest = append_assoc (row c) (rows (cs ++ b ∷ [])) rest ∙ ap (λ (x : List ℕ). row c ++ x) (rows-push cs b rest) ∙ sym (append_assoc (row c) (rows cs) (row b ++ rest))

fit-push : (blocks : List Block) (b : Block) → AllByRecursion FitsRow blocks → FitsRow b → AllByRecursion FitsRow (blocks ++ b ∷ [])
fit-push [] b each fits = (fits, tt)
fit-push (c ∷ cs) b each fits = (each.0, fit-push cs b each.1 fits)

-- a row is left while bytes are
pub record Begins (rest : List ℕ) (b : Block) (more : List ℕ) : Type 0 where
  pub fits : FitsRow b
  pub parts : rest ≡ row b ++ more

first_left : (rest : List ℕ) (left : List Block) → 0 < length rest → AllByRecursion FitsRow left → rest ≡ rows left → (b : Block) × (bs : List Block) × (left ≡ b ∷ bs) × Begins rest b (rows bs) × AllByRecursion FitsRow bs
first_left rest [] some each e = let none : length rest ≡ 0 = ap length e in absurd (omega arith)
first_left rest (b ∷ bs) some each e = (b, bs, refl, record { fits = each.0; parts = e }, each.1)

pub reading_goes_on : (bytes rest more : List ℕ) (blocks : List Block) (b : Block) → AreRead bytes rest blocks → 0 < length rest → FitsRow b → rest ≡ row b ++ more
    → ((c : Block) (behind : List ℕ) → FitsRow c → rest ≡ row c ++ behind → (b ≡ c) × (more ≡ behind)) → AreRead bytes more (blocks ++ b ∷ [])
reading_goes_on bytes rest more blocks b so_far some fits parts one = record {
  each = fit-push blocks b so_far.each fits;
  parts = so_far.parts ∙ ap (λ (x : List ℕ). rows blocks ++ x) parts ∙ sym (rows-push blocks b more);
  only = λ whole each e.
      let known = so_far.only whole each e in
      let first = first_left rest known.0 some known.1 known.3 in
      let same = one first.0 (rows first.1) first.3.fits first.3.parts in
      let back : whole ≡ (blocks ++ b ∷ []) ++ first.1 =
      known.2 ∙ ap (λ (x : List Block). blocks ++ x) (first.2 ∙ ap (λ (x : Block). x ∷ first.1) (sym same.0)) ∙ sym (append_assoc blocks (b ∷ []) first.1) in
      (first.1, first.4, back, same.1);
}

-- where no row is at the front, the bytes are no rows
pub reading_stops : (bytes rest : List ℕ) (blocks : List Block) → AreRead bytes rest blocks → 0 < length rest → ((b : Block) (more : List ℕ) → FitsRow b → rest ≡ row b ++ more → ⊥)
    → (whole : List Block) → AllByRecursion FitsRow whole → bytes ≡ rows whole → ⊥
reading_stops bytes rest blocks so_far some none whole each e =
    let known = so_far.only whole each e in
    let first = first_left rest known.0 some known.1 known.3 in
    none first.0 (rows first.1) first.3.fits first.3.parts

-- when all are read, rows that the bytes are have these blocks
pub reading_ends : (bytes rest : List ℕ) (blocks : List Block) → AreRead bytes rest blocks → length rest ≡ 0 → (whole : List Block) → AllByRecursion FitsRow whole → bytes ≡ rows whole → blocks ≡ whole
reading_ends bytes rest blocks so_far none whole each e =
    let known = so_far.only whole each e in
    sym (known.2 ∙ ap (λ (x : List Block). blocks ++ x) (no_rows known.0 known.1 known.3) ∙ append-nil blocks)
  where
    no_rows : (left : List Block) → AllByRecursion FitsRow left → rest ≡ rows left → left ≡ []
    no_rows [] fits is = refl
    no_rows (b ∷ bs) fits is = absurd (omega (arith, ap length is, length-append (row b) (rows bs), fits.0.1, none))

pub all_read : (bytes rest : List ℕ) (blocks : List Block) → AreRead bytes rest blocks → length rest ≡ 0 → bytes ≡ rows blocks
all_read bytes rest blocks so_far none = so_far.parts ∙ ap (λ (x : List ℕ). rows blocks ++ x) (nil_from_length rest none) ∙ append-nil (rows blocks)

-- so many rows of 128 bytes
pub rows_length : (blocks : List Block) → AllByRecursion FitsRow blocks → length (rows blocks) ≡ length blocks * 128
rows_length [] each = refl
rows_length (b ∷ bs) each = omega (arith, length-append (row b) (rows bs), each.0.1, rows_length bs each.1)

-- what is known of a refusal is known where it is passed on
pub passed_on : {T E : Type 0} (result : Result T E) (refusal : E) (P : E → Type 0) → IsErrAnd result (λ e. e ≡ refusal) → P refusal → IfErr result P
passed_on (Ok x) refusal P is known = tt
passed_on (Err e) refusal P is known = subst (λ r. P r) (sym is) known
