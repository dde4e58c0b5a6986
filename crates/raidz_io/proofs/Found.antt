-- A choice that is tried.
use Rattle.std.proofs.Common.{ℕ, suc, ◌≡◌, ◌+◌, ◌<◌, ◌≤◌, Bool, false, IsTrue, Option, None, IfSome, IfNone, inl, inr, List, [], ◌∷◌, ◌++◌, length, map, take, slice_index, sum, Some, All, Contains, refl, sym, ap, subst, ◌∙◌, append_assoc, arith, length-append}
use Rattle.std.specs.List.{slice_get}
use Rattle.std.proofs.lemmas.List.{ext_get_or, take_at, map-append}
use Rattle.std.proofs.lemmas.Bool.{cases_lt}
use Rattle.std.proofs.lemmas.List.Elements.{All-push, Contains-append_left}
use Rattle.std.proofs.lemmas.List.Sums.{sum_by-cons}
use Rattle.sha2.specs.Sha256.{sha256}
use Rattle.raidz_parity.specs.Layout.{Block, AreBytes, columns_of, joined}
use Rattle.raidz_parity.specs.Parity.{IsParity, IsParityOf}
use Rattle.raidz_io.specs.Stripe.{stripe_sizes, HasSizes, read_columns, MatchesBut}
use Rattle.raidz_io.specs.Choices.{IsWhole, IsFound, IsFoundChoice, HasNone, AreFurther}
use Rattle.raidz_io.proofs.Agree.{AreBytes-columns_of}
use Rattle.raidz_io.proofs.Parts.{joined_buffer}
use Rattle.raidz_io.proofs.Tries.{append-nil, joined-append, columns_of-joined}

-- the block of the columns
pub block_of_whole : (p : ℕ) (sizes block : List ℕ) (columns : Block) → IsWhole p sizes block columns → joined columns.data_columns ≡ block
block_of_whole p sizes block columns whole = ap joined whole.block_columns ∙ joined_buffer sizes block whole.block_size

pub whole_bytes : (p : ℕ) (sizes block : List ℕ) (columns : Block) → IsWhole p sizes block columns → AreBytes columns.data_columns
whole_bytes p sizes block columns whole = subst AreBytes (sym whole.block_columns) (AreBytes-columns_of sizes block whole.bytes)

-- what was rebuilt is the block of any columns that match
pub made_is : (p : ℕ) (sizes bytes wrong made block : List ℕ) (columns : Block)
    → ((right : Block) → AreBytes right.data_columns → IsParity right → HasSizes p sizes right
    → MatchesBut wrong (read_columns right) (columns_of (stripe_sizes p sizes) bytes) → made ≡ joined right.data_columns)
    → IsWhole p sizes block columns → MatchesBut wrong (read_columns columns) (columns_of (stripe_sizes p sizes) bytes) → made ≡ block
made_is p sizes bytes wrong made block columns rebuilds whole matches =
    rebuilds columns (whole_bytes p sizes block columns whole) whole.is_parity whole.has_sizes matches ∙ block_of_whole p sizes block columns whole

same_columns : (xs ys : List (List ℕ)) → map (length {A = ℕ}) ys ≡ map (length {A = ℕ}) xs
    → ((row : ℕ) (x y : List ℕ) → slice_get xs row ≡ Some x → slice_get ys row ≡ Some y → (j : ℕ) → slice_index y j ≡ slice_index x j) → ys ≡ xs
same_columns [] [] lengths same = refl
same_columns [] (y ∷ ys) lengths same = absurd (cc)
same_columns (x ∷ xs) [] lengths same = absurd (cc)
same_columns (x ∷ xs) (y ∷ ys) lengths same =
    let column : y ≡ x = ext_get_or 0 y x (cc) (λ j within. same 0 x y refl refl j) in
    let rest : ys ≡ xs = same_columns xs ys (cc) (λ row. same (suc row)) in
    cc

-- a block has one parity
pub same_whole : (p : ℕ) (sizes block : List ℕ) (a b : Block) → IsWhole p sizes block a → IsWhole p sizes block b → b ≡ a
same_whole p sizes block a b is_a is_b =
    let parts : b.data_columns ≡ a.data_columns = is_b.block_columns ∙ sym is_a.block_columns in
    let rows : b.parity ≡ a.parity =
    same_columns a.parity b.parity (is_b.has_sizes.parity_sizes ∙ sym is_a.has_sizes.parity_sizes) (λ row x y at at' j.
    let Holds : List (List ℕ) → Type 0 = λ columns. IsParityOf row y columns in
    subst Holds parts (is_b.is_parity row y at') j ∙ sym (is_a.is_parity row x at j)) in
    let made : List (List ℕ) → List (List ℕ) → Block = λ ps ds. record { parity = ps; data_columns = ds } in
    ap (λ ps. made ps b.data_columns) rows ∙ ap (made a.parity) parts

-- the sizes of all columns
pub whole_sizes : (p : ℕ) (sizes : List ℕ) (columns : Block) → HasSizes p sizes columns → map (length {A = ℕ}) (read_columns columns) ≡ stripe_sizes p sizes
whole_sizes p sizes columns has =
    map-append (length {A = ℕ}) columns.data_columns columns.parity
    ∙ ap (λ front. front ++ map (length {A = ℕ}) columns.parity) has.data_sizes ∙ ap (λ back. sizes ++ back) has.parity_sizes

length-joined : (columns : List (List ℕ)) → length (joined columns) ≡ sum (map (length {A = ℕ}) columns)
length-joined [] = refl
length-joined (x ∷ columns) =
    omega (arith, length-append x (joined columns), length-joined columns, sum_by-cons (λ m. m) (length x) (map (length {A = ℕ}) columns))

pub whole_length : (p : ℕ) (sizes whole all : List ℕ) (columns : Block) → HasSizes p sizes columns → whole ≡ joined (read_columns columns)
    → all ≡ stripe_sizes p sizes → sum all ≡ length whole
whole_length p sizes whole all columns has is all_is =
    ap sum (all_is ∙ sym (whole_sizes p sizes columns has)) ∙ sym (length-joined (read_columns columns)) ∙ ap (length {A = ℕ}) (sym is)

-- the buffer cut into columns
pub whole_columns : (p : ℕ) (sizes whole all : List ℕ) (columns : Block) → HasSizes p sizes columns → whole ≡ joined (read_columns columns)
    → all ≡ stripe_sizes p sizes → columns_of all whole ≡ read_columns columns
whole_columns p sizes whole all columns has is all_is =
    ap (columns_of all) is ∙ ap (λ ns. columns_of ns (joined (read_columns columns))) all_is
    ∙ columns_of-joined (stripe_sizes p sizes) (read_columns columns) (whole_sizes p sizes columns has)

-- the block at its front
pub whole_front : (p size : ℕ) (sizes block whole : List ℕ) (columns : Block) → IsWhole p sizes block columns → whole ≡ joined (read_columns columns)
    → size ≡ sum sizes → take size whole ≡ block
whole_front p size sizes block whole columns is whole_is size_is =
    let front : joined columns.data_columns ≡ block = block_of_whole p sizes block columns is in
    ap (take size) (whole_is ∙ joined-append columns.data_columns columns.parity)
    ∙ take_at (joined columns.data_columns) (joined columns.parity) size (ap (length {A = ℕ}) front ∙ is.block_size ∙ sym size_is) ∙ front

-- where the columns of the block that was made do not match, none do
pub none_agrees : (p : ℕ) (sizes bytes wrong made whole all digest : List ℕ) (columns : Block)
    → ((right : Block) → AreBytes right.data_columns → IsParity right → HasSizes p sizes right
    → MatchesBut wrong (read_columns right) (columns_of (stripe_sizes p sizes) bytes) → made ≡ joined right.data_columns)
    → IsWhole p sizes made columns → whole ≡ joined (read_columns columns) → all ≡ stripe_sizes p sizes
    → ¬ MatchesBut wrong (columns_of all whole) (columns_of all bytes) → HasNone digest p sizes bytes wrong
none_agrees p sizes bytes wrong made whole all digest columns rebuilds is whole_is all_is differ block right right_is matches same_digest =
    let made_block : made ≡ block = made_is p sizes bytes wrong made block right rebuilds right_is matches in
    let P : List ℕ → Type 0 = λ b. IsWhole p sizes b columns in
    let same : right ≡ columns = same_whole p sizes block columns right (subst P made_block is) right_is in
    differ (rw (whole_columns p sizes whole all columns is.has_sizes whole_is all_is, all_is)
    (let Q : Block → Type 0 = λ b. MatchesBut wrong (read_columns b) (columns_of (stripe_sizes p sizes) bytes) in subst Q same matches))

-- where they do, and the digest is right, the block is found
pub found_choice : (p size : ℕ) (sizes bytes wrong made block whole all digest : List ℕ) (columns : Block)
    → ((right : Block) → AreBytes right.data_columns → IsParity right → HasSizes p sizes right
    → MatchesBut wrong (read_columns right) (columns_of (stripe_sizes p sizes) bytes) → made ≡ joined right.data_columns)
    → IsWhole p sizes made columns → whole ≡ joined (read_columns columns) → all ≡ stripe_sizes p sizes → size ≡ sum sizes → block ≡ take size whole
    → MatchesBut wrong (columns_of all whole) (columns_of all bytes) → sha256 block ≡ digest → IsFound digest p sizes bytes wrong block
found_choice p size sizes bytes wrong made block whole all digest columns rebuilds is whole_is all_is size_is block_is agree digest_is =
    let same : made ≡ block = sym (block_is ∙ whole_front p size sizes made whole columns is whole_is size_is) in
    let P : List ℕ → Type 0 = λ b. IsWhole p sizes b columns in
    let Q : List ℕ → Type 0 = λ ns. MatchesBut wrong (columns_of ns whole) (columns_of ns bytes) in
    record {
      digest_is = digest_is;
      columns = columns;
      whole = subst P same is;
      matches =
          (let R : List (List ℕ) → Type 0 = λ cs. MatchesBut wrong cs (columns_of (stripe_sizes p sizes) bytes) in
          subst R (whole_columns p sizes whole (stripe_sizes p sizes) columns is.has_sizes whole_is refl) (subst Q all_is agree));
      only = λ other right right_is matches. sym same ∙ made_is p sizes bytes wrong made other right rebuilds right_is matches;
    }

-- where the digest of the block that was made is another, none has it
pub none_has_digest : (p size : ℕ) (sizes bytes wrong made block whole digest : List ℕ) (columns : Block)
    → ((right : Block) → AreBytes right.data_columns → IsParity right → HasSizes p sizes right
    → MatchesBut wrong (read_columns right) (columns_of (stripe_sizes p sizes) bytes) → made ≡ joined right.data_columns)
    → IsWhole p sizes made columns → whole ≡ joined (read_columns columns) → size ≡ sum sizes → block ≡ take size whole
    → ¬ (sha256 block ≡ digest) → HasNone digest p sizes bytes wrong
none_has_digest p size sizes bytes wrong made block whole digest columns rebuilds is whole_is size_is block_is differ other right right_is matches same_digest =
    let same : made ≡ block = sym (block_is ∙ whole_front p size sizes made whole columns is whole_is size_is) in
    let is_other : block ≡ other = sym same ∙ made_is p sizes bytes wrong made other right rebuilds right_is matches in
    differ (ap sha256 is_other ∙ same_digest)

-- where what was made has another size, there is none
pub none_fits : (p size n : ℕ) (sizes bytes wrong made digest : List ℕ)
    → ((right : Block) → AreBytes right.data_columns → IsParity right → HasSizes p sizes right
    → MatchesBut wrong (read_columns right) (columns_of (stripe_sizes p sizes) bytes) → made ≡ joined right.data_columns)
    → size ≡ sum sizes → n ≡ length made → ¬ (n ≡ size) → HasNone digest p sizes bytes wrong
none_fits p size n sizes bytes wrong made digest rebuilds size_is n_is differ other right right_is matches same_digest =
    let same : made ≡ other = made_is p sizes bytes wrong made other right rebuilds right_is matches in
    differ (n_is ∙ ap (length {A = ℕ}) same ∙ right_is.block_size ∙ sym size_is)

-- the same block by another name
pub whole_at : (p : ℕ) (sizes slice block : List ℕ) (columns : Block) → slice ≡ block → IsWhole p sizes slice columns → IsWhole p sizes block columns
whole_at p sizes slice block columns same whole = let P : List ℕ → Type 0 = λ b. IsWhole p sizes b columns in subst P same whole

pub false_not_true : (b : Bool) → b ≡ false → ¬ IsTrue b
false_not_true b never is = absurd (cc)

pub some_at : {X : Type 0} (o : Option X) (x : X) (P : X → Type 0) → o ≡ Some x → IfSome o P → P x
some_at None x P is held = absurd (cc)
some_at (Some y) x P is held = let same : y ≡ x = cc in subst P same held

pub none_at : {X : Type 0} (o : Option X) (P : Type 0) → o ≡ None → IfNone o P → P
none_at None P is held = held
none_at (Some y) P is held = absurd (cc)

-- a choice with one more wrong column
pub one_more : (p : ℕ) (sizes bytes wrong more block digest : List ℕ) (column : ℕ) → length wrong < p → All (λ k. k < length sizes + p) wrong
    → column < length sizes + p → more ≡ wrong ++ column ∷ [] → IsFound digest p sizes bytes more block → IsFoundChoice digest p sizes bytes wrong block
one_more p sizes bytes wrong more block digest column few below inside is found =
    let P : List ℕ → Type 0 = λ ws. IsFound digest p sizes bytes ws block in
    record {
      wrong = wrong ++ column ∷ [];
      few = omega (arith, few, length-append wrong (column ∷ []));
      below = All-push (λ k. k < length sizes + p) wrong column below inside;
      lost_are_wrong = λ k held. Contains-append_left wrong (column ∷ []) k held;
      found = subst P is found;
    }

-- of one with one more
pub two_more : (p : ℕ) (sizes bytes wrong more block digest : List ℕ) (column : ℕ) → more ≡ wrong ++ column ∷ []
    → IsFoundChoice digest p sizes bytes more block → IsFoundChoice digest p sizes bytes wrong block
two_more p sizes bytes wrong more block digest column is found = record {
  wrong = found.wrong;
  few = found.few;
  below = found.below;
  lost_are_wrong = λ k held. found.lost_are_wrong k (subst (λ (ws : List ℕ). Contains ws k) (sym is) (Contains-append_left wrong (column ∷ []) k held));
  found = found.found;
}

-- no choice with one more has it
pub none_more : (digest : List ℕ) (p : ℕ) (sizes bytes wrong more : List ℕ) (from column : ℕ)
    → ((k : ℕ) → from ≤ k → k < column → HasNone digest p sizes bytes (wrong ++ k ∷ []))
    → more ≡ wrong ++ column ∷ [] → HasNone digest p sizes bytes more
    → (k : ℕ) → from ≤ k → k < column + 1 → HasNone digest p sizes bytes (wrong ++ k ∷ [])
none_more digest p sizes bytes wrong more from column before is none k start within =
    elim (cases_lt k column) [
      | inl earlier ↦ before k start earlier
      | inr here ↦
          let same : column ≡ k = omega arith in
          let P : List ℕ → Type 0 = HasNone digest p sizes bytes in
          let Q : ℕ → Type 0 = λ n. HasNone digest p sizes bytes (wrong ++ n ∷ []) in
          subst Q same (subst P is none)
    ]

pub none_two_more : (digest : List ℕ) (p : ℕ) (sizes bytes wrong more : List ℕ) (count column : ℕ)
    → ((i k : ℕ) → i < column → i < k → k < count → HasNone digest p sizes bytes ((wrong ++ i ∷ []) ++ k ∷ []))
    → more ≡ wrong ++ column ∷ [] → ((k : ℕ) → column + 1 ≤ k → k < count → HasNone digest p sizes bytes (more ++ k ∷ []))
    → (i k : ℕ) → i < column + 1 → i < k → k < count → HasNone digest p sizes bytes ((wrong ++ i ∷ []) ++ k ∷ [])
none_two_more digest p sizes bytes wrong more count column before is none i k within less below =
    elim (cases_lt i column) [
      | inl earlier ↦ before i k earlier less below
      | inr here ↦
          let same : column ≡ i = omega arith in
          let P : List ℕ → Type 0 = λ ws. HasNone digest p sizes bytes (ws ++ k ∷ []) in
          let Q : ℕ → Type 0 = λ n. HasNone digest p sizes bytes ((wrong ++ n ∷ []) ++ k ∷ []) in
          subst Q same (subst P is (none k (omega arith) below))
    ]

-- no choice with as many more as there may be
pub none_further : (digest : List ℕ) (p count : ℕ) (sizes bytes lost : List ℕ) → p ≤ 2 → HasNone digest p sizes bytes lost
    → (length lost < p → (k : ℕ) → k < count → HasNone digest p sizes bytes (lost ++ k ∷ []))
    → (length lost + 1 < p → (i k : ℕ) → i < k → k < count → HasNone digest p sizes bytes ((lost ++ i ∷ []) ++ k ∷ []))
    → (further : List ℕ) → AreFurther 0 count further → length lost + length further ≤ p → HasNone digest p sizes bytes (lost ++ further)
none_further digest p count sizes bytes lost most none one two [] are few =
    let P : List ℕ → Type 0 = HasNone digest p sizes bytes in subst P (sym (append-nil lost)) none
none_further digest p count sizes bytes lost most none one two (i ∷ []) are few = one (omega arith) i are.1
none_further digest p count sizes bytes lost most none one two (i ∷ k ∷ []) are few =
    let P : List ℕ → Type 0 = HasNone digest p sizes bytes in
    subst P (append_assoc lost (i ∷ []) (k ∷ [])) (two (omega arith) i k (omega (arith, are.2.0)) are.2.1)
none_further digest p count sizes bytes lost most none one two (i ∷ k ∷ j ∷ further) are few = absurd (omega arith)

-- where nothing but the lost columns is wrong, and the first try finds none, no block has the digest
pub none_lost : (p : ℕ) (sizes bytes lost block digest : List ℕ) → HasNone digest p sizes bytes lost
    → (other : List ℕ) (right : Block) → IsWhole p sizes other right
    → MatchesBut lost (read_columns right) (columns_of (stripe_sizes p sizes) bytes) → sha256 other ≡ digest → block ≡ other
none_lost p sizes bytes lost block digest none other right whole matches same = absurd (none other right whole matches same)

pub sized_below : (sizes wrong : List ℕ) (n p : ℕ) → length sizes ≡ n → All (λ k. k < n + p) wrong → All (λ k. k < length sizes + p) wrong
sized_below sizes wrong n p same below = rw same below

pub IfSome-each : {X : Type 0} (o : Option X) (P : X → Type 0) → ((x : X) → P x) → IfSome o P
IfSome-each None P each = tt
IfSome-each (Some x) P each = each x

pub IfNone-map : {X : Type 0} (o : Option X) (P Q : Type 0) → (P → Q) → IfNone o P → IfNone o Q
IfNone-map None P Q made held = made held
IfNone-map (Some x) P Q made held = tt
