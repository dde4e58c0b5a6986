-- The bytes of a pointer spell one block.
use Rattle.std.proofs.Common.{◌≡◌, ◌+◌, ◌*◌, ◌^◌, ℕ, List, [], ◌∷◌, ◌++◌, length, get_or, take, drop, refl, sym, ap, ◌∙◌, arith}
use Rattle.std.specs.Int.{w64, to_le_bytes, from_le_bytes}
use Rattle.std.proofs.lemmas.List.{take_at, drop_at}
use Rattle.std.proofs.lemmas.List.Concat.{flat_map-cons}
use Rattle.std.proofs.lemmas.Nat.{from_le_bytes-to_le_bytes_8}
use Rattle.block_pointer.specs.Block.{FitsBlock, block_words}
use Rattle.block_pointer.specs.Copies.{FitsCopies, copies_words}
use Rattle.block_pointer.specs.Dva.{FitsDva}
use Rattle.block_pointer.specs.Pointer.{spelling}
use Rattle.block_pointer.specs.Property.{FitsProperty, property_word}
use Rattle.block_pointer.specs.declared.block.Block.{Block}
use Rattle.block_pointer.specs.declared.copies.Copies.{Copies}
use Rattle.block_pointer.specs.declared.copies.Copies.TheVariants.{One, Two, Three}
use Rattle.block_pointer.specs.declared.dva.Dva.{Dva}
use Rattle.block_pointer.specs.declared.pointer.BlockPtr.TheVariants.{Block as At}
use Rattle.block_pointer.specs.declared.property.Property.{Property}
use Rattle.block_pointer.proofs.Parts.{AreWords-block, length-words}
use Rattle.words.specs.Words.{AreWords, word_bytes}
use Rattle.words.proofs.WordLemmas.{length-word_bytes}

pub words_one : (xs ys : List ℕ) → length xs ≡ length ys → AreWords xs → AreWords ys → word_bytes xs ≡ word_bytes ys → xs ≡ ys
words_one [] [] len one two e = refl
words_one [] (y ∷ ys) len one two e = absurd cc
words_one (x ∷ xs) [] len one two e = absurd cc
words_one (x ∷ xs) (y ∷ ys) len one two e =
    let both : to_le_bytes w64 x ++ word_bytes xs ≡ to_le_bytes w64 y ++ word_bytes ys = sym (flat_map-cons (to_le_bytes w64) x xs) ∙ e ∙ flat_map-cons (to_le_bytes w64) y ys in
    let front : to_le_bytes w64 x ≡ to_le_bytes w64 y = sym (take_at (to_le_bytes w64 x) (word_bytes xs) 8 refl) ∙ ap (take 8) both ∙ take_at (to_le_bytes w64 y) (word_bytes ys) 8 refl in
    let back : word_bytes xs ≡ word_bytes ys = sym (drop_at (to_le_bytes w64 x) (word_bytes xs) 8 refl) ∙ ap (drop 8) both ∙ drop_at (to_le_bytes w64 y) (word_bytes ys) 8 refl in
    let first : x ≡ y = sym (from_le_bytes-to_le_bytes_8 x one.0) ∙ ap (from_le_bytes w64) front ∙ from_le_bytes-to_le_bytes_8 y two.0 in
    let rest : xs ≡ ys = words_one xs ys (cc) one.1 two.1 back in
    cc

-- the word at a place
pub word_at : (place : ℕ) {xs ys : List ℕ} → xs ≡ ys → get_or xs place 0 ≡ get_or ys place 0
word_at place e = ap (λ (words : List ℕ). get_or words place 0) e

dva_one : (a b : Dva) → FitsDva a → FitsDva b → a.vdev * 2 ^ 32 + a.allocated ≡ b.vdev * 2 ^ 32 + b.allocated → a.offset ≡ b.offset → a ≡ b
dva_one a b one two first second =
    let low = one.allocated in
    let high = two.allocated in
    let vdev : a.vdev ≡ b.vdev = omega (arith, first, low, high) in
    let allocated : a.allocated ≡ b.allocated = omega (arith, first, low, high) in
    λ i. record { vdev = vdev i; offset = second i; allocated = allocated i }

some_place : {A : Type 0} (a : Dva) → FitsDva a → a.vdev * 2 ^ 32 + a.allocated ≡ 0 → A
some_place a fits e = let used = fits.used in absurd (omega (arith, used, e))

copies_one : (a b : Copies) (x y : List ℕ) → FitsCopies a → FitsCopies b → copies_words a ++ x ≡ copies_words b ++ y → a ≡ b
copies_one (One a) (One b) x y one two e = ap One (dva_one a b one.0 two.0 (word_at 0 e) (word_at 1 e))
copies_one (One a) (Two b c) x y one two e = some_place c two.1.0 (sym (word_at 2 e))
copies_one (One a) (Three b c d) x y one two e = some_place c two.1.0 (sym (word_at 2 e))
copies_one (Two a b) (One c) x y one two e = some_place b one.1.0 (word_at 2 e)
copies_one (Two a b) (Two c d) x y one two e =
    let first = dva_one a c one.0 two.0 (word_at 0 e) (word_at 1 e) in
    let second = dva_one b d one.1.0 two.1.0 (word_at 2 e) (word_at 3 e) in
    λ i. Two (first i) (second i)
copies_one (Two a b) (Three c d f) x y one two e = some_place f two.1.1.0 (sym (word_at 4 e))
copies_one (Three a b c) (One d) x y one two e = some_place b one.1.0 (word_at 2 e)
copies_one (Three a b c) (Two d f) x y one two e = some_place c one.1.1.0 (word_at 4 e)
copies_one (Three a b c) (Three d f g) x y one two e =
    let first = dva_one a d one.0 two.0 (word_at 0 e) (word_at 1 e) in
    let second = dva_one b f one.1.0 two.1.0 (word_at 2 e) (word_at 3 e) in
    let third = dva_one c g one.1.1.0 two.1.1.0 (word_at 4 e) (word_at 5 e) in
    λ i. Three (first i) (second i) (third i)

behind_copies : (a : Copies) (x : List ℕ) → drop 6 (copies_words a ++ x) ≡ x
behind_copies (One a) x = refl
behind_copies (Two a b) x = refl
behind_copies (Three a b c) x = refl

property_one : (p q : Property) → FitsProperty p → FitsProperty q → property_word p ≡ property_word q → p ≡ q
property_one p q one two e =
    let level : p.level ≡ q.level = omega arith in
    let object_type : p.object_type ≡ q.object_type = omega arith in
    let sectors : p.sectors ≡ q.sectors = omega arith in
    λ i. record { level = level i; object_type = object_type i; sectors = sectors i }

pub block_one : (b c : Block) → FitsBlock b → FitsBlock c → spelling (At b) ≡ spelling (At c) → b ≡ c
block_one b c one two e =
    let front : word_bytes (block_words b) ≡ word_bytes (block_words c) =
    sym (take_at (word_bytes (block_words b)) b.checksum 96 (length-words b)) ∙ ap (take 96) e ∙ take_at (word_bytes (block_words c)) c.checksum 96 (length-words c) in
    let checksum : b.checksum ≡ c.checksum =
    sym (drop_at (word_bytes (block_words b)) b.checksum 96 (length-words b)) ∙ ap (drop 96) e ∙ drop_at (word_bytes (block_words c)) c.checksum 96 (length-words c) in
    let lengths : length (block_words b) ≡ length (block_words c) =
    omega (arith, length-words b, length-words c, length-word_bytes (block_words b), length-word_bytes (block_words c)) in
    let words : block_words b ≡ block_words c = words_one (block_words b) (block_words c) lengths (AreWords-block b one) (AreWords-block c two) front in
    let x : List ℕ = property_word b.property ∷ 0 ∷ 0 ∷ 0 ∷ b.birth ∷ b.fill ∷ [] in
    let y : List ℕ = property_word c.property ∷ 0 ∷ 0 ∷ 0 ∷ c.birth ∷ c.fill ∷ [] in
    let rest : x ≡ y = sym (behind_copies b.copies x) ∙ ap (drop 6) words ∙ behind_copies c.copies y in
    let copies = copies_one b.copies c.copies x y one.copies two.copies words in
    let property = property_one b.property c.property one.property two.property (word_at 0 rest) in
    let birth : b.birth ≡ c.birth = word_at 4 rest in
    let fill : b.fill ≡ c.fill = word_at 5 rest in
    λ i. record { copies = copies i; property = property i; birth = birth i; fill = fill i; checksum = checksum i }
