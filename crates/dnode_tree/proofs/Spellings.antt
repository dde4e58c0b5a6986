-- What bytes spell is one list of pointers.
use Rattle.std.proofs.Common.{◌≡◌, ℕ, ◌+◌, ◌*◌, ◌^◌, ◌<◌, List, [], ◌∷◌, ◌++◌, length, take, drop, get_or, append_assoc, refl, sym, ap, ◌∙◌, arith}
use Rattle.std.specs.Prelude.{replicate}
use Rattle.std.specs.List.{flat_map, AllByRecursion}
use Rattle.std.specs.Int.{w64, to_le_bytes}
use Rattle.std.proofs.lemmas.List.{length-append, take_at, drop_at}
use Rattle.std.proofs.lemmas.List.Concat.{flat_map-cons}
use Rattle.std.specs.Int.{from_le_bytes}
use Rattle.std.proofs.lemmas.Nat.{from_le_bytes-to_le_bytes_8}
use Rattle.block_pointer.specs.declared.block.Block.{Block}
use Rattle.block_pointer.specs.declared.copies.Copies.{Copies}
use Rattle.block_pointer.specs.declared.copies.Copies.TheVariants.{One, Two, Three}
use Rattle.block_pointer.specs.declared.dva.Dva.{Dva}
use Rattle.block_pointer.specs.declared.pointer.BlockPtr.{BlockPtr}
use Rattle.block_pointer.specs.declared.pointer.BlockPtr.TheVariants.{Hole, Block as At}
use Rattle.block_pointer.specs.declared.property.Property.{Property}
use Rattle.block_pointer.specs.Block.{FitsBlock, block_words}
use Rattle.block_pointer.specs.Copies.{FitsCopies, copies_words}
use Rattle.block_pointer.specs.Dva.{FitsDva}
use Rattle.block_pointer.specs.Pointer.{Fits, spelling}
use Rattle.block_pointer.specs.Property.{FitsProperty, property_word}
use Rattle.block_pointer.proofs.Parts.{AreWords-block, length-words}
use Rattle.dnode.specs.Indirect.{FitsPointer, SpellsIndirect, indirect_bytes}

-- ---- words

abbrev pub AreWords : List ℕ → Type 0
AreWords words = AllByRecursion (λ word. word < 2 ^ 64) words

abbrev pub word_bytes : List ℕ → List ℕ
word_bytes words = flat_map (to_le_bytes w64) words

pub words_same : (words others : List ℕ) → AreWords words → AreWords others → word_bytes words ≡ word_bytes others → words ≡ others
words_same [] [] fits fit same = refl
words_same [] (other ∷ others) fits fit same = absurd (omega (arith, ap length same, ap length (flat_map-cons (to_le_bytes w64) other others)))
words_same (word ∷ words) [] fits fit same = absurd (omega (arith, ap length same, ap length (flat_map-cons (to_le_bytes w64) word words)))
words_same (word ∷ words) (other ∷ others) fits fit same =
    let parts : to_le_bytes w64 word ++ word_bytes words ≡ to_le_bytes w64 other ++ word_bytes others =
    sym (flat_map-cons (to_le_bytes w64) word words) ∙ same ∙ flat_map-cons (to_le_bytes w64) other others in
    let bytes : to_le_bytes w64 word ≡ to_le_bytes w64 other =
    sym (take_at (to_le_bytes w64 word) (word_bytes words) 8 refl) ∙ ap (take 8) parts ∙ take_at (to_le_bytes w64 other) (word_bytes others) 8 refl in
    let first : word ≡ other = sym (from_le_bytes-to_le_bytes_8 word fits.0) ∙ ap (from_le_bytes w64) bytes ∙ from_le_bytes-to_le_bytes_8 other fit.0 in
    let rest : word_bytes words ≡ word_bytes others =
    sym (drop_at (to_le_bytes w64 word) (word_bytes words) 8 refl) ∙ ap (drop 8) parts ∙ drop_at (to_le_bytes w64 other) (word_bytes others) 8 refl in
    ap (λ w. w ∷ words) first ∙ ap (λ ws. other ∷ ws) (words_same words others fits.1 fit.1 rest)

pub bytes_len : (words : List ℕ) → length (word_bytes words) ≡ 8 * length words
bytes_len [] = refl
bytes_len (word ∷ words) = ap length (flat_map-cons (to_le_bytes w64) word words) ∙ omega (arith, bytes_len words)

-- ---- blocks

dva_same : (a b : Dva) → FitsDva a → FitsDva b → a.vdev * 2 ^ 32 + a.allocated ≡ b.vdev * 2 ^ 32 + b.allocated → a.offset ≡ b.offset → a ≡ b
dva_same a b fits fit word offset =
    let vdev : a.vdev ≡ b.vdev = omega (arith, word, fits.allocated, fit.allocated) in
    let allocated : a.allocated ≡ b.allocated = omega (arith, word, vdev) in
    λ i. record { vdev = vdev i; offset = offset i; allocated = allocated i }

pub at_word : (k : ℕ) (words others : List ℕ) → words ≡ others → get_or words k 0 ≡ get_or others k 0
at_word k words others same = ap (λ ws. get_or ws k 0) same

unused_not : (d : Dva) → FitsDva d → 0 ≡ d.vdev * 2 ^ 32 + d.allocated → ⊥
unused_not d fits none = omega (arith, none, fits.used)

copies_same : (x y : Copies) (rest others : List ℕ) → FitsCopies x → FitsCopies y → copies_words x ++ rest ≡ copies_words y ++ others → x ≡ y
copies_same (One a) (One b) rest others fits fit same = ap One (dva_same a b fits.0 fit.0 (at_word 0 _ _ same) (at_word 1 _ _ same))
copies_same (One a) (Two b c) rest others fits fit same = absurd (unused_not c fit.1.0 (at_word 2 _ _ same))
copies_same (One a) (Three b c d) rest others fits fit same = absurd (unused_not c fit.1.0 (at_word 2 _ _ same))
copies_same (Two a b) (One c) rest others fits fit same = absurd (unused_not b fits.1.0 (sym (at_word 2 _ _ same)))
copies_same (Two a b) (Two c d) rest others fits fit same =
    let first = dva_same a c fits.0 fit.0 (at_word 0 _ _ same) (at_word 1 _ _ same) in
    let second = dva_same b d fits.1.0 fit.1.0 (at_word 2 _ _ same) (at_word 3 _ _ same) in
    λ i. Two (first i) (second i)
copies_same (Two a b) (Three c d e) rest others fits fit same = absurd (unused_not e fit.1.1.0 (at_word 4 _ _ same))
copies_same (Three a b c) (One d) rest others fits fit same = absurd (unused_not b fits.1.0 (sym (at_word 2 _ _ same)))
copies_same (Three a b c) (Two d e) rest others fits fit same = absurd (unused_not c fits.1.1.0 (sym (at_word 4 _ _ same)))
copies_same (Three a b c) (Three d e f) rest others fits fit same =
    let first = dva_same a d fits.0 fit.0 (at_word 0 _ _ same) (at_word 1 _ _ same) in
    let second = dva_same b e fits.1.0 fit.1.0 (at_word 2 _ _ same) (at_word 3 _ _ same) in
    let third = dva_same c f fits.1.1.0 fit.1.1.0 (at_word 4 _ _ same) (at_word 5 _ _ same) in
    λ i. Three (first i) (second i) (third i)

behind_copies : (copies : Copies) (rest : List ℕ) → drop 6 (copies_words copies ++ rest) ≡ rest
behind_copies (One a) rest = refl
behind_copies (Two a b) rest = refl
behind_copies (Three a b c) rest = refl

property_same : (p q : Property) → FitsProperty p → FitsProperty q → property_word p ≡ property_word q → p ≡ q
property_same p q fits fit same =
    let level : p.level ≡ q.level = omega (arith, same, fits.level, fits.object_type, fits.not_empty, fits.sectors, fit.level, fit.object_type, fit.not_empty, fit.sectors) in
    let object_type : p.object_type ≡ q.object_type = omega (arith, same, level, fits.object_type, fits.not_empty, fits.sectors, fit.object_type, fit.not_empty, fit.sectors) in
    let sectors : p.sectors ≡ q.sectors = omega (arith, same, level, object_type, fits.not_empty, fits.sectors, fit.not_empty, fit.sectors) in
    λ i. record { level = level i; object_type = object_type i; sectors = sectors i }

tails : (b : Block) → drop 6 (block_words b) ≡ property_word b.property ∷ 0 ∷ 0 ∷ 0 ∷ b.birth ∷ b.fill ∷ []
tails b = behind_copies b.copies (property_word b.property ∷ 0 ∷ 0 ∷ 0 ∷ b.birth ∷ b.fill ∷ [])

block_same : (a b : Block) → FitsBlock a → FitsBlock b → block_words a ≡ block_words b → a.checksum ≡ b.checksum → a ≡ b
block_same a b fits fit same checksum =
    let copies = copies_same a.copies b.copies _ _ fits.copies fit.copies same in
    let tail = sym (tails a) ∙ ap (drop 6) same ∙ tails b in
    let property = property_same a.property b.property fits.property fit.property (at_word 0 _ _ tail) in
    let birth = at_word 4 _ _ tail in
    let fill = at_word 5 _ _ tail in
    λ i. record { copies = copies i; property = property i; birth = birth i; fill = fill i; checksum = checksum i }

-- ---- pointers

block_not_zeros : (b : Block) → FitsBlock b → replicate 128 0 ≡ word_bytes (block_words b) ++ b.checksum → ⊥
block_not_zeros b fits same =
    let front : word_bytes (replicate 12 0) ≡ word_bytes (block_words b) = ap (take 96) same ∙ take_at (word_bytes (block_words b)) b.checksum 96 (length-words b) in
    let zeros : AreWords (replicate 12 0) = (omega arith, (omega arith, (omega arith, (omega arith, (omega arith, (omega arith, (omega arith, (omega arith, (omega arith, (omega arith, (omega arith, (omega arith, tt)))))))))))) in
    let words = words_same (replicate 12 0) (block_words b) zeros (AreWords-block b fits) front in
    let property : 0 ≡ property_word b.property = at_word 0 _ _ (ap (drop 6) words ∙ tails b) in
    omega (arith, property)

pub pointer_same : (p q : BlockPtr) → Fits p → Fits q → spelling p ≡ spelling q → p ≡ q
pointer_same Hole Hole fits fit same = refl
pointer_same Hole (At b) fits fit same = absurd (block_not_zeros b fit same)
pointer_same (At a) Hole fits fit same = absurd (block_not_zeros a fits (sym same))
pointer_same (At a) (At b) fits fit same =
    let front : word_bytes (block_words a) ≡ word_bytes (block_words b) =
    sym (take_at (word_bytes (block_words a)) a.checksum 96 (length-words a)) ∙ ap (take 96) same ∙ take_at (word_bytes (block_words b)) b.checksum 96 (length-words b) in
    let back : a.checksum ≡ b.checksum =
    sym (drop_at (word_bytes (block_words a)) a.checksum 96 (length-words a)) ∙ ap (drop 96) same ∙ drop_at (word_bytes (block_words b)) b.checksum 96 (length-words b) in
    ap At (block_same a b fits fit (words_same (block_words a) (block_words b) (AreWords-block a fits) (AreWords-block b fit) front) back)

lists_same : (ps qs : List BlockPtr) → length ps ≡ length qs → AllByRecursion FitsPointer ps → AllByRecursion FitsPointer qs → indirect_bytes ps ≡ indirect_bytes qs → ps ≡ qs
lists_same [] [] len fits fit same = refl
lists_same [] (q ∷ qs) len fits fit same = absurd (omega (arith, len))
lists_same (p ∷ ps) [] len fits fit same = absurd (omega (arith, len))
lists_same (p ∷ ps) (q ∷ qs) len fits fit same =
    let parts : spelling p ++ indirect_bytes ps ≡ spelling q ++ indirect_bytes qs = sym (flat_map-cons spelling p ps) ∙ same ∙ flat_map-cons spelling q qs in
    let first : spelling p ≡ spelling q =
    sym (take_at (spelling p) (indirect_bytes ps) 128 fits.0.1) ∙ ap (take 128) parts ∙ take_at (spelling q) (indirect_bytes qs) 128 fit.0.1 in
    let rest : indirect_bytes ps ≡ indirect_bytes qs =
    sym (drop_at (spelling p) (indirect_bytes ps) 128 fits.0.1) ∙ ap (drop 128) parts ∙ drop_at (spelling q) (indirect_bytes qs) 128 fit.0.1 in
    ap (λ x. x ∷ ps) (pointer_same p q fits.0.0 fit.0.0 first) ∙ ap (λ xs. q ∷ xs) (lists_same ps qs (omega (arith, len)) fits.1 fit.1 rest)

pub spelled_once : (bytes other : List ℕ) (ps qs : List BlockPtr) → bytes ≡ other → SpellsIndirect bytes ps → SpellsIndirect other qs → ps ≡ qs
spelled_once bytes other ps qs same one two =
    lists_same ps qs (one.0.count ∙ sym two.0.count) one.0.each two.0.each (sym one.1 ∙ same ∙ two.1)

-- ---- pointers in front of other bytes

-- parts of one length
pub parts_same : (front other rest behind : List ℕ) → length front ≡ length other → front ++ rest ≡ other ++ behind → (front ≡ other) × (rest ≡ behind)
parts_same front other rest behind len same = (
  sym (take_at front rest (length other) len) ∙ ap (take (length other)) same ∙ take_at other behind (length other) refl,
  sym (drop_at front rest (length other) len) ∙ ap (drop (length other)) same ∙ drop_at other behind (length other) refl,
)

block_not_front : (b : Block) (rest behind : List ℕ) → FitsBlock b → replicate 128 0 ++ rest ≡ (word_bytes (block_words b) ++ b.checksum) ++ behind → ⊥
block_not_front b rest behind fits same =
    let whole = same ∙ append_assoc (word_bytes (block_words b)) b.checksum behind in
    let front : word_bytes (replicate 12 0) ≡ word_bytes (block_words b) = ap (take 96) whole ∙ take_at (word_bytes (block_words b)) (b.checksum ++ behind) 96 (length-words b) in
    let zeros : AreWords (replicate 12 0) = (omega arith, (omega arith, (omega arith, (omega arith, (omega arith, (omega arith, (omega arith, (omega arith, (omega arith, (omega arith, (omega arith, (omega arith, tt)))))))))))) in
    let words = words_same (replicate 12 0) (block_words b) zeros (AreWords-block b fits) front in
    let property : 0 ≡ property_word b.property = at_word 0 _ _ (ap (drop 6) words ∙ tails b) in
    omega (arith, property)

pub front_pointer : (p q : BlockPtr) (rest : List ℕ) → Fits p → Fits q → spelling p ++ rest ≡ spelling q ++ rest → p ≡ q
front_pointer Hole Hole rest fits fit same = refl
front_pointer Hole (At b) rest fits fit same = absurd (block_not_front b rest rest fit same)
front_pointer (At a) Hole rest fits fit same = absurd (block_not_front a rest rest fits (sym same))
front_pointer (At a) (At b) rest fits fit same =
    let len : length (spelling (At a)) ≡ length (spelling (At b)) = omega (arith, ap length same, length-append (spelling (At a)) rest, length-append (spelling (At b)) rest) in
    pointer_same (At a) (At b) fits fit (parts_same (spelling (At a)) (spelling (At b)) rest rest len same).0
