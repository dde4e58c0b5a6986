-- The fields of a front and the uberblock that they make.
use Rattle.std.proofs.Common.{◌≡◌, ℕ, ◌+◌, ◌-◌, List, [], ◌∷◌, ◌++◌, length, take, drop, refl, sym, ap, subst, ◌∙◌, append_assoc, arith}
use Rattle.std.specs.Prelude.{replicate}
use Rattle.std.proofs.lemmas.List.{take_at, drop_at, drop-drop, length-append, length-take, length-drop}
use Rattle.std.proofs.Math.Seq.{take-append-add}
use Rattle.words.specs.Words.{AreWords, word_bytes}
use Rattle.words.proofs.WordLemmas.{length-word_bytes}
use Rattle.block_pointer.specs.declared.block.Block.{Block}
use Rattle.block_pointer.specs.declared.pointer.BlockPtr.{BlockPtr}
use Rattle.block_pointer.specs.declared.pointer.BlockPtr.TheVariants as pointers
use Rattle.block_pointer.specs.Block.{block_words}
use Rattle.block_pointer.specs.Pointer.{spelling, Spells}
use Rattle.block_pointer.proofs.Parts.{length-words}
use Rattle.uberblock_ring.specs.declared.uberblock.Uberblock.{Uberblock}
use Rattle.uberblock_ring.specs.Uberblock.{head_words, IsRead, Fits}
use Rattle.uberblock_ring.specs.Slot.{front_bytes}
use Rattle.uberblock_ring.proofs.Seams.{Cut, cut_front, join_front}

-- how long the pointer of a block is
length-pointer : (b : Block) → length (spelling (pointers.Block b)) ≡ 96 + length b.checksum
length-pointer b = length-append (word_bytes (block_words b)) b.checksum ∙ ap (λ (n : ℕ). n + length b.checksum) (length-words b)

abbrev pub no_bytes : List ℕ
no_bytes = replicate 776 0

abbrev pub CutAs : List ℕ → Uberblock → Type 0
CutAs front u = Cut front (word_bytes (head_words u)) (spelling (pointers.Block u.root)) (word_bytes (u.claim ∷ [])) u.config_digest no_bytes

-- what is spelled is cut into its fields
pub fields_of : (front : List ℕ) (u : Uberblock) → Fits u → front ≡ front_bytes u → CutAs front u
fields_of front u fits e =
    cut_front front (word_bytes (head_words u)) (spelling (pointers.Block u.root)) (word_bytes (u.claim ∷ [])) u.config_digest no_bytes
    (length-word_bytes (head_words u)) (omega (arith, length-pointer u.root, fits.checksum)) (length-word_bytes (u.claim ∷ [])) fits.config_digest e

-- what was read of a front
pub record IsReadFrom (front head : List ℕ) (root : BlockPtr) (root_bytes : List ℕ) (claim : ℕ) (digest : List ℕ) : Type 0 where
  pub head_is : take 40 front ≡ word_bytes head
  pub words : AreWords head
  pub root_at : root_bytes ≡ take 128 (drop 40 front)
  pub root_spelled : Spells root_bytes root
  pub claim_is : take 8 (drop 168 front) ≡ word_bytes (claim ∷ [])
  pub digest_is : digest ≡ take 32 (drop 176 front)
  pub zeros : drop 208 front ≡ no_bytes

-- the uberblock that the fields make is spelled by the front
pub front_made : (front head : List ℕ) (root : BlockPtr) (root_bytes : List ℕ) (claim : ℕ) (digest : List ℕ) (u : Uberblock) → length front ≡ 984 → IsReadFrom front head root root_bytes claim digest → IsRead head root claim digest u
    → Fits u × (front ≡ front_bytes u)
front_made front head root root_bytes claim digest u len from is =
    let words : AreWords (head_words u) = subst AreWords is.head_is from.words in
    let spelled : Spells root_bytes (pointers.Block u.root) = subst (Spells root_bytes) is.root_is from.root_spelled in
    let root_len : length root_bytes ≡ 128 = ap length from.root_at ∙ length-take 128 (drop 40 front) ∙ omega (arith, length-drop 40 front) in
    let pointer_len : length root_bytes ≡ 96 + length u.root.checksum = ap length spelled.1 ∙ length-pointer u.root in
    let digest_len : length u.config_digest ≡ 32 = ap length (sym is.digest_is ∙ from.digest_is) ∙ length-take 32 (drop 176 front) ∙ omega (arith, length-drop 176 front) in
    let parts : CutAs front u = record {
      head_is = from.head_is ∙ ap word_bytes is.head_is;
      root_is = sym from.root_at ∙ spelled.1;
      claim_is = from.claim_is ∙ ap (λ (n : ℕ). word_bytes (n ∷ [])) is.claim_is;
      digest_is = sym from.digest_is ∙ is.digest_is;
      zeros_are = from.zeros;
    } in (
      record { group = is.group; claim = is.claim_fits; guid_sum = words.1.1.1.0; timestamp = words.1.1.1.1.0; root = is.root_fits; root_fits = spelled.0; checksum = omega arith; config_digest = digest_len },
      join_front front (word_bytes (head_words u)) (spelling (pointers.Block u.root)) (word_bytes (u.claim ∷ [])) u.config_digest no_bytes parts,
    )

-- the words of an uberblock's head
pub AreWords-head : (u : Uberblock) → Fits u → AreWords (head_words u)
AreWords-head u fits = (omega arith, (omega arith, (omega (arith, fits.group.1), (fits.guid_sum, (fits.timestamp, tt)))))

-- ---- fields that are put one behind another

-- the front is written so far, and zeros stand behind it
abbrev pub IsPut : ℕ → List ℕ → List ℕ → List ℕ → Type 0
IsPut at written zeros area = (length written ≡ at) × (area ≡ written ++ drop at zeros)

pub put_more : (at k : ℕ) (written zeros area part new : List ℕ) → IsPut at written zeros area → length part ≡ k → new ≡ take at area ++ (part ++ drop (at + length part) area) → IsPut (at + k) (written ++ part) zeros new
put_more at k written zeros area part new so_far len is =
    let put : new ≡ take at area ++ (part ++ drop (at + k) area) = is ∙ ap (λ (n : ℕ). take at area ++ (part ++ drop (at + n) area)) len in
    let front : take at area ≡ written = ap (take at) so_far.1 ∙ take_at written (drop at zeros) at so_far.0 in
    let back : drop (at + k) area ≡ drop (at + k) zeros =
    sym (drop-drop k at area) ∙ ap (drop k) (ap (drop at) so_far.1 ∙ drop_at written (drop at zeros) at so_far.0) ∙ drop-drop k at zeros in
    (omega (arith, length-append written part, so_far.0), put ∙ rw (front, back) (sym (append_assoc written part (drop (at + k) zeros))))

-- the zeros that a slot begins as
abbrev pub blank : List ℕ
blank = replicate 1024 0

regrouped : (head root claim digest zeros : List ℕ) → (((head ++ root) ++ claim) ++ digest) ++ zeros ≡ head ++ (root ++ (claim ++ (digest ++ zeros)))
regrouped head root claim digest zeros = simp append_assoc

pub front_put : (head root claim digest one two three four : List ℕ) → length head ≡ 40 → length root ≡ 128 → length claim ≡ 8 → length digest ≡ 32
    → one ≡ take 0 blank ++ (head ++ drop 40 blank) → two ≡ take 40 one ++ (root ++ drop (40 + length root) one) → three ≡ take 168 two ++ (claim ++ drop (168 + length claim) two)
    → four ≡ take 176 three ++ (digest ++ drop (176 + length digest) three) → take (length four - 40) four ≡ head ++ (root ++ (claim ++ (digest ++ no_bytes)))
front_put head root claim digest one two three four head_len root_len claim_len digest_len first second third fourth =
    let place : 40 ≡ 0 + length head = omega (arith, head_len) in
    let p1 = put_more 0 40 [] blank blank head one (refl, refl) head_len (first ∙ ap (λ (n : ℕ). take 0 blank ++ (head ++ drop n blank)) place) in
    let p2 = put_more 40 128 head blank one root two p1 root_len second in
    let p3 = put_more 168 8 (head ++ root) blank two claim three p2 claim_len third in
    let p4 = put_more 176 32 ((head ++ root) ++ claim) blank three digest four p3 digest_len fourth in
    let written = ((head ++ root) ++ claim) ++ digest in
    let whole : length four ≡ length written + 816 = ap length p4.1 ∙ length-append written (drop 208 blank) in
    let len : length four - 40 ≡ length written + 776 = omega arith in
    ap (λ (n : ℕ). take n four) len ∙ ap (take (length written + 776)) p4.1 ∙ take-append-add written (drop 208 blank) 776 ∙ regrouped head root claim digest no_bytes

pub length-pointer_that_fits : (u : Uberblock) → Fits u → length (spelling (pointers.Block u.root)) ≡ 128
length-pointer_that_fits u fits = omega (arith, length-pointer u.root, fits.checksum)
