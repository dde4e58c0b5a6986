-- The fields of dnodes and object sets, and what they make.
use Rattle.std.proofs.Common.{◌≡◌, ℕ, ◌+◌, ◌^◌, ◌<◌, List, ◌++◌, length, take, drop, refl, sym, ap, subst, ◌∙◌, arith}
use Rattle.std.specs.Prelude.{replicate}
use Rattle.std.proofs.lemmas.List.{length-append, length-replicate}
use Rattle.words.specs.Words.{AreWords, word_bytes}
use Rattle.words.proofs.WordLemmas.{length-word_bytes}
use Rattle.block_pointer.specs.declared.pointer.BlockPtr.{BlockPtr}
use Rattle.block_pointer.specs.Pointer.{Fits, spelling, Spells}
use Rattle.dnode.specs.declared.node.ObjectNode.{ObjectNode}
use Rattle.dnode.specs.Node.{FitsNode, IsRead, SpellsNode, head_bytes, node_words, node_bytes}
use Rattle.dnode.specs.declared.object_set.ObjectSet.{ObjectSet}
use Rattle.dnode.specs.declared.object_set.ObjectSetKind.{ObjectSetKind}
use Rattle.dnode.specs.declared.object_set.ObjectSetKind.TheVariants.{Meta, Volume}
use Rattle.dnode.specs.ObjectSet.{kind_word, set_words, IsObjectSet, IsSetRead, SpellsObjectSet, object_set_bytes}
use Rattle.dnode.proofs.Seams.{NodeCut, cut_node, join_node, SetCut, cut_set, join_set}

abbrev pub no_bytes : ℕ → List ℕ
no_bytes n = replicate n 0

-- zeros by their own number
pub own_zeros : (n : ℕ) (xs : List ℕ) → length xs ≡ n → xs ≡ no_bytes n → xs ≡ no_bytes (length xs)
own_zeros n xs len e = e ∙ ap no_bytes (sym len)

-- zeros by another number
pub their_zeros : (n : ℕ) (xs : List ℕ) → length xs ≡ n → xs ≡ no_bytes (length xs) → xs ≡ no_bytes n
their_zeros n xs len e = e ∙ ap no_bytes len

-- ---- dnodes

pub length-node : (n : ObjectNode) → length (node_bytes n) ≡ 384 + length (spelling n.pointer)
length-node n =
    let words = word_bytes (node_words n) in
    let pointer = spelling n.pointer in
    omega (arith, length-append (head_bytes n) (words ++ (pointer ++ no_bytes 320)), length-append words (pointer ++ no_bytes 320), length-append pointer (no_bytes 320), length-word_bytes (node_words n), length-replicate {A = ℕ} 320 0)

abbrev pub CutAs : List ℕ → ObjectNode → Type 0
CutAs bytes n = NodeCut bytes (head_bytes n) (word_bytes (node_words n)) (spelling n.pointer) (no_bytes 320)

-- what is spelled is cut into its fields
pub fields_of : (bytes : List ℕ) (n : ObjectNode) → length bytes ≡ 512 → bytes ≡ node_bytes n → CutAs bytes n
fields_of bytes n len e =
    cut_node bytes (head_bytes n) (word_bytes (node_words n)) (spelling n.pointer) (no_bytes 320) refl (length-word_bytes (node_words n)) (omega (arith, ap length e, length-node n)) e

-- what was read of a dnode
pub record IsReadFrom (bytes head words : List ℕ) (pointer : BlockPtr) (pointer_bytes : List ℕ) : Type 0 where
  pub head_at : head ≡ take 8 bytes
  pub words_at : take 56 (drop 8 bytes) ≡ word_bytes words
  pub pointer_at : pointer_bytes ≡ take 128 (drop 64 bytes)
  pub spelled : Spells pointer_bytes pointer
  pub zeros : drop 192 bytes ≡ no_bytes 320

-- the object that the fields make is spelled by the bytes
pub node_made : (bytes head words : List ℕ) (pointer : BlockPtr) (pointer_bytes : List ℕ) (n : ObjectNode) → IsReadFrom bytes head words pointer pointer_bytes → IsRead head words pointer n → SpellsNode bytes n
node_made bytes head words pointer pointer_bytes n from is =
    let parts : CutAs bytes n = record {
      head_is = sym from.head_at ∙ is.head_is;
      words_are = from.words_at ∙ ap word_bytes is.words_are;
      pointer_is = sym from.pointer_at ∙ from.spelled.1 ∙ ap spelling is.pointer_is;
      zeros_are = from.zeros;
    } in
    ((is.node, subst Fits is.pointer_is from.spelled.0), join_node bytes (head_bytes n) (word_bytes (node_words n)) (spelling n.pointer) (no_bytes 320) parts)

pub AreWords-node : (n : ObjectNode) → FitsNode n → AreWords (node_words n)
AreWords-node n fits = (omega (arith, fits.0.sectors), (omega (arith, fits.0.highest), (omega arith, (omega arith, (omega arith, (omega arith, (omega arith, tt)))))))

-- ---- object sets

kind_is_word : (k : ObjectSetKind) → kind_word k < 2 ^ 64
kind_is_word Meta = omega arith
kind_is_word Volume = omega arith

pub AreWords-set : (s : ObjectSet) → FitsNode s.dnodes → IsObjectSet s → AreWords (set_words s)
AreWords-set s fits is = (kind_is_word s.kind, (omega (arith, is.within, fits.0.highest), tt))

abbrev pub CutSet : List ℕ → ObjectSet → Type 0
CutSet bytes s = SetCut bytes (node_bytes s.dnodes) (word_bytes (set_words s)) (no_bytes 496)

length-set : (s : ObjectSet) → length (object_set_bytes s) ≡ 512 + length (node_bytes s.dnodes)
length-set s =
    let words = word_bytes (set_words s) in
    omega (arith, length-append (node_bytes s.dnodes) (words ++ no_bytes 496), length-append words (no_bytes 496), length-word_bytes (set_words s), length-replicate {A = ℕ} 496 0)

pub parts_of : (bytes : List ℕ) (s : ObjectSet) → length bytes ≡ 1024 → bytes ≡ object_set_bytes s → CutSet bytes s
parts_of bytes s len e = cut_set bytes (node_bytes s.dnodes) (word_bytes (set_words s)) (no_bytes 496) (omega (arith, ap length e, length-set s)) (length-word_bytes (set_words s)) e

-- what was read of an object set
pub record IsSetReadFrom (bytes node words : List ℕ) : Type 0 where
  pub node_at : node ≡ take 512 bytes
  pub words_at : take 16 (drop 512 bytes) ≡ word_bytes words
  pub zeros : drop 528 bytes ≡ no_bytes 496

pub set_made : (bytes node words : List ℕ) (dnodes : ObjectNode) (s : ObjectSet) → IsSetReadFrom bytes node words → SpellsNode node dnodes → IsSetRead dnodes words s → SpellsObjectSet bytes s
set_made bytes node words dnodes s from spelled is =
    let same : SpellsNode node s.dnodes = subst (SpellsNode node) is.dnodes_are spelled in
    let parts : CutSet bytes s = record { node_is = sym from.node_at ∙ same.1; words_are = from.words_at ∙ ap word_bytes is.words_are; zeros_are = from.zeros } in
    ((same.0, is.set), join_set bytes (node_bytes s.dnodes) (word_bytes (set_words s)) (no_bytes 496) parts)
