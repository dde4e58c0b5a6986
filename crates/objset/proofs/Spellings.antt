-- What bytes spell is one dnode, or one object set.
use Rattle.std.proofs.Common.{◌≡◌, ℕ, List, ◌++◌, length, replicate, Option, Some, None, refl, sym, ap, ◌∙◌, arith}
use Rattle.std.proofs.lemmas.List.{length-append}
use Rattle.block_pointer.specs.Pointer.{spelling}
use Rattle.dnode.specs.declared.dnode.Dnode.{Dnode}
use Rattle.dnode.specs.declared.dnode.Dnode.TheVariants.{Free, Object}
use Rattle.dnode.specs.declared.node.ObjectNode.{ObjectNode}
use Rattle.dnode.specs.declared.object_set.ObjectSet.{ObjectSet}
use Rattle.dnode.specs.declared.object_set.ObjectSetKind.{ObjectSetKind}
use Rattle.dnode.specs.declared.object_set.ObjectSetKind.TheVariants.{Meta, Volume}
use Rattle.dnode.specs.Dnode.{SpellsDnode}
use Rattle.dnode.specs.Node.{FitsNode, head_bytes, node_bytes, node_words}
use Rattle.dnode.specs.ObjectSet.{SpellsObjectSet, kind_word, set_words}
use Rattle.dnode.proofs.Nodes.{AreWords-node, AreWords-set}
use Rattle.dnode_tree.proofs.Spellings.{at_word, bytes_len, front_pointer, parts_same, word_bytes, words_same}
use Rattle.objset.specs.Nodes.{IsNodeIn}

-- ---- dnodes

node_once : (n m : ObjectNode) → FitsNode n → FitsNode m → node_bytes n ≡ node_bytes m → n ≡ m
node_once n m fits fit same =
    let head = parts_same (head_bytes n) (head_bytes m) (word_bytes (node_words n) ++ (spelling n.pointer ++ replicate 320 0)) (word_bytes (node_words m) ++ (spelling m.pointer ++ replicate 320 0)) refl same in
    let rest = parts_same (word_bytes (node_words n)) (word_bytes (node_words m)) (spelling n.pointer ++ replicate 320 0) (spelling m.pointer ++ replicate 320 0)
    (bytes_len (node_words n) ∙ sym (bytes_len (node_words m))) head.1 in
    let words = words_same (node_words n) (node_words m) (AreWords-node n fits) (AreWords-node m fit) rest.0 in
    let object_type : n.object_type ≡ m.object_type = at_word 0 (head_bytes n) (head_bytes m) head.0 in
    let data_sectors : n.data_sectors ≡ m.data_sectors = at_word 0 (node_words n) (node_words m) words in
    let highest : n.highest ≡ m.highest = at_word 1 (node_words n) (node_words m) words in
    let pointer = front_pointer n.pointer m.pointer (replicate 320 0) fits.1 fit.1 rest.1 in
    λ i. record { object_type = object_type i; data_sectors = data_sectors i; highest = highest i; pointer = pointer i }

-- the type of an object is above 0
zeros_not_node : (n : ObjectNode) → FitsNode n → replicate 512 0 ≡ node_bytes n → ⊥
zeros_not_node n fits same = let none : 0 ≡ n.object_type = at_word 0 (replicate 512 0) (node_bytes n) same in omega (arith, none, fits.0.used)

pub dnode_once : (bytes : List ℕ) (d e : Dnode) → SpellsDnode bytes d → SpellsDnode bytes e → d ≡ e
dnode_once bytes Free Free one two = refl
dnode_once bytes Free (Object m) one two = absurd (zeros_not_node m two.0 (sym one.1 ∙ two.1))
dnode_once bytes (Object n) Free one two = absurd (zeros_not_node n one.0 (sym two.1 ∙ one.1))
dnode_once bytes (Object n) (Object m) one two = ap Object (node_once n m one.0 two.0 (sym one.1 ∙ two.1))

pub cell_once : (cell : Option (List ℕ)) (place : ℕ) (d e : Dnode) → IsNodeIn cell place d → IsNodeIn cell place e → d ≡ e
cell_once None place d e one two = one ∙ sym two
cell_once (Some bytes) place d e one two = dnode_once _ d e one two

-- ---- object sets

kind_once : (k l : ObjectSetKind) → kind_word k ≡ kind_word l → k ≡ l
kind_once Meta Meta same = refl
kind_once Meta Volume same = absurd (omega (arith, same))
kind_once Volume Meta same = absurd (omega (arith, same))
kind_once Volume Volume same = refl

pub set_once : (bytes : List ℕ) (s t : ObjectSet) → SpellsObjectSet bytes s → SpellsObjectSet bytes t → s ≡ t
set_once bytes s t one two =
    let none : ℕ = 0 in
    let zeros : List ℕ = replicate 496 0 in
    let words_s = word_bytes (set_words s) in
    let words_t = word_bytes (set_words t) in
    let same : node_bytes s.dnodes ++ (word_bytes (set_words s) ++ replicate 496 0) ≡ node_bytes t.dnodes ++ (word_bytes (set_words t) ++ replicate 496 0) = sym one.1 ∙ two.1 in
    let len : length (node_bytes s.dnodes) ≡ length (node_bytes t.dnodes) =
    omega (
      arith,
      ap length same,
      length-append (node_bytes s.dnodes) (words_s ++ zeros),
      length-append (node_bytes t.dnodes) (words_t ++ zeros),
      length-append words_s zeros,
      length-append words_t zeros,
      bytes_len (set_words s),
      bytes_len (set_words t),
    ) in
    let parts = parts_same (node_bytes s.dnodes) (node_bytes t.dnodes) (words_s ++ replicate 496 0) (words_t ++ replicate 496 0) len same in
    let rest = parts_same words_s words_t (replicate 496 none) (replicate 496 none) (bytes_len (set_words s) ∙ sym (bytes_len (set_words t))) parts.1 in
    let words = words_same (set_words s) (set_words t) (AreWords-set s one.0.0 one.0.1) (AreWords-set t two.0.0 two.0.1) rest.0 in
    let dnodes = node_once s.dnodes t.dnodes one.0.0 two.0.0 parts.0 in
    let kind = kind_once s.kind t.kind (at_word 0 (set_words s) (set_words t) words) in
    let objects : s.objects ≡ t.objects = at_word 1 (set_words s) (set_words t) words in
    λ i. record { dnodes = dnodes i; kind = kind i; objects = objects i }
