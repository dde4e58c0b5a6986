use Rattle.std.proofs.Common.{◌≡◌, ℕ, List, ◌∷◌, [], ◌++◌, length, take, drop, ◌+◌, ◌*◌, ap, ◌∙◌}
use Rattle.words.specs.Words.{word_bytes}
use Rattle.words.specs.Seal.{sealed}
use Rattle.words.proofs.WordLemmas.{length-word_bytes}
use Rattle.block_pointer.specs.declared.pointer.BlockPtr.TheVariants as pointers
use Rattle.block_pointer.specs.Pointer.{spelling}
use Rattle.uberblock_ring.specs.Uberblock.{head_words}
use Rattle.uberblock_ring.specs.Slot.{front_bytes}
use Rattle.uberblock_ring.proofs.Fronts.{front_put, no_bytes, blank, length-pointer_that_fits}
use Rattle.uberblock_ring.proofs.slot.encode_slot.Goals as goal

pub returns : goal.returns
returns c =
    let u = c.args.uberblock.now in
    let head : word_bytes c.head_words.result ≡ word_bytes (head_words u) = ap word_bytes c.head_words.ensures in
    let first = c.put_words.ensures ∙ ap (λ (words : List ℕ). take 0 blank ++ (word_bytes c.head_words.result ++ drop (0 + 8 * length words) blank)) c.head_words.ensures in
    let root : c.encode.result ≡ spelling (pointers.Block u.root) = c.encode.ensures in
    let claim : c.to_le_bytes.result ≡ word_bytes (u.claim ∷ []) = c.to_le_bytes.ensures in
    let put = front_put (word_bytes c.head_words.result) c.encode.result c.to_le_bytes.result u.config_digest c.put_words.new.block c.put.new.block c.put-2.new.block c.put-3.new.block
    (ap length head ∙ length-word_bytes (head_words u)) (ap length root ∙ length-pointer_that_fits u c.requires) (ap length claim ∙ length-word_bytes (u.claim ∷ [])) c.requires.config_digest
    first c.put.ensures c.put-2.ensures c.put-3.ensures in
    let fields : word_bytes c.head_words.result ++ (c.encode.result ++ (c.to_le_bytes.result ++ (u.config_digest ++ no_bytes))) ≡ front_bytes u =
    ap (λ (x : List ℕ). x ++ (c.encode.result ++ (c.to_le_bytes.result ++ (u.config_digest ++ no_bytes)))) head
    ∙ ap (λ (x : List ℕ). word_bytes (head_words u) ++ (x ++ (c.to_le_bytes.result ++ (u.config_digest ++ no_bytes)))) root
    ∙ ap (λ (x : List ℕ). word_bytes (head_words u) ++ (spelling (pointers.Block u.root) ++ (x ++ (u.config_digest ++ no_bytes)))) claim in
    c.seal.ensures ∙ ap sealed (put ∙ fields)
