use Rattle.std.proofs.Common.{◌≡◌, ℕ, ◌+◌, List, [], ◌∷◌, ◌++◌, length, take, drop, ap, ◌∙◌, rules, arith}
use Rattle.std.specs.Prelude.{replicate}
use Rattle.words.specs.Words.{word_bytes}
use Rattle.dnode.specs.Node.{node_bytes}
use Rattle.dnode.proofs.Seams.{set_put}
use Rattle.dnode.proofs.object_set.ObjectSet.encode.Goals as goal

pub returns : goal.returns
returns c =
    let s = c.args.self.now in
    let node = c.to_bytes.result in
    let words = word_bytes (c.to_word.result ∷ s.objects ∷ []) in
    let len : length node ≡ 512 = search rules in
    let zeros : List ℕ = replicate 1024 0 in
    let put : c.put.new.block ≡ take 0 zeros ++ (node ++ drop (0 + length node) zeros) = c.put.ensures in
    let sum : 0 + length node ≡ 512 = omega (arith, len) in
    let first : c.put.new.block ≡ node ++ replicate 512 0 = put ∙ ap (λ (n : ℕ). take 0 zeros ++ (node ++ drop n zeros)) sum in
    set_put node words c.put.new.block c.put_words.new.block len first c.put_words.ensures
    ∙ ap (λ (x : List ℕ). x ++ (words ++ replicate 496 0)) c.to_bytes.ensures
    ∙ ap (λ (k : ℕ). node_bytes s.dnodes ++ (word_bytes (k ∷ s.objects ∷ []) ++ replicate 496 0)) c.to_word.ensures
