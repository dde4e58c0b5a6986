use Rattle.std.proofs.Common.{◌≡◌, ℕ, ◌+◌, ◌*◌, List, ◌++◌, length, take, drop, ap, ◌∙◌, rules}
use Rattle.std.specs.Prelude.{replicate}
use Rattle.words.specs.Words.{word_bytes}
use Rattle.words.proofs.WordLemmas.{length-word_bytes}
use Rattle.meta_objset.specs.Record.{record_words}
use Rattle.meta_objset.proofs.Records.{record_put}
use Rattle.meta_objset.proofs.record.DatasetRecord.encode.Goals as goal

pub returns : goal.returns
returns c =
    let r = c.args.self.now in
    let words = word_bytes (record_words r) in
    let zeros : List ℕ = replicate 512 0 in
    let pointer = c.encode.result in
    let pointer_len : length pointer ≡ 128 = search rules in
    let first : c.put_words.new.block ≡ words ++ replicate 384 0 = c.put_words.ensures ∙ ap (λ (ws : List ℕ). take 0 zeros ++ (word_bytes ws ++ drop (0 + 8 * length ws) zeros)) c.to_words.ensures in
    let second : c.put.new.block ≡ take 128 c.put_words.new.block ++ (pointer ++ drop 256 c.put_words.new.block) =
    c.put.ensures ∙ ap (λ (n : ℕ). take 128 c.put_words.new.block ++ (pointer ++ drop (128 + n) c.put_words.new.block)) pointer_len in
    record_put words pointer c.put_words.new.block c.put.new.block (length-word_bytes (record_words r)) first second
    ∙ ap (λ (x : List ℕ). words ++ (x ++ replicate 256 0)) c.encode.ensures
