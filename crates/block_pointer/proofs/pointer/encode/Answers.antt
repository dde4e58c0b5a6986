use Rattle.std.proofs.Common.{◌≡◌, ◌≤◌, ℕ, List, ◌++◌, length, drop, sym, ap, ◌∙◌, arith}
use Rattle.std.specs.Prelude.{replicate}
use Rattle.std.proofs.lemmas.List.{take_at, drop_at, drop_all, append-nil}
use borrow.Rule.Slice.PartMut.{put_mid}
use Rattle.block_pointer.proofs.Parts.{length-words}
use Rattle.block_pointer.specs.Block.{block_words}
use Rattle.block_pointer.specs.Pointer.{spelling}
use Rattle.words.specs.Words.{word_bytes}
use Rattle.block_pointer.proofs.pointer.encode.Goals as goal

-- what is put behind the words
put_behind : (words zeros checksum : List ℕ) (at k : ℕ) → length words ≡ at → length zeros ≤ k → put_mid at k (words ++ zeros) checksum ≡ words ++ checksum
put_behind words zeros checksum at k len few =
    ap (λ front. front ++ (checksum ++ drop k (drop at (words ++ zeros)))) (take_at words zeros at len)
    ∙ ap (λ rest. words ++ (checksum ++ drop k rest)) (drop_at words zeros at len) ∙ ap (λ rest. words ++ (checksum ++ rest)) (drop_all k zeros few)
    ∙ ap (λ behind. words ++ behind) (append-nil checksum)

pub returns-in-Block : goal.returns-in-Block
returns-in-Block c =
    let words : List ℕ = word_bytes (block_words c.in-Block.block) in
    let checksum : List ℕ = c.copy_from_slice.new.self in
    let written : c.write_words.new.bytes ≡ words = c.write_words.ensures ∙ ap word_bytes c.to_words.ensures in
    put_behind c.write_words.new.bytes (replicate 32 0) checksum 96 32 (ap length written ∙ length-words c.in-Block.block) (omega arith)
    ∙ ap (λ front. front ++ checksum) written ∙ ap (λ behind. words ++ behind) c.copy_from_slice.ensures.after ∙ ap spelling (sym c.in-Block.is)
