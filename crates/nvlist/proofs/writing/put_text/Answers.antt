use Rattle.std.proofs.Common.{◌<◌, length, List, ℕ, ◌++◌, ap, ◌∙◌, arith}
use Rattle.std.specs.Prelude.{replicate}
use Rattle.std.specs.Int.{w32, to_be_bytes}
use Rattle.nvlist.specs.Grammar.{padding_of}
use Rattle.nvlist.proofs.Appends.{three_appended, zeros_front}
use Rattle.nvlist.proofs.writing.put_text.Goals as goal

pub returns : goal.returns
returns c =
    let n = length c.args.text.now in
    let few : padding_of n < 4 = omega arith in
    let text = c.in_ok-extend_from_slice.ensures.items ∙ ap (λ (x : List ℕ). c.put_word.new.out.items ++ x) c.as_bytes.ensures.value in
    let zeros = c.in_ok-extend_from_slice-2.ensures.items ∙ ap (λ (x : List ℕ). c.extend_from_slice.new.self.items ++ x) (zeros_front (padding_of n) few) in
    three_appended c.args.out.now.items c.put_word.new.out.items c.extend_from_slice.new.self.items c.extend_from_slice-2.new.self.items (to_be_bytes w32 n) c.args.text.now (replicate (padding_of n) 0) c.in_ok-put_word.ensures text zeros
