use Rattle.std.proofs.Common.{◌≡◌, ◌+◌, ◌-◌, ◌*◌, ◌/◌, ◌++◌, ℕ, List, [], ◌∷◌, length, take, drop, refl, sym, ap, ◌∙◌, arith, rules}
use Rattle.std.specs.Prelude.{replicate}
use Rattle.std.proofs.lemmas.List.{length-replicate}
use Rattle.words.specs.Words.{word_bytes}
use Rattle.object_table.proofs.Seams.{TableCut, cut_table, join_table}
use Rattle.object_table.proofs.rows.rows_in.Goals as goal

pub returns-clause-found : goal.returns-clause-found
returns-clause-found c =
    let bytes : List ℕ = c.args.bytes.now in
    let count : ℕ = c.number_of-count.result in
    let rows : List ℕ = c.split_at-3.result.0.now in
    let blank : List ℕ = c.split_at-2.result.1.now in
    let zeros : List ℕ = c.split_at-3.result.1.now in
    let blank_len : length blank ≡ c.args.shape.first_len - 8 = omega (arith, c.split_at-2.ensures.back_len, c.split_at.ensures.front_len) in
    let cut : TableCut bytes (word_bytes (count ∷ [])) (replicate (length blank) 0) rows (replicate (length zeros) 0) c.args.shape.first_len (count * c.args.shape.row_len) = record {
      word_is = ap (take 8) (sym c.split_at.ensures.front) ∙ sym c.split_at-2.ensures.front ∙ c.number_of-count.ensures.found;
      blank_is = ap (drop 8) (sym c.split_at.ensures.front) ∙ sym c.split_at-2.ensures.back ∙ c.is_zero.ensures.0 c.if-not-is_zero.false;
      rows_are = ap (take (count * c.args.shape.row_len)) (sym c.split_at.ensures.back) ∙ sym c.split_at-3.ensures.front;
      zeros_are = ap (drop (count * c.args.shape.row_len)) (sym c.split_at.ensures.back) ∙ sym c.split_at-3.ensures.back ∙ c.is_zero-else-not-is_zero.ensures.0 c.if-not-is_zero-2.false;
    } in
    let whole = join_table bytes (word_bytes (count ∷ [])) (replicate (length blank) 0) rows (replicate (length zeros) 0) c.args.shape.first_len (count * c.args.shape.row_len) cut in
    record {
      count = count;
      small = search rules;
      are_rows = c.split_at-3.ensures.front_len;
      zeros = length zeros;
      few = c.if-zeros-ge-BLOCK_LEN.false;
      blocks = length bytes / 4096;
      whole = omega (arith, c.if-bytes-ne0.false);
      spelled = whole ∙ ap (λ n. word_bytes (count ∷ []) ++ (replicate n 0 ++ (rows ++ replicate (length zeros) 0))) blank_len;
    }

pub returns-clause-only : goal.returns-clause-only
returns-clause-only c = λ rows spells.
    let none : ℕ = 0 in
    let blank_len : 8 + length (replicate (c.args.shape.first_len - 8) none) ≡ c.args.shape.first_len = omega (arith, length-replicate (c.args.shape.first_len - 8) none, c.requires.word) in
    let cut = cut_table c.args.bytes.now (word_bytes (spells.count ∷ [])) (replicate (c.args.shape.first_len - 8) 0) rows (replicate spells.zeros 0) c.args.shape.first_len (spells.count * c.args.shape.row_len)
    refl blank_len spells.are_rows spells.spelled in
    let number : c.number_of-count.result ≡ spells.count =
    c.number_of-count.ensures.only spells.count spells.small (c.split_at-2.ensures.front ∙ ap (take 8) c.split_at.ensures.front ∙ cut.word_is) in
    c.split_at-3.ensures.front ∙ ap (take (c.number_of-count.result * c.args.shape.row_len)) c.split_at.ensures.back
    ∙ ap (λ n. take (n * c.args.shape.row_len) (drop c.args.shape.first_len c.args.bytes.now)) number ∙ cut.rows_are
