use Rattle.std.proofs.Common.{◌≡◌, ◌+◌, ◌-◌, ◌*◌, ◌^◌, ◌<◌, ◌≤◌, ℕ, List, Some, [], ◌∷◌, length, take, drop, sym, ap, ◌∙◌, arith, rules}
use Rattle.std.specs.Prelude.{replicate}
use Rattle.std.proofs.lemmas.List.{take_rest, length-take-le, length-drop}
use Rattle.std.proofs.Math.Nat.{le-mul_of_pos_right}
use Rattle.words.specs.Words.{word_bytes}
use Rattle.object_table.proofs.TableEnds.{all_zeros, ends_fit, ends_of_some}
use Rattle.object_table.proofs.ends.rows_between.Goals.{then-first-ne-BLOCK_LEN-via-then-first-ne-BLOCK_LEN, then-first-ne-BLOCK_LEN-via-else-first-ne-BLOCK_LEN+then-last-ne-BLOCK_LEN, then-place-start-via-then-place-start, then-place-start-via-else-place-start+then-place-start-2, then-not-is_zero-via-then-not-is_zero, then-not-is_zero-via-else-not-is_zero+then-not-is_zero-2}
use Rattle.object_table.proofs.ends.rows_between.Goals as goal

pub returns-then-first-ne-BLOCK_LEN-clause-only : goal.returns-then-first-ne-BLOCK_LEN-clause-only
returns-then-first-ne-BLOCK_LEN-clause-only c = λ count some.
    let fit = ends_fit c.args.shape c.args.highest count c.args.first.now c.args.last.now c.requires.shape some in
    elim c.then-first-ne-BLOCK_LEN.branch [
      | then-first-ne-BLOCK_LEN-via-then-first-ne-BLOCK_LEN w ↦ absurd (w.if-first-ne-BLOCK_LEN.true fit.first_len)
      | then-first-ne-BLOCK_LEN-via-else-first-ne-BLOCK_LEN+then-last-ne-BLOCK_LEN w ↦ absurd (w.if-last-ne-BLOCK_LEN.true fit.last_len)
    ]

pub returns-then-count-start-clause-only : goal.returns-then-count-start-clause-only
returns-then-count-start-clause-only c = λ count some.
    let fit = ends_fit c.args.shape c.args.highest count c.args.first.now c.args.last.now c.requires.shape some in
    let number : c.number_of-count.result ≡ count = c.number_of-count.ensures.only count fit.small (c.split_at.ensures.front ∙ fit.word) in
    absurd (omega (arith, number, c.if-count-start.true, fit.within, le-mul_of_pos_right count c.requires.shape.some))

pub returns-then-place-start-clause-only : goal.returns-then-place-start-clause-only
returns-then-place-start-clause-only c = λ count some.
    let fit = ends_fit c.args.shape c.args.highest count c.args.first.now c.args.last.now c.requires.shape some in
    let number : c.number_of-count.result ≡ count = c.number_of-count.ensures.only count fit.small (c.split_at.ensures.front ∙ fit.word) in
    let len : c.number_of-count.result * c.args.shape.row_len ≡ count * c.args.shape.row_len = ap (λ n. n * c.args.shape.row_len) number in
    elim c.then-place-start.branch [
      | then-place-start-via-then-place-start w ↦ absurd (omega (arith, len, w.if-place-start.true, fit.above))
      | then-place-start-via-else-place-start+then-place-start-2 w ↦ absurd (omega (arith, len, w.if-place-start-2.true, fit.within))
    ]

pub returns-then-not-is_zero-clause-only : goal.returns-then-not-is_zero-clause-only
returns-then-not-is_zero-clause-only c = λ count some.
    let fit = ends_fit c.args.shape c.args.highest count c.args.first.now c.args.last.now c.requires.shape some in
    let number : c.number_of-count.result ≡ count = c.number_of-count.ensures.only count fit.small (c.split_at.ensures.front ∙ fit.word) in
    elim c.then-not-is_zero.branch [
      | then-not-is_zero-via-then-not-is_zero w ↦
          let blank : List ℕ = c.split_at.result.1.now in
          let blank_is : blank ≡ replicate (c.args.shape.first_len - 8) 0 = c.split_at.ensures.back ∙ fit.blank in
          let test = c.is_zero.ensures.1 (all_zeros blank (c.args.shape.first_len - 8) blank_is) in
          absurd cc
      | then-not-is_zero-via-else-not-is_zero+then-not-is_zero-2 w ↦
          let behind = λ (n : ℕ). c.args.shape.first_len + n * c.args.shape.row_len - c.args.highest * 4096 in
          let zeros_are = take_rest c.args.last.now (behind c.number_of-count.result) ∙ ap (λ n. drop (behind n) c.args.last.now) number ∙ fit.zeros in
          let test = w.is_zero-else-not-is_zero.ensures.1 (all_zeros _ _ zeros_are) in
          absurd cc
    ]

pub returns-clause-found : goal.returns-clause-found
returns-clause-found c =
    let count : ℕ = c.number_of-count.result in
    let first : List ℕ = c.args.first.now in
    let last : List ℕ = c.args.last.now in
    let place : ℕ = c.args.shape.first_len + count * c.args.shape.row_len in
    let start : ℕ = c.args.highest * 4096 in
    let blank_len : length c.split_at.result.1.now ≡ c.args.shape.first_len - 8 =
    omega (arith, c.split_at.ensures.back_len, length-take-le c.args.shape.first_len first (omega (arith, c.if-first-ne-BLOCK_LEN.false, c.requires.shape.first))) in
    let last_len : length last ≡ 4096 = c.if-last-ne-BLOCK_LEN.false in
    let behind : drop (place - start) last ≡ replicate (length (take (length last - (place - start)) (drop (place - start) last))) 0 =
    sym (take_rest last (place - start)) ∙ c.is_zero-else-not-is_zero.ensures.0 c.if-not-is_zero-2.false in
    let behind_len : length (take (length last - (place - start)) (drop (place - start) last)) ≡ start + 4096 - place =
    ap length (take_rest last (place - start)) ∙ length-drop (place - start) last ∙ ap (λ n. n - (place - start)) last_len ∙ omega (arith, c.if-place-start.false, c.if-place-start-2.false) in
    ends_of_some c.args.shape c.args.highest count first last c.requires.shape
    (record {
      first_len = c.if-first-ne-BLOCK_LEN.false;
      last_len = last_len;
      word = sym c.split_at.ensures.front ∙ c.number_of-count.ensures.found;
      blank = sym c.split_at.ensures.back ∙ c.is_zero.ensures.0 c.if-not-is_zero.false ∙ ap (λ n. replicate n 0) blank_len;
      small = search rules;
      above = omega arith;
      within = omega arith;
      zeros = behind ∙ ap (λ n. replicate n 0) behind_len;
    })
    c.requires.same

pub returns-clause-only : goal.returns-clause-only
returns-clause-only c = λ count some.
    let fit = ends_fit c.args.shape c.args.highest count c.args.first.now c.args.last.now c.requires.shape some in
    ap Some (c.number_of-count.ensures.only count fit.small (c.split_at.ensures.front ∙ fit.word))
