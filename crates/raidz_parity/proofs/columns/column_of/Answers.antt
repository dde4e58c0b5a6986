use Rattle.std.proofs.Common.{ℕ, take, drop, sum, get_or, sym, ◌∙◌, ap, arith}
use Rattle.raidz_parity.proofs.Split.{columns_of-place, sum_of_parts}
use Rattle.raidz_parity.proofs.columns.column_of.Goals as goal

pub split_at-requires-3 : goal.split_at-requires-3
split_at-requires-3 c =
    omega (
      arith,
      sum_of_parts c.args.lengths.now c.args.index c.requires.index,
      c.split_at-2.ensures.back_len,
      c.total.ensures,
      ap sum c.split_at.ensures.front,
      c.requires.fits,
    )

pub returns : goal.returns
returns c =
    let n : ℕ = get_or c.args.lengths.now c.args.index 0 in
    c.split_at-3.ensures.front
    ∙ ap (take n) c.split_at-2.ensures.back
    ∙ ap (λ m. take n (drop m c.args.block.now)) (c.total.ensures ∙ ap sum c.split_at.ensures.front)
    ∙ sym (columns_of-place c.args.lengths.now c.args.block.now c.args.index c.requires.index)
