use Rattle.std.proofs.Common.{ℕ, ◌≡◌, ◌<◌, List, length, replicate, sum, get_or, ◌∙◌, ap, arith}
use Rattle.std.proofs.lemmas.List.Folds.{sum_by-replicate}
use Rattle.std.proofs.lemmas.Simd.{length-replicate, get_or-replicate}
use Rattle.measure.proofs.even.Goals as goal

pub returns : goal.returns
returns c =
    let count : ℕ = c.args.count in
    let items : List ℕ = c.loop-column.lengths.items in
    let steps : c.loop-column._column ≡ count = omega arith in
    let is : items ≡ replicate count c.args.size = c.loop-column.invariant ∙ ap (λ (n : ℕ). replicate n c.args.size) steps in
    let long : length items ≡ count = ap (length {A = ℕ}) is ∙ length-replicate count c.args.size in
    let at : (k d : ℕ) → k < count → get_or items k d ≡ c.args.size = λ k d within.
    ap (λ (xs : List ℕ). get_or xs k d) is ∙ get_or-replicate count k c.args.size d within in
    record {
      count = omega (arith, c.requires);
      longest = λ k d within. omega (arith, at k d (omega arith), at 0 0 (omega (arith, c.requires)));
      sum = ap sum is ∙ sum_by-replicate (λ (n : ℕ). n) count c.args.size;
    }
