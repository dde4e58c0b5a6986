use Rattle.std.proofs.Common.{ℕ, ◌≡◌, ◌+◌, ◌<◌, List, bit_xor, slice_index, sym, ◌∙◌, ap, subst, arith}
use Rattle.std.specs.Simd.Lanes.{zip2}
use Rattle.std.proofs.lemmas.List.Sums.{sum_by-drop_more}
use Rattle.raidz_parity.proofs.LaneSums.{IsSummed, summed_start, summed_next, summed_end, first_factor, second_factor, lanes_step}
use Rattle.gf256.specs.Field.{product, power_of_x}
use Rattle.raidz_parity.proofs.sums.row_sums.Goals.{then-row-eq1, else-row-eq1}
use Rattle.raidz_parity.proofs.sums.row_sums.Goals as goal

pub loop-length-init : goal.loop-length-init
loop-length-init c = record { within = c.requires.fits; sums = summed_start c.args.row c.args.at c.args.lengths.now c.args.bytes.now }

pub loop-length-preserved : goal.loop-length-preserved
loop-length-preserved c =
    let row : ℕ = c.args.row in
    let at : ℕ = c.args.at in
    let lengths : List ℕ = c.args.lengths.now in
    let i : ℕ = c.loop-length.length-index in
    let sums : List ℕ = c.loop-length.sums in
    let multiplied : List ℕ = c.if-row-eq1.sums in
    let loaded : List ℕ = c.lanes_at-lanes.result in
    let Rest : List ℕ → Type 0 = λ rest. IsSummed row at (i + 1) lengths c.args.bytes.now rest (zip2 bit_xor multiplied loaded) in
    let are : IsSummed row at i lengths c.args.bytes.now c.loop-length.rest.now sums = c.loop-length.invariant.sums in
    let multiplied_is : (k : ℕ) → k < 64 → slice_index multiplied k ≡ product (power_of_x row) (slice_index sums k) = elim c.if-row-eq1.branch [
      | then-row-eq1 w ↦ second_factor row sums multiplied w.if-row-eq1.true (w.sums-is ∙ w.doubled_wide-sums.ensures) are.long
      | else-row-eq1 w ↦ λ k within. ap (λ (xs : List ℕ). slice_index xs k) w.sums-is ∙ first_factor row sums (omega (arith, w.if-row-eq1.false, c.requires.row)) are.small k within
    ] in
    record {
      within = omega (arith, sum_by-drop_more (λ m. m) lengths i 0 c.loop-length-test.true, c.loop-length.invariant.within, c.split_at.ensures.back_len);
      sums = subst Rest (sym c.split_at.ensures.back)
          (summed_next row at i lengths c.args.bytes.now c.loop-length.rest.now sums c.split_at.result.0.now loaded _
          c.loop-length-test.true c.split_at.ensures.front are
          c.type_inv.sums c.lanes_at-lanes.ensures.lanes (lanes_step row sums multiplied loaded c.if-row-eq1.auto.sums.0 c.lanes_at-lanes.ensures.count multiplied_is));
    }

pub returns : goal.returns
returns c = summed_end c.args.row c.args.at c.loop-length.length-index c.args.lengths.now c.args.bytes.now c.loop-length.rest.now c.loop-length.sums (omega arith) c.loop-length.invariant.sums
