use Rattle.std.proofs.Common.{ℕ, ◌≡◌, ◌+◌, ◌≤◌, List, length, get_or, bit_xor, refl, sym, subst, arith}
use Rattle.std.specs.Simd.Lanes.{zip2, chunk}
use Rattle.std.proofs.lemmas.List.Sums.{sum_by-drop_more}
use Rattle.std.proofs.lemmas.List.Elements.{All-get_or}
use Rattle.raidz_parity.proofs.LaneSums.{IsSummed, summed_start, summed_next, summed_end, first_factor, lanes_step, length-loaded, loaded_at}
use Rattle.raidz_parity.proofs.sums.first_sums.Goals as goal

pub loop-length-init : goal.loop-length-init
loop-length-init c = record { within = c.requires.fits; sums = summed_start 0 c.args.at c.args.lengths.now c.args.bytes.now }

pub loop-length-preserved : goal.loop-length-preserved
loop-length-preserved c =
    let at : ℕ = c.args.at in
    let lengths : List ℕ = c.args.lengths.now in
    let i : ℕ = c.loop-length.length-index in
    let sums : List ℕ = c.loop-length.sums in
    let column : List ℕ = c.split_at.result.0.now in
    let loaded : List ℕ = chunk at 64 column in
    let Rest : List ℕ → Type 0 = λ rest. IsSummed 0 at (i + 1) lengths c.args.bytes.now rest (zip2 bit_xor sums loaded) in
    let are : IsSummed 0 at i lengths c.args.bytes.now c.loop-length.rest.now sums = c.loop-length.invariant.sums in
    let reach : at + 64 ≤ get_or lengths i 0 = All-get_or (λ n. at + 64 ≤ n) lengths i 0 c.loop-length-test.true c.requires.reach in
    let long : length loaded ≡ 64 = length-loaded column at (omega (arith, reach, c.split_at.ensures.front_len)) in
    record {
      within = omega (arith, sum_by-drop_more (λ m. m) lengths i 0 c.loop-length-test.true, c.loop-length.invariant.within, c.split_at.ensures.back_len);
      sums = subst Rest (sym c.split_at.ensures.back)
          (summed_next 0 at i lengths c.args.bytes.now c.loop-length.rest.now sums column loaded _
          c.loop-length-test.true c.split_at.ensures.front are
          c.type_inv.sums (loaded_at column at) (lanes_step 0 sums sums loaded are.long long (first_factor 0 sums refl are.small)));
    }

pub returns-clause-sums : goal.returns-clause-sums
returns-clause-sums c = summed_end 0 c.args.at c.loop-length.length-index c.args.lengths.now c.args.bytes.now c.loop-length.rest.now c.loop-length.sums (omega arith) c.loop-length.invariant.sums
