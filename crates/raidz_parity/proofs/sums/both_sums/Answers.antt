use Rattle.std.proofs.Common.{ℕ, ◌≡◌, ◌+◌, ◌≤◌, List, length, get_or, bit_xor, refl, sym, ◌∙◌, ap, subst, arith}
use Rattle.std.specs.Simd.Lanes.{zip2, chunk}
use Rattle.std.proofs.lemmas.List.Sums.{sum_by-drop_more}
use Rattle.std.proofs.lemmas.List.Elements.{All-get_or}
use Rattle.std.proofs.lemmas.List.{length-map}
use Rattle.gf256.specs.Field.{product}
use Rattle.raidz_parity.proofs.LaneSums.{IsSummed, summed_start, summed_next, summed_end, first_factor, second_factor, lanes_step, length-loaded, loaded_at}
use Rattle.raidz_parity.proofs.sums.both_sums.Goals as goal

pub loop-length-init : goal.loop-length-init
loop-length-init c = record {
  within = c.requires.fits;
  first = summed_start 0 c.args.at c.args.lengths.now c.args.bytes.now;
  second = summed_start 1 c.args.at c.args.lengths.now c.args.bytes.now;
}

pub loop-length-preserved : goal.loop-length-preserved
loop-length-preserved c =
    let at : ℕ = c.args.at in
    let lengths : List ℕ = c.args.lengths.now in
    let i : ℕ = c.loop-length.length-index in
    let first : List ℕ = c.loop-length.first in
    let second : List ℕ = c.loop-length.second in
    let column : List ℕ = c.split_at.result.0.now in
    let loaded : List ℕ = chunk at 64 column in
    let doubled : List ℕ = c.doubled_wide.result in
    let First : List ℕ → Type 0 = λ rest. IsSummed 0 at (i + 1) lengths c.args.bytes.now rest (zip2 bit_xor first loaded) in
    let Second : List ℕ → Type 0 = λ rest. IsSummed 1 at (i + 1) lengths c.args.bytes.now rest (zip2 bit_xor doubled loaded) in
    let are : IsSummed 0 at i lengths c.args.bytes.now c.loop-length.rest.now first = c.loop-length.invariant.first in
    let are' : IsSummed 1 at i lengths c.args.bytes.now c.loop-length.rest.now second = c.loop-length.invariant.second in
    let reach : at + 64 ≤ get_or lengths i 0 = All-get_or (λ n. at + 64 ≤ n) lengths i 0 c.loop-length-test.true c.requires.reach in
    let long : length loaded ≡ 64 = length-loaded column at (omega (arith, reach, c.split_at.ensures.front_len)) in
    record {
      within = omega (arith, sum_by-drop_more (λ m. m) lengths i 0 c.loop-length-test.true, c.loop-length.invariant.within, c.split_at.ensures.back_len);
      first = subst First (sym c.split_at.ensures.back)
          (summed_next 0 at i lengths c.args.bytes.now c.loop-length.rest.now first column loaded _
          c.loop-length-test.true c.split_at.ensures.front are
          c.type_inv.first (loaded_at column at) (lanes_step 0 first first loaded are.long long (first_factor 0 first refl are.small)));
      second = subst Second (sym c.split_at.ensures.back)
          (summed_next 1 at i lengths c.args.bytes.now c.loop-length.rest.now second column loaded _
          c.loop-length-test.true c.split_at.ensures.front are'
          c.type_inv.second (loaded_at column at) (lanes_step 1 second doubled loaded (ap (length {A = ℕ}) c.doubled_wide.ensures ∙ length-map second (product 2) ∙ are'.long) long (second_factor 1 second doubled refl c.doubled_wide.ensures are'.long)));
    }

pub returns-clause-first : goal.returns-clause-first
returns-clause-first c = summed_end 0 c.args.at c.loop-length.length-index c.args.lengths.now c.args.bytes.now c.loop-length.rest.now c.loop-length.first (omega arith) c.loop-length.invariant.first

pub returns-clause-second : goal.returns-clause-second
returns-clause-second c = summed_end 1 c.args.at c.loop-length.length-index c.args.lengths.now c.args.bytes.now c.loop-length.rest.now c.loop-length.second (omega arith) c.loop-length.invariant.second
