use Rattle.std.proofs.Common.{ℕ, ◌≡◌, ◌+◌, inl, inr, slice_index, sym, ◌∙◌, ap, arith}
use Rattle.std.proofs.lemmas.Bool.{cases_lt}
use Rattle.std.proofs.lemmas.List.{get_or-set_same, get_or-set_other, get_or-replicate, get_or_past}
use Rattle.std.proofs.Math.ListN.{set, length-set}
use Rattle.raidz_parity.proofs.sums.last_lanes.Goals as goal

pub returns-then-at-column : goal.returns-then-at-column
returns-then-at-column c k within = get_or-replicate 64 k 0 0 within ∙ sym (get_or_past c.args.column.now (c.args.at + k) 0 (omega arith))

pub loop-k-preserved : goal.loop-k-preserved
loop-k-preserved c =
    let k : ℕ = c.loop-k.k in
    record {
      long = omega (arith, length-set {A = ℕ}, c.loop-k.invariant.long);
      read = λ j within. elim (cases_lt j k) [
        | inl before ↦ get_or-set_other c.loop-k.bytes k j c.byte_at.result 0 (λ e. omega (arith, e)) ∙ c.loop-k.invariant.read j before
        | inr past ↦
            let here : j ≡ k = omega arith in
            ap (λ i. slice_index (set c.loop-k.bytes k c.byte_at.result) i) here
            ∙ get_or-set_same c.loop-k.bytes k c.byte_at.result 0 (omega (arith, c.loop-k.invariant.long))
            ∙ c.byte_at.ensures
            ∙ ap (λ i. slice_index c.args.column.now (c.args.at + i)) (sym here)
      ];
    }
