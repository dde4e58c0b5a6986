-- The number of levels is the least one.
use Rattle.std.proofs.Common.{◌≡◌, ℕ, zero, suc, ◌+◌, ◌-◌, ◌^◌, ◌<◌, ◌≤◌, ap, inl, inr, arith}
use Rattle.std.proofs.Math.Nat.{pow-suc}
use Rattle.std.proofs.lemmas.Bool.{cases_lt}
use Rattle.dnode.specs.Levels.{IsLeast}

-- one more level has no fewer places
capacity-step : (k : ℕ) → 128 ^ k ≤ 128 ^ suc k
capacity-step k = omega (arith, pow-suc 128 k)

capacity-rises : (k d : ℕ) → 128 ^ k ≤ 128 ^ (k + d)
capacity-rises k zero =
    let same : k + zero ≡ k = omega arith in
    let e : 128 ^ (k + zero) ≡ 128 ^ k = ap (λ (n : ℕ). 128 ^ n) same in
    omega (arith, e)
capacity-rises k (suc d) =
    let more : k + suc d ≡ suc (k + d) = omega arith in
    let e : 128 ^ (k + suc d) ≡ 128 ^ suc (k + d) = ap (λ (n : ℕ). 128 ^ n) more in
    omega (arith, capacity-rises k d, capacity-step (k + d), e)

-- a number of levels that is enough, where one level less is not
pub least_from : (highest levels : ℕ) → 0 < levels → highest < 128 ^ (levels - 1) → (1 < levels → 128 ^ (levels - 2) ≤ highest) → IsLeast highest levels
least_from highest levels one enough less = record {
  one = one;
  enough = enough;
  least = λ other some place.
      elim (cases_lt other levels) [
        | inl below ↦
            let d = levels - 2 - (other - 1) in
            let same : other - 1 + d ≡ levels - 2 = omega arith in
            let e : 128 ^ (other - 1 + d) ≡ 128 ^ (levels - 2) = ap (λ (n : ℕ). 128 ^ n) same in
            let long : 1 < levels = omega arith in
            let full : 128 ^ (levels - 2) ≤ highest = less long in
            absurd (omega (arith, capacity-rises (other - 1) d, e, full, place))
        | inr above ↦ above
      ];
}
