-- How many data blocks a part of a tree has places for: 128 to the power of its level.
use Rattle.std.proofs.Common.{◌≡◌, ℕ, zero, suc, ◌*◌, ◌^◌, ◌<◌, arith, lit<, ap, ◌∙◌}
use Rattle.std.proofs.Math.Nat.{one-le-pow, pow-suc}

-- it fits 64 bits
pub span_fits : (level : ℕ) → level < 6 → 128 ^ level < 2 ^ 64
span_fits zero l = lit< tt
span_fits (suc zero) l = lit< tt
span_fits (suc (suc zero)) l = lit< tt
span_fits (suc (suc (suc zero))) l = lit< tt
span_fits (suc (suc (suc (suc zero)))) l = lit< tt
span_fits (suc (suc (suc (suc (suc zero))))) l = lit< tt
span_fits (suc (suc (suc (suc (suc (suc level)))))) l = absurd (omega arith)

pub span_positive : (level : ℕ) → 0 < 128 ^ level
span_positive level = one-le-pow level 128 (lit< tt)

-- that of a part is 128 times that of those below its root
pub span_up : (level next : ℕ) → level ≡ suc next → 128 ^ level ≡ 128 ^ next * 128
span_up level next e = ap (λ n. 128 ^ n) e ∙ pow-suc 128 next
