-- Where the first element stands that passes a test.
use Rattle.std.proofs.Common.{◌≡◌, ℕ, ◌≤◌, Bool, List, length, Option, Some, None, arith}
use Rattle.std.specs.Prelude.{cond, not, nat_lt}
use Rattle.std.specs.List.{position_or_len}
use Rattle.std.specs.Option.{unwrap_or}
use Rattle.std.proofs.lemmas.Bool.Decides.{nat_tests}
use Rattle.std.proofs.lemmas.List.Sums.{prefix_len-le-length}

found_in : (place len : ℕ) (found : Option ℕ) (at : ℕ) → found ≡ cond (nat_lt place len) (Some place) None → place ≤ len → at ≡ unwrap_or found len → at ≡ place
found_in place len found at is le e = grind (arith, nat_tests, is, le, e)

-- the first place that was found, or the end
pub found_or_end : {X : Type 0} (test : X → Bool) (xs : List X) (found : Option ℕ) (at : ℕ) → found ≡ cond (nat_lt (position_or_len test xs) (length xs)) (Some (position_or_len test xs)) None → at ≡ unwrap_or found (length xs) → at ≡ position_or_len test xs
found_or_end test xs found at is e = found_in (position_or_len test xs) (length xs) found at is (prefix_len-le-length (λ x. not (test x)) xs) e
