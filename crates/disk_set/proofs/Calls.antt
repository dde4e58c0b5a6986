-- Calls, whatever their errors say, and writes that are due.
use Rattle.std.proofs.Common.{ℕ, suc, ◌≡◌, List, ◌∷◌, Contains, Result, Ok, Err, is_ok, refl, arith}
use Rattle.model_disk.specs.Call.{write_call}

pub same_write_call : {T E U F : Type 0} (result : Result T E) (other : Result U F) (at : ℕ) (bytes : List ℕ) → is_ok result ≡ is_ok other
    → write_call result at bytes ≡ write_call other at bytes
same_write_call (Ok x) (Ok y) at bytes same = refl
same_write_call (Ok x) (Err e) at bytes same = absurd (cc)
same_write_call (Err e) (Ok y) at bytes same = absurd (cc)
same_write_call (Err e) (Err f) at bytes same = refl

pub later_too : {X : Type 0} (x y : X) (xs : List X) → Contains xs y → Contains (x ∷ xs) y
later_too x y xs (k, within, is) = (suc k, omega arith, is)
