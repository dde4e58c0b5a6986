-- What folding groups into a pool comes to.
use Rattle.std.proofs.Common.{◌≡◌, ℕ, zero, suc, ◌<◌, ◌≤◌, Bool, true, false, refl, sym, ap, ◌∙◌, subst, arith}
use Rattle.std.specs.Prelude.{cond, nat_le, ◌==◌}
use Rattle.std.proofs.lemmas.Bool.Decides.{nat_tests}
use Rattle.pool_model.specs.Pools.{PlainPool, Ledger, applied, upto}

pub upto_base : (c : ℕ) (pool : PlainPool) (ledger : Ledger) → upto c pool ledger c ≡ pool
upto_base zero pool ledger = refl
upto_base (suc c) pool ledger = grind (arith, nat_tests)

pub upto_above : (c n : ℕ) (pool : PlainPool) (ledger : Ledger) → c ≤ n → upto c pool ledger (suc n) ≡ applied (suc n) (upto c pool ledger n) (ledger (suc n))
upto_above c n pool ledger le = grind (arith, nat_tests, le)

pub upto_one : (c : ℕ) (pool : PlainPool) (ledger : Ledger) → upto c pool ledger (suc c) ≡ applied (suc c) pool (ledger (suc c))
upto_one c pool ledger = upto_above c c pool ledger (omega arith) ∙ ap (λ p. applied (suc c) p (ledger (suc c))) (upto_base c pool ledger)

-- one commit more as the base makes no difference above it
from_cases : (c : ℕ) (pool : PlainPool) (ledger : Ledger) (n : ℕ) (b : Bool) → nat_le (suc c) n ≡ b → suc c ≤ suc n → (suc c ≤ n → upto (suc c) (applied (suc c) pool (ledger (suc c))) ledger n ≡ upto c pool ledger n) → upto (suc c) (applied (suc c) pool (ledger (suc c))) ledger (suc n) ≡ upto c pool ledger (suc n)
from_cases c pool ledger n true e le step =
    let low : suc c ≤ n = grind (arith, nat_tests, e) in
    upto_above (suc c) n _ ledger low ∙ (ap (λ p. applied (suc n) p (ledger (suc n))) (step low) ∙ sym (upto_above c n pool ledger (omega arith)))
from_cases c pool ledger n false e le step =
    let same : n ≡ c = let f : n < suc c = grind (arith, nat_tests, e) in omega arith in
    rw same (upto_base (suc c) (applied (suc c) pool (ledger (suc c))) ledger ∙ sym (upto_one c pool ledger))

pub upto_from : (c : ℕ) (pool : PlainPool) (ledger : Ledger) (n : ℕ) → suc c ≤ n → upto (suc c) (applied (suc c) pool (ledger (suc c))) ledger n ≡ upto c pool ledger n
upto_from c pool ledger zero le = absurd (omega arith)
upto_from c pool ledger (suc n) le = from_cases c pool ledger n (nat_le (suc c) n) refl le (upto_from c pool ledger n)

chain_cases : (c m : ℕ) (pool : PlainPool) (ledger : Ledger) (n : ℕ) (b : Bool) → nat_le m n ≡ b → c ≤ m → m ≤ suc n → (m ≤ n → upto m (upto c pool ledger m) ledger n ≡ upto c pool ledger n) → upto m (upto c pool ledger m) ledger (suc n) ≡ upto c pool ledger (suc n)
chain_cases c m pool ledger n true e low le step =
    let high : m ≤ n = grind (arith, nat_tests, e) in
    upto_above m n _ ledger high ∙ (ap (λ p. applied (suc n) p (ledger (suc n))) (step high) ∙ sym (upto_above c n pool ledger (omega arith)))
chain_cases c m pool ledger n false e low le step =
    let same : m ≡ suc n = let f : n < m = grind (arith, nat_tests, e) in omega arith in
    subst (λ k. upto k (upto c pool ledger k) ledger (suc n) ≡ upto c pool ledger (suc n)) (sym same) (upto_base (suc n) (upto c pool ledger (suc n)) ledger)

pub upto_chain : (c m : ℕ) (pool : PlainPool) (ledger : Ledger) (n : ℕ) → c ≤ m → m ≤ n → upto m (upto c pool ledger m) ledger n ≡ upto c pool ledger n
upto_chain c m pool ledger zero low le = let same : m ≡ 0 = omega arith in subst (λ k. upto k (upto c pool ledger k) ledger 0 ≡ upto c pool ledger 0) (sym same) refl
upto_chain c m pool ledger (suc n) low le = chain_cases c m pool ledger n (nat_le m n) refl low le (upto_chain c m pool ledger n low)

pub upto_agree : (c : ℕ) (pool : PlainPool) (ledger other : Ledger) (n : ℕ) → ((group : ℕ) → group ≤ n → ledger group ≡ other group) → upto c pool ledger n ≡ upto c pool other n
upto_agree c pool ledger other zero f = refl
upto_agree c pool ledger other (suc n) f = let rest = upto_agree c pool ledger other n (λ group le. f group (omega arith)) in let same = f (suc n) (omega arith) in λ i. cond (nat_le (suc n) c) pool (applied (suc n) (rest i) (same i))

pub itself : (n : ℕ) → (n == n) ≡ true
itself n = grind (arith, nat_tests)

pub not_above : (n : ℕ) → nat_le n n ≡ true
not_above n = grind (arith, nat_tests)

pub above : (n : ℕ) → nat_le (suc n) n ≡ false
above n = grind (arith, nat_tests)
