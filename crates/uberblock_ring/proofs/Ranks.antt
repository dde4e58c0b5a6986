-- Ranks of uberblocks.
use Rattle.std.proofs.Common.{◌≡◌, ◌<◌, ◌≤◌, ◌∙◌, ℕ, List, length, sym, inl, inr, arith}
use Rattle.std.specs.Prelude.{Option, Some, None, IfNone}
use Rattle.std.proofs.lemmas.Bool.{cases_lt}
use Rattle.std.proofs.lemmas.List.{get_or_past}
use Rattle.uberblock_ring.specs.declared.uberblock.Uberblock.{Uberblock}
use Rattle.uberblock_ring.specs.Ranking.{RanksUpTo, Has, IsHighest, IsRewound}

pub ranks_through : (a b c : Uberblock) → RanksUpTo a b → RanksUpTo b c → RanksUpTo a c
ranks_through a b c first second =
    elim first [
      | inl less ↦ elim second [ inl more ↦ inl (omega arith) | inr same ↦ let e = same.0 in inl (omega arith) ]
      | inr equal ↦ let e = equal.0 in elim second [ inl more ↦ inl (omega arith) | inr same ↦ let f = same.0 in inr (omega arith, omega (arith, equal.1, same.1)) ]
    ]

pub ranks_as_itself : (a : Uberblock) → RanksUpTo a a
ranks_as_itself a = inr (omega arith, omega arith)

-- the highest of the first n slots
abbrev pub HighestOf : ℕ → List (Option Uberblock) → Option (ℕ × Uberblock) → Type 0
HighestOf n slots None = (j : ℕ) (other : Uberblock) → j < n → Has slots j other → ⊥
HighestOf n slots (Some (i, u)) = Has slots i u × ((j : ℕ) (other : Uberblock) → j < n → Has slots j other → RanksUpTo other u)

-- no slot is behind the last
within : (slots : List (Option Uberblock)) (j : ℕ) (u : Uberblock) → Has slots j u → j < length slots
within slots j u has =
    elim (cases_lt j (length slots)) [
      | inl less ↦ less
      | inr more ↦ let e : None ≡ Some u = sym (get_or_past slots j None more) ∙ has in absurd cc
    ]

pub highest_of_all : (n : ℕ) (slots : List (Option Uberblock)) (i : ℕ) (u : Uberblock) → length slots ≤ n → HighestOf n slots (Some (i, u)) → IsHighest slots i
highest_of_all n slots i u all is = (u, is.0, λ j other has. is.1 j other (omega (arith, within slots j other has)) has)

pub none_of_all : (n : ℕ) (slots : List (Option Uberblock)) → length slots ≤ n → HighestOf n slots None → (i : ℕ) (u : Uberblock) → ¬ Has slots i u
none_of_all n slots all is i u has = is i u (omega (arith, within slots i u has)) has

-- none of the first n slots is it
abbrev pub NoneRewound : ℕ → List (Option Uberblock) → Uberblock → ℕ → Type 0
NoneRewound n slots from groups = (i : ℕ) (u : Uberblock) → i < n → Has slots i u → ¬ IsRewound from groups u

pub whatever : (r : Option ℕ) (P : Type 0) → P → IfNone r P
whatever None P p = p
whatever (Some i) P p = tt
