-- What lists hold.
use Rattle.std.proofs.Common.{◌≡◌, zero, suc, List, [], ◌∷◌, Contains, ◌⊎◌, inl, inr, sym, subst, arith}
use Rattle.std.specs.List.{flat_map}
use Rattle.std.proofs.lemmas.List.Elements.{Contains-append_left, Contains-append_right}

module _ {X : Type 0} where
  pub first_or_later : (x other : X) (xs : List X) → Contains (x ∷ xs) other → (x ≡ other) ⊎ Contains xs other
  first_or_later x other xs (zero, low, is) = inl is
  first_or_later x other xs (suc k, low, is) = inr (k, omega (arith, low), is)

  -- what is in the list of one of them is in those of all
  pub in_one : {A : Type 0} (f : X → List A) (xs : List X) (x : X) (a : A) → Contains xs x → Contains (f x) a → Contains (flat_map f xs) a
  in_one f [] x a (k, low, is) held = absurd (omega (arith, low))
  in_one f (first ∷ xs) x a (zero, low, is) held = Contains-append_left (f first) (flat_map f xs) a (subst (λ y. Contains (f y) a) (sym is) held)
  in_one f (first ∷ xs) x a (suc k, low, is) held = Contains-append_right (f first) (flat_map f xs) a (in_one f xs x a (k, omega (arith, low), is) held)
