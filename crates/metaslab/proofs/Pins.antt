-- Pinned groups, and what is due.
use Rattle.std.proofs.Common.{◌≡◌, ℕ, ◌+◌, ◌<◌, ◌≤◌, ◌⊎◌, inl, inr, Bool, true, false, ◌&&◌, ◌||◌, not, leb, eqb, List, [], ◌∷◌, ◌++◌, refl, ap, ◌∙◌, arith}
use Rattle.std.proofs.lemmas.Bool.{cases_lt}
use Rattle.std.proofs.lemmas.Bool.Decides.{nat_tests}
use Rattle.std.specs.List.{list_all, filter}
use Rattle.metaslab.specs.State.{is_due}
use Rattle.metaslab.specs.Pool.{is_pinned}

pub cases : (b : Bool) → (b ≡ true) ⊎ (b ≡ false)
cases true = inl refl
cases false = inr refl

pub both : (a b : Bool) → (a && b) ≡ true → (a ≡ true) × (b ≡ true)
both true b h = (refl, h)
both false b h = absurd cc

pub first_or_second : (a b : Bool) → (a && b) ≡ false → (a ≡ false) ⊎ (b ≡ false)
first_or_second true b h = inr h
first_or_second false b h = inl refl

pub either : (a b : Bool) → (a || b) ≡ true → (a ≡ true) ⊎ (b ≡ true)
either true b h = inl refl
either false b h = inr h

pub or_true : (a : Bool) → (a || true) ≡ true
or_true true = refl
or_true false = refl

-- no group before the releasing one is pinned
pub pins_from : (pins : List ℕ) (m p : ℕ) → list_all (λ pin. leb m pin) pins ≡ true → is_pinned pins p ≡ true → m ≤ p
pins_from [] m p all pinned = absurd cc
pins_from (q ∷ qs) m p all pinned =
    let b = both (leb m q) (list_all (λ pin. leb m pin) qs) all in
    let first = b.0 in
    elim (either (eqb q p) (is_pinned qs p) pinned) [
      | inl same ↦ grind (arith, nat_tests)
      | inr later ↦ pins_from qs m p b.1 later
    ]

pub pinned_before : (pins : List ℕ) (m : ℕ) → list_all (λ pin. leb m pin) pins ≡ false → (p : ℕ) × (is_pinned pins p ≡ true) × (p < m)
pinned_before [] m none = absurd cc
pinned_before (q ∷ qs) m none =
    elim (first_or_second (leb m q) (list_all (λ pin. leb m pin) qs) none) [
      | inl first ↦ let same : eqb q q ≡ true = grind (arith, nat_tests) in let below : q < m = grind (arith, nat_tests) in (q, ap (λ (b : Bool). b || is_pinned qs q) same, below)
      | inr later ↦ let rest = pinned_before qs m later in (rest.0, ap (λ (b : Bool). eqb q rest.0 || b) rest.1 ∙ or_true (eqb q rest.0), rest.2)
    ]

-- what is due was released three groups before, and no group before that is pinned
pub due : (pins : List ℕ) (g m : ℕ) → is_due pins g m ≡ true → (m + 3 ≤ g) × ((p : ℕ) → is_pinned pins p ≡ true → m ≤ p)
due pins g m h =
    let b = both (leb (m + 3) g) (list_all (λ pin. leb m pin) pins) h in
    let late = b.0 in
    let enough : m + 3 ≤ g = grind (arith, nat_tests) in
    (enough, λ p pinned. pins_from pins m p b.1 pinned)

pub not_due : (pins : List ℕ) (g m : ℕ) → is_due pins g m ≡ false → (g < m + 3) ⊎ ((p : ℕ) × (is_pinned pins p ≡ true) × (p < m))
not_due pins g m h =
    elim (first_or_second (leb (m + 3) g) (list_all (λ pin. leb m pin) pins) h) [
      | inl early ↦ let e : g < m + 3 = grind (arith, nat_tests) in inl e
      | inr some ↦ inr (pinned_before pins m some)
    ]

-- what is pinned after an unpin was pinned before
pub still_pinned : (pins : List ℕ) (g p : ℕ) → is_pinned (filter (λ pin. not (eqb pin g)) pins) p ≡ true → is_pinned pins p ≡ true
still_pinned [] g p h = h
still_pinned (q ∷ qs) g p h =
    elim (cases (eqb q g)) [
      | inl gone ↦
          let rest : is_pinned (filter (λ pin. not (eqb pin g)) qs) p ≡ true = rw gone at h in
          ap (λ (b : Bool). eqb q p || b) (still_pinned qs g p rest) ∙ or_true (eqb q p)
      | inr stays ↦
          let more : (eqb q p || is_pinned (filter (λ pin. not (eqb pin g)) qs) p) ≡ true = rw stays at h in
          elim (either (eqb q p) (is_pinned (filter (λ pin. not (eqb pin g)) qs) p) more) [
            | inl same ↦ ap (λ (b : Bool). b || is_pinned qs p) same
            | inr later ↦ ap (λ (b : Bool). eqb q p || b) (still_pinned qs g p later) ∙ or_true (eqb q p)
          ]
    ]

pub not_true : (b : Bool) → not b ≡ true → b ≡ false
not_true true h = absurd cc
not_true false h = refl

pub cases_le : (a b : ℕ) → (a ≤ b) ⊎ (b < a)
cases_le a b = elim (cases_lt b a) [ inl above ↦ inr above | inr below ↦ inl below ]

-- what is pinned after a pin is that group, or was pinned before
pub pinned_or_was : (pins : List ℕ) (g p : ℕ) → is_pinned (pins ++ g ∷ []) p ≡ true → (g ≡ p) ⊎ (is_pinned pins p ≡ true)
pinned_or_was [] g p h = elim (either (eqb g p) false h) [ inl same ↦ let e : g ≡ p = grind (arith, nat_tests) in inl e | inr none ↦ absurd cc ]
pinned_or_was (q ∷ qs) g p h =
    elim (either (eqb q p) (is_pinned (qs ++ g ∷ []) p) h) [
      | inl same ↦ inr (ap (λ (b : Bool). b || is_pinned qs p) same)
      | inr later ↦ elim (pinned_or_was qs g p later) [ inl new ↦ inl new | inr was ↦ inr (ap (λ (b : Bool). eqb q p || b) was ∙ or_true (eqb q p)) ]
    ]
