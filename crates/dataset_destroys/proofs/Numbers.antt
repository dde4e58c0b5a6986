-- Lists of numbers, each once, and functions of numbers with another value at one number.
use Rattle.std.proofs.Common.{◌≡◌, ◌≢◌, ◌↔◌, ◌⊎◌, ℕ, zero, suc, List, [], ◌∷◌, length, Contains, All, AllPairs, inl, inr, refl, sym, ◌∙◌, subst, arith}
use Rattle.std.proofs.lemmas.Bool.{cond-true, cond-false, eq-eqb, ne_eqb, cases_eq, and_left, and_right, and_from}
use Rattle.std.proofs.lemmas.List.Elements.{Contains-append_cases}
use Rattle.std.proofs.lemmas.List.Kept.{AllPairs-cons}
use Rattle.dead_list.specs.Datasets.{updated, passed}

-- ---- lists

is_one : (x other : ℕ) → Contains (x ∷ []) other → x ≡ other
is_one x other (zero, low, is) = is
is_one x other (suc k, low, is) = absurd (omega (arith, low))

pub first_or_later : (x other : ℕ) (xs : List ℕ) → Contains (x ∷ xs) other → (x ≡ other) ⊎ Contains xs other
first_or_later x other xs held = elim (Contains-append_cases (x ∷ []) xs other held) [
  | inl one ↦ inl (is_one x other one)
  | inr later ↦ inr later
]

pub is_first : (x : ℕ) (xs : List ℕ) → Contains (x ∷ xs) x
is_first x xs = (0, omega arith, refl)

pub is_later : (x other : ℕ) (xs : List ℕ) → Contains xs other → Contains (x ∷ xs) other
is_later x other xs (k, low, is) = (suc k, omega (arith, low), is)

abbrev pub AreOnce : List ℕ → Type 0
AreOnce xs = AllPairs (λ x later. x ≢ later) xs

once_tail : (x : ℕ) (xs : List ℕ) → AreOnce (x ∷ xs) → AreOnce xs
once_tail x xs once i j d less low = once (suc i) (suc j) d (omega (arith, less)) (omega (arith, low))

once_head : (x : ℕ) (xs : List ℕ) → AreOnce (x ∷ xs) → ¬ Contains xs x
once_head x xs once (k, low, is) = once 0 (suc k) x (omega arith) (omega (arith, low)) (sym is)

all_other : (x : ℕ) (xs : List ℕ) → ¬ Contains xs x → All (λ y. x ≢ y) xs
all_other x [] none k d low = absurd (omega (arith, low))
all_other x (y ∷ ys) none zero d low = λ same. none (subst (λ z. Contains (y ∷ ys) z) (sym same) (is_first y ys))
all_other x (y ∷ ys) none (suc k) d low = all_other x ys (λ held. none (is_later y x ys held)) k d (omega (arith, low))

-- one more that isn't there yet
pub once_more : (x : ℕ) (xs : List ℕ) → ¬ Contains xs x → AreOnce xs → AreOnce (x ∷ xs)
once_more x xs none once = AllPairs-cons (λ (y later : ℕ). y ≢ later) x xs (all_other x xs none) once

-- the numbers without one of them
pub record IsWithout (all : List ℕ) (n : ℕ) : Type 0 where
  pub rest : List ℕ
  pub count : length all ≡ suc (length rest)
  pub once : AreOnce rest
  pub which : (m : ℕ) → Contains rest m ↔ (Contains all m × (m ≢ n))

pub without : (all : List ℕ) (n : ℕ) → AreOnce all → Contains all n → IsWithout all n
without [] n once held = absurd (omega (arith, held.1))
without (x ∷ xs) n once held = elim (first_or_later x n xs held) [
  | inl same ↦ record {
    rest = xs;
    count = refl;
    once = once_tail x xs once;
    which = λ m. (
      λ there. (is_later x m xs there, λ is. once_head x xs once (subst (λ k. Contains xs k) (is ∙ sym same) there)),
      λ there. elim (first_or_later x m xs there.0) [
        | inl first ↦ absurd (there.1 (sym first ∙ same))
        | inr later ↦ later
      ],
    );
  }
  | inr later ↦
      let below = without xs n (once_tail x xs once) later in
      record {
        rest = x ∷ below.rest;
        count = omega (arith, below.count);
        once = once_more x below.rest (λ there. once_head x xs once ((below.which x).0 there).0) below.once;
        which = λ m. (
          λ there. elim (first_or_later x m below.rest there) [
            | inl first ↦ (subst (λ k. Contains (x ∷ xs) k) first (is_first x xs), λ is. once_head x xs once (subst (λ k. Contains xs k) (sym is ∙ sym first) later))
            | inr behind ↦ let was = (below.which m).0 behind in (is_later x m xs was.0, was.1)
          ],
          λ there. elim (first_or_later x m xs there.0) [
            | inl first ↦ subst (λ k. Contains (x ∷ below.rest) k) first (is_first x below.rest)
            | inr behind ↦ is_later x m below.rest ((below.which m).1 (behind, there.1))
          ],
        );
      }
]

-- ---- functions

pub same_at : {X : Type 0} (s : ℕ → X) (n : ℕ) (x : X) (m : ℕ) → m ≡ n → updated s n x m ≡ x
same_at s n x m e = cond-true _ _ _ (eq-eqb m n e)

pub other_at : {X : Type 0} (s : ℕ → X) (n : ℕ) (x : X) (m : ℕ) → m ≢ n → updated s n x m ≡ s m
other_at s n x m ne = cond-false _ _ _ (ne_eqb m n ne)

pub passed_not : (next : ℕ → ℕ) (before from to m : ℕ) → (m ≡ before → next before ≢ from) → passed next before from to m ≡ next m
passed_not next before from to m not = elim (cases_eq m before) [
  | inl e ↦ cond-false _ _ _ (and_right _ _ (ne_eqb (next before) from (not e)))
  | inr ne ↦ cond-false _ _ _ (and_left _ _ (ne_eqb m before ne))
]

pub passed_at : (next : ℕ → ℕ) (before from to m : ℕ) → m ≡ before → next before ≡ from → passed next before from to m ≡ to
passed_at next before from to m e f = cond-true _ _ _ (and_from _ _ (eq-eqb m before e) (eq-eqb (next before) from f))
