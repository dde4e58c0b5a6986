-- Runs in a set by size.
use Rattle.std.proofs.Common.{ℕ, ◌≡◌, ◌≢◌, ◌⊎◌, inl, inr, ◌<◌, ◌≤◌, true, false, cond, ltb, eqb, refl, sym, ◌∙◌, arith}
use Rattle.std.specs.declared.cmp.Ordering.TheVariants.{Less, Equal, Greater}
use Rattle.std.specs.Ordering.{nat_cmp, is_eq, is_gt}
use Rattle.std.specs.BTreeSet.{BTreeSet, contains, Updates}
use Rattle.std.proofs.lemmas.Bool.{cases_lt, cases_eq}
use Rattle.std.proofs.lemmas.Bool.Decides.{nat_tests}
use Rattle.metaslab.specs.Fits.{by_size, HasGainedRun, HasLostRun}

less : (x y : ℕ) → x < y → nat_cmp x y ≡ Less
less x y h = let t : ltb x y ≡ true = grind (arith, nat_tests) in rw t refl

same : (x y : ℕ) → x ≡ y → nat_cmp x y ≡ Equal
same x y h = let t : ltb x y ≡ false = grind (arith, nat_tests) in let u : eqb x y ≡ true = grind (arith, nat_tests) in rw (t, u) refl

greater : (x y : ℕ) → y < x → nat_cmp x y ≡ Greater
greater x y h = let t : ltb x y ≡ false = grind (arith, nat_tests) in let u : eqb x y ≡ false = grind (arith, nat_tests) in rw (t, u) refl

-- the order of two keys
pub same_keys : (k q l p : ℕ) → k ≡ l → q ≡ p → is_eq (by_size (k, q) (l, p)) ≡ true
same_keys k q l p one other = rw (same k l one, same q p other) refl

pub other_places : (k q l p : ℕ) → q ≢ p → is_eq (by_size (k, q) (l, p)) ≡ false
other_places k q l p differ =
    elim (cases_lt k l) [
      | inl below ↦ rw (less k l below) refl
      | inr from ↦ elim (cases_lt l k) [
        | inl above ↦ rw (greater k l above) refl
        | inr to ↦
            elim (cases_lt q p) [
              | inl first ↦ rw (same k l (omega arith), less q p first) refl
              | inr later ↦ rw (same k l (omega arith), greater q p (omega arith)) refl
            ]
      ]
    ]

pub other_lengths : (k q l p : ℕ) → k ≢ l → is_eq (by_size (k, q) (l, p)) ≡ false
other_lengths k q l p differ =
    elim (cases_lt k l) [
      | inl below ↦ rw (less k l below) refl
      | inr from ↦ rw (greater k l (omega arith)) refl
    ]

-- no later than a key: at most as long, and no later a place where as long
pub not_later : (k q l p : ℕ) → is_gt (by_size (k, q) (l, p)) ≡ false → (k < l) ⊎ ((k ≡ l) × (q ≤ p))
not_later k q l p h =
    elim (cases_lt k l) [
      | inl below ↦ inl below
      | inr from ↦ elim (cases_lt l k) [
        | inl above ↦ let no : true ≡ false = rw (greater k l above) at h in absurd cc
        | inr to ↦ elim (cases_lt p q) [
          | inl first ↦ let no : true ≡ false = rw (same k l (omega arith), greater q p first) at h in absurd cc
          | inr later ↦ inr (omega arith, later)
        ]
      ]
    ]

pub from_start : (k l p : ℕ) → k ≤ l → is_gt (by_size (k, 0) (l, p)) ≡ false
from_start k l p h =
    elim (cases_lt k l) [
      | inl below ↦ rw (less k l below) refl
      | inr from ↦ elim (cases_lt 0 p) [
        | inl first ↦ rw (same k l (omega arith), less 0 p first) refl
        | inr none ↦ rw (same k l (omega arith), same 0 p (omega arith)) refl
      ]
    ]

same_or_other : (k q l p : ℕ) → ((q ≡ p) × (k ≡ l)) ⊎ ((q ≢ p) ⊎ (k ≢ l))
same_or_other k q l p =
    elim (cases_eq q p) [
      | inl here ↦ elim (cases_eq k l) [ inl long ↦ inl (here, long) | inr short ↦ inr (inr short) ]
      | inr there ↦ inr (inl there)
    ]

other_keys : (k q l p : ℕ) → (q ≢ p) ⊎ (k ≢ l) → is_eq (by_size (l, p) (k, q)) ≡ false
other_keys k q l p differ = elim differ [ inl there ↦ other_places l p k q (λ e. there (sym e)) | inr short ↦ other_lengths l p k q (λ e. short (sym e)) ]

pub gained : (start len : ℕ) (old new : BTreeSet (ℕ × ℕ)) → Updates by_size old new (len, start) true → HasGainedRun start len old new
gained start len old new updates = record {
  gained = updates.0 (len, start) ∙ rw (same_keys len start len start refl refl) refl;
  stay = λ from long had. elim (same_or_other long from len start) [
    | inl (here, as_long) ↦ updates.0 (long, from) ∙ rw (same_keys len start long from (sym as_long) (sym here)) refl
    | inr differ ↦ updates.0 (long, from) ∙ rw (other_keys long from len start differ) had
  ];
  only = λ from long has. elim (same_or_other long from len start) [
    | inl both ↦ inr both
    | inr differ ↦ let there : cond false true (contains by_size old (long, from)) ≡ true = rw (updates.0 (long, from), other_keys long from len start differ) at has in inl there
  ];
}

pub lost : (start len : ℕ) (old new : BTreeSet (ℕ × ℕ)) → Updates by_size old new (len, start) false → HasLostRun start len old new
lost start len old new updates = record {
  stay = λ from long had differ. updates.0 (long, from) ∙ rw (other_keys long from len start differ) had;
  only = λ from long has. elim (same_or_other long from len start) [
    | inl (here, as_long) ↦ let no : false ≡ true = rw (updates.0 (long, from), same_keys len start long from (sym as_long) (sym here)) at has in absurd cc
    | inr differ ↦ let there : cond false false (contains by_size old (long, from)) ≡ true = rw (updates.0 (long, from), other_keys long from len start differ) at has in (there, differ)
  ];
}
