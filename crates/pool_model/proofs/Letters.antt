-- The letters of names: none of them is an '@'.
use Rattle.std.proofs.Common.{arith, ◌+◌, ◌≡◌, ℕ, suc, Bool, true, false, true≢false, List, [], ◌∷◌, refl, sym, ap, ◌∙◌, subst}
use Rattle.std.specs.Prelude.{◌&&◌, ◌||◌, ◌==◌, cond, not, length, nat_le, take}
use Rattle.std.specs.List.{list_all, position_or_len}
use Rattle.std.proofs.lemmas.Bool.Decides.{nat_tests}
use Rattle.pool_model.specs.Names.{is_letter, is_name, is_name_letter, is_snapshot_name, snapshot_name, volume_part}

both : (a b : Bool) → (a && b) ≡ true → (a ≡ true) × (b ≡ true)
both true b e = (refl, e)
both false b e = absurd (true≢false (sym e))

same_of : (m n : ℕ) → (m == n) ≡ true → m ≡ n
same_of m n e = grind (arith, nat_tests, e)

no_at : (c : ℕ) → is_name_letter c ≡ true → (c == 64) ≡ false
no_at c e = cases (c == 64) refl
  where
    cases : (b : Bool) → (c == 64) ≡ b → b ≡ false
    cases true f = absurd (true≢false (sym (subst (λ n. is_name_letter n ≡ true) (same_of c 64 f) e)))
    cases false f = refl

none_at : (letters : List ℕ) → list_all is_name_letter letters ≡ true → is_snapshot_name letters ≡ false
none_at [] e = refl
none_at (c ∷ letters) e =
    let parts = both (is_name_letter c) (list_all is_name_letter letters) e in
    ap (λ b. b || is_snapshot_name letters) (no_at c parts.0) ∙ none_at letters parts.1

pub volume_name : (name : List ℕ) → is_name name ≡ true → is_snapshot_name name ≡ false
volume_name [] e = refl
volume_name (c ∷ letters) e =
    let parts = both (is_letter c) (nat_le (length letters) 26 && list_all is_name_letter letters) e in
    ap (λ b. b || is_snapshot_name letters) (no_at c (ap (λ b. b || ((nat_le 48 c && nat_le c 57) || ((c == 46) || ((c == 95) || (c == 45))))) parts.0))
    ∙ none_at letters (both (nat_le (length letters) 26) (list_all is_name_letter letters) parts.1).1

or_true : (b other : Bool) → other ≡ true → (b || other) ≡ true
or_true true other e = refl
or_true false other e = e

pub snapshots_name : (volume part : List ℕ) → is_snapshot_name (snapshot_name volume part) ≡ true
snapshots_name [] part = refl
snapshots_name (c ∷ volume) part = or_true (c == 64) (is_snapshot_name (snapshot_name volume part)) (snapshots_name volume part)

one_more : (n : ℕ) → 1 + n ≡ suc n
one_more n = omega arith

part_before : (volume part : List ℕ) → is_snapshot_name volume ≡ false → volume_part (snapshot_name volume part) ≡ volume
part_before [] part e = refl
part_before (c ∷ volume) part e = cases (c == 64) e (part_before volume part)
  where
    cases : (b : Bool) → (b || is_snapshot_name volume) ≡ false → (is_snapshot_name volume ≡ false → volume_part (snapshot_name volume part) ≡ volume)
        → take (cond (not b) (1 + position_or_len (λ d. d == 64) (snapshot_name volume part)) 0) (c ∷ snapshot_name volume part) ≡ c ∷ volume
    cases true e rest = absurd (true≢false e)
    cases false e rest = ap (λ n. take n (c ∷ snapshot_name volume part)) (one_more _) ∙ ap (λ name. c ∷ name) (rest e)

pub volumes_part : (volume part : List ℕ) → is_name volume ≡ true → volume_part (snapshot_name volume part) ≡ volume
volumes_part volume part e = part_before volume part (volume_name volume e)
