-- The part of a name that is a volume's.
use Rattle.std.proofs.Common.{◌≡◌, ◌+◌, ℕ, suc, Bool, true, false, true≢false, List, [], ◌∷◌, refl, ap, ◌∙◌, arith}
use Rattle.std.specs.Prelude.{◌||◌, ◌==◌, cond, not, take}
use Rattle.std.specs.List.{position_or_len}
use Rattle.pool_model.proofs.Letters.{volume_name}
use Rattle.pool_model.specs.Names.{is_name, is_snapshot_name, volume_part}

one_more : (n : ℕ) → 1 + n ≡ suc n
one_more n = omega arith

-- where there is no '@' it is the whole name
part_none : (name : List ℕ) → is_snapshot_name name ≡ false → volume_part name ≡ name
part_none [] e = refl
part_none (c ∷ name) e = cases (c == 64) e (part_none name)
  where
    cases : (b : Bool) → (b || is_snapshot_name name) ≡ false → (is_snapshot_name name ≡ false → volume_part name ≡ name)
        → take (cond (not b) (1 + position_or_len (λ d. d == 64) name) 0) (c ∷ name) ≡ c ∷ name
    cases true e rest = absurd (true≢false e)
    cases false e rest = ap (λ n. take n (c ∷ name)) (one_more _) ∙ ap (λ letters. c ∷ letters) (rest e)

pub volume_is_part : (name : List ℕ) → is_name name ≡ true → volume_part name ≡ name
volume_is_part name good = part_none name (volume_name name good)

-- it has no '@'
pub part_has_none : (name : List ℕ) → is_snapshot_name (volume_part name) ≡ false
part_has_none [] = refl
part_has_none (c ∷ name) = cases (c == 64) refl (part_has_none name)
  where
    cases : (b : Bool) → (c == 64) ≡ b → is_snapshot_name (volume_part name) ≡ false
        → is_snapshot_name (take (cond (not b) (1 + position_or_len (λ d. d == 64) name) 0) (c ∷ name)) ≡ false
    cases true e rest = refl
    cases false e rest = ap (λ n. is_snapshot_name (take n (c ∷ name))) (one_more _) ∙ ap (λ b. b || is_snapshot_name (volume_part name)) e ∙ rest
