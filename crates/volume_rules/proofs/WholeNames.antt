-- The parts of a name, before and behind its first '@'.
use Rattle.std.proofs.Common.{◌≡◌, ℕ, suc, ◌+◌, Bool, true, false, true≢false, List, [], ◌∷◌, length, take, drop, ◌-◌, Some, None, refl, sym, ap, ◌∙◌, arith}
use Rattle.std.specs.Prelude.{◌==◌, ◌&&◌, ◌||◌, cond, nat_lt, not}
use Rattle.std.specs.List.{position, position_or_len}
use Rattle.std.proofs.lemmas.Bool.Decides.{nat_tests}
use Rattle.std.proofs.lemmas.List.{take_rest}
use Rattle.std.proofs.lemmas.Option.{cond_some}
use Rattle.pool_model.specs.declared.volume.VolumeKind.TheVariants.{Snapshot as SnapshotKind}
use Rattle.pool_model.specs.Names.{is_name, is_name_for, is_snapshot_name, is_whole_name, volume_part}
use Rattle.pool_model.proofs.Letters.{volume_name}

-- the place of the first '@', or the length
abbrev first_at : List ℕ → ℕ
first_at letters = position_or_len (λ c. c == 64) letters

has_first : (letters : List ℕ) → is_snapshot_name letters ≡ nat_lt (first_at letters) (length letters)
has_first [] = refl
has_first (c ∷ letters) = cases (c == 64) (has_first letters)
  where
    later : (n m : ℕ) → nat_lt n m ≡ nat_lt (1 + n) (suc m)
    later n m = grind (arith, nat_tests)

    cases : (b : Bool) → is_snapshot_name letters ≡ nat_lt (first_at letters) (length letters)
        → (b || is_snapshot_name letters) ≡ nat_lt (cond (not b) (1 + first_at letters) 0) (suc (length letters))
    cases true e = grind (arith, nat_tests)
    cases false e = e ∙ later (first_at letters) (length letters)

-- a name with an '@' has its first one there
at_first : (letters : List ℕ) (end : ℕ) → position (λ c. c == 64) letters ≡ Some end → (is_snapshot_name letters ≡ true) × (first_at letters ≡ end)
at_first letters end e =
    let parts = cond_some (nat_lt (first_at letters) (length letters)) (first_at letters) end e in
    (has_first letters ∙ parts.0, parts.1)

-- a name without one has none
none_first : (letters : List ℕ) → position (λ c. c == 64) letters ≡ None → is_snapshot_name letters ≡ false
none_first letters e = has_first letters ∙ past (nat_lt (first_at letters) (length letters)) (first_at letters) e
  where
    past : (b : Bool) (n : ℕ) → cond b (Some n) None ≡ None → b ≡ false
    past true n f = absurd (cc)
    past false n f = refl

-- ---- names of snapshots

and_true : (b : Bool) → b ≡ (b && true)
and_true true = refl
and_true false = refl

and_false : (b : Bool) → false ≡ (b && false)
and_false true = refl
and_false false = refl

pub good_before : (letters : List ℕ) (end : ℕ) → position (λ c. c == 64) letters ≡ Some end → is_name (take end letters) ≡ is_name_for SnapshotKind letters
good_before letters end e =
    let first = at_first letters end e in
    and_true (is_name (take end letters)) ∙ (λ i. is_name (take (sym first.1 i) letters) && sym first.0 i)

pub none_good : (letters : List ℕ) → position (λ c. c == 64) letters ≡ None → false ≡ is_name_for SnapshotKind letters
none_good letters e = and_false (is_name (volume_part letters)) ∙ ap (λ b. is_name (volume_part letters) && b) (sym (none_first letters e))

-- ---- whole names

-- a name with an '@' is no name of a volume
no_volume : (letters : List ℕ) (b : Bool) → is_name letters ≡ b → is_snapshot_name letters ≡ true → b ≡ false
no_volume letters true e f = absurd (true≢false (sym f ∙ volume_name letters e))
no_volume letters false e f = refl

-- one with an '@' is a whole name if both of its parts are names
pub whole_at : (letters : List ℕ) (end : ℕ) → position (λ c. c == 64) letters ≡ Some end
    → (is_name (take end letters) && is_name (take (length letters - (end + 1)) (drop (end + 1) letters))) ≡ is_whole_name letters
whole_at letters end e =
    let first = at_first letters end e in
    let next : end + 1 ≡ suc end = omega arith in
    (λ i. is_name (take end letters) && is_name (take_rest letters (end + 1) i))
    ∙ (λ i. is_name (take (sym first.1 i) letters) && is_name (drop (next i) letters))
    ∙ sym (λ i. no_volume letters (is_name letters) refl first.0 i || (is_name (volume_part letters) && is_name (drop (suc (first.1 i)) letters)))
