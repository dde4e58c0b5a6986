-- Good names can stand in rows, and so can those of snapshots.
use Rattle.std.proofs.Common.{◌≡◌, ◌≢◌, ◌≤◌, ◌+◌, ℕ, zero, suc, ◌-◌, Bool, true, false, true≢false, List, [], ◌∷◌, ◌++◌, length, refl, sym, arith}
use Rattle.std.specs.Prelude.{◌&&◌, nat_le, replicate}
use Rattle.std.specs.List.{list_all, AllByRecursion}
use Rattle.std.proofs.lemmas.Bool.Decides.{nat_tests}
use Rattle.std.proofs.lemmas.List.{length-append}
use Rattle.std.proofs.lemmas.List.Elements.{All-from_recursion}
use Rattle.meta_objset.specs.Names.{IsNamed}
use Rattle.pool_model.specs.Names.{is_letter, is_name_letter, is_name, snapshot_name}

-- a name in 56 bytes: the zeros behind it
abbrev pub in_row : List ℕ → List ℕ
in_row name = name ++ replicate (56 - length name) 0

pub both : (a b : Bool) → (a && b) ≡ true → (a ≡ true) × (b ≡ true)
both true b e = (refl, e)
both false b e = absurd (true≢false (sym e))

-- no letter is zero
letter_some : (c : ℕ) → is_letter c ≡ true → c ≢ 0
letter_some zero e z = true≢false (sym e)
letter_some (suc c) e z = absurd (omega (arith, z))

name_letter_some : (c : ℕ) → is_name_letter c ≡ true → c ≢ 0
name_letter_some zero e z = true≢false (sym e)
name_letter_some (suc c) e z = absurd (omega (arith, z))

abbrev NoZero : ℕ → Type 0
NoZero c = c ≢ 0

letters_some : (cs : List ℕ) → list_all is_name_letter cs ≡ true → AllByRecursion NoZero cs
letters_some [] e = tt
letters_some (c ∷ cs) e = let h = both (is_name_letter c) (list_all is_name_letter cs) e in (name_letter_some c h.0, letters_some cs h.1)

-- 1 to 27 bytes, none of which is zero
name_parts : (name : List ℕ) → is_name name ≡ true → (1 ≤ length name) × (length name ≤ 27) × AllByRecursion NoZero name
name_parts [] e = absurd (true≢false (sym e))
name_parts (c ∷ cs) e =
    let first = both (is_letter c) (nat_le (length cs) 26 && list_all is_name_letter cs) e in
    let rest = both (nat_le (length cs) 26) (list_all is_name_letter cs) first.1 in
    (omega arith, grind (arith, nat_tests, rest.0), (letter_some c first.0, letters_some cs rest.1))

-- a good name has its padded form
pub good_named : (name : List ℕ) → is_name name ≡ true → IsNamed (in_row name) name
good_named name e =
    let parts = name_parts name e in
    record {
      some = let least = parts.0 in omega (arith, least);
      few = let most = parts.1 in omega (arith, most);
      no_zero = All-from_recursion NoZero name parts.2;
      padded_is = refl;
    }

both_some : (front back : List ℕ) → AllByRecursion NoZero front → AllByRecursion NoZero back → AllByRecursion NoZero (front ++ back)
both_some [] back none all = all
both_some (c ∷ front) back none all = (none.0, both_some front back none.1 all)

-- so has that of a snapshot, of two good ones
pub snapshot_named : (volume part : List ℕ) → is_name volume ≡ true → is_name part ≡ true → IsNamed (in_row (snapshot_name volume part)) (snapshot_name volume part)
snapshot_named volume part e also =
    let front = name_parts volume e in
    let back = name_parts part also in
    let len : length (snapshot_name volume part) ≡ length volume + length (64 ∷ part) = length-append volume (64 ∷ part) in
    record {
      some = omega (arith, len);
      few = let most = front.1 in let more = back.1 in omega (arith, len, most, more);
      no_zero = All-from_recursion NoZero (snapshot_name volume part) (both_some volume (64 ∷ part) front.2 (λ z. absurd (omega (arith, z)), back.2));
      padded_is = refl;
    }
