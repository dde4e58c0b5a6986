-- The disks that are out.
use Rattle.std.proofs.Common.{ℕ, zero, suc, ◌≡◌, ◌+◌, ◌==◌, ◌||◌, Bool, true, false, List, [], ◌∷◌, Contains, refl, sym, ◌∙◌, arith}
use Rattle.std.proofs.lemmas.Bool.{eq-eqb}
use Rattle.raidz_io.proofs.Calls.{Contains-front, Contains-later}
use Rattle.block_store.specs.Store.{Store, is_out, IsOutToo, outs_from, outs}

pub out_from : (out : List Bool) (first k : ℕ) → is_out out k ≡ true → Contains (outs_from first out) (first + k)
out_from [] first k is = absurd (cc)
out_from (true ∷ rest) first zero is = let here : first + 0 ≡ first = omega arith in rw here (Contains-front first (outs_from (suc first) rest))
out_from (false ∷ rest) first zero is = absurd (cc)
out_from (true ∷ rest) first (suc k) is =
    let next : first + suc k ≡ suc first + k = omega arith in
    Contains-later first (outs_from (suc first) rest) (first + suc k) (rw next (out_from rest (suc first) k is))
out_from (false ∷ rest) first (suc k) is =
    let next : first + suc k ≡ suc first + k = omega arith in rw next (out_from rest (suc first) k is)

pub from_out : (out : List Bool) (first disk : ℕ) → Contains (outs_from first out) disk → (k : ℕ) × (disk ≡ first + k) × (is_out out k ≡ true)
from_out [] first disk (i, within, is) = absurd (omega arith)
from_out (true ∷ rest) first disk (zero, within, is) = (zero, omega (arith, is), refl)
from_out (true ∷ rest) first disk (suc i, within, is) =
    let there = from_out rest (suc first) disk (i, omega arith, is) in (suc there.0, omega (arith, there.1), there.2)
from_out (false ∷ rest) first disk held =
    let there = from_out rest (suc first) disk held in (suc there.0, omega (arith, there.1), there.2)

-- a disk that is out is among them, and the other way round
pub out_is_in : (store : Store) (disk : ℕ) → is_out store.out disk ≡ true → Contains (outs store) disk
out_is_in store disk is = let none : 0 + disk ≡ disk = omega arith in rw (sym none) (out_from store.out 0 disk is)

pub in_is_out : (store : Store) (disk : ℕ) → Contains (outs store) disk → is_out store.out disk ≡ true
in_is_out store disk held =
    let there = from_out store.out 0 disk held in
    let same : disk ≡ there.0 = omega (arith, there.1) in
    rw same there.2

pub not_in : (store : Store) (disk : ℕ) → is_out store.out disk ≡ false → ¬ Contains (outs store) disk
not_in store disk is held = absurd (let e : true ≡ false = sym (in_is_out store disk held) ∙ is in cc)

or_left : (a b : Bool) → a ≡ true → (a || b) ≡ true
or_left true b is = refl
or_left false b is = absurd (cc)

or_right : (a b : Bool) → b ≡ true → (a || b) ≡ true
or_right true b is = refl
or_right false b is = is

same_itself : (n : ℕ) → (n == n) ≡ true
same_itself n = eq-eqb n n refl

-- more are out
pub more_out : (old new : Store) (disk : ℕ) → IsOutToo old.out disk new.out → (other : ℕ) → Contains (outs old) other → Contains (outs new) other
more_out old new disk too other held =
    out_is_in new other (too.disks other ∙ or_left (is_out old.out other) (other == disk) (in_is_out old other held))

pub this_is_out : (old new : Store) (disk : ℕ) → IsOutToo old.out disk new.out → Contains (outs new) disk
this_is_out old new disk too =
    out_is_in new disk (too.disks disk ∙ or_right (is_out old.out disk) (disk == disk) (same_itself disk))
