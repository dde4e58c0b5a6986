-- The groups since which disks are out.
use Rattle.std.proofs.Common.{ℕ, zero, suc, ◌≡◌, ◌≤◌, true, false, if◌then◌else◌, Bool, List, [], ◌∷◌, length, refl, arith}
use Rattle.std.specs.Prelude.{nat_lt, min, map, slice_index, slice_set}
use Rattle.std.proofs.lemmas.Bool.Decides.{nat_tests}
use Rattle.std.proofs.lemmas.List.{length-map}
use Rattle.disk_set.specs.Outs.{Spans, in_group}

lowered_to : (since : List ℕ) (group disk : ℕ) → slice_index (map (min group) since) disk ≤ group
lowered_to [] group disk = omega arith
lowered_to (x ∷ xs) group zero = omega arith
lowered_to (x ∷ xs) group (suc disk) = lowered_to xs group disk

not_below : (a b : ℕ) → nat_lt a b ≡ false → b ≤ a
not_below a b is = grind (arith, nat_tests)

pub reached_in : (spans : Spans) (group : ℕ) → ((disk : ℕ) → slice_index spans.since disk ≤ spans.group)
    → (disk : ℕ) → slice_index (in_group spans group).since disk ≤ group
reached_in spans group reached disk = cases (nat_lt group spans.group) refl
  where
    cases : (test : Bool) → nat_lt group spans.group ≡ test → slice_index (if test then map (min group) spans.since else spans.since) disk ≤ group
    cases true is = lowered_to spans.since group disk
    cases false is = omega (arith, reached disk, not_below group spans.group is)

pub length_in : (spans : Spans) (group : ℕ) → length (in_group spans group).since ≡ length spans.since
length_in spans group = cases (nat_lt group spans.group)
  where
    cases : (test : Bool) → length (if test then map (min group) spans.since else spans.since) ≡ length spans.since
    cases true = simp length-map
    cases false = refl

pub set_reached : (xs : List ℕ) (i k v bound : ℕ) → ((n : ℕ) → slice_index xs n ≤ bound) → v ≤ bound → slice_index (slice_set xs i v) k ≤ bound
set_reached [] i k v bound all le = all k
set_reached (x ∷ xs) zero zero v bound all le = le
set_reached (x ∷ xs) zero (suc k) v bound all le = all (suc k)
set_reached (x ∷ xs) (suc i) zero v bound all le = all zero
set_reached (x ∷ xs) (suc i) (suc k) v bound all le = set_reached xs i k v bound (λ n. all (suc n)) le
