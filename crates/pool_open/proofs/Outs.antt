-- Disks that are out, and disks in use.
use Rattle.std.proofs.Common.{◌≡◌, ◌⊎◌, inl, inr, ◌≤◌, ◌<◌, ◌∙◌, ℕ, zero, suc, Bool, true, false, List, [], ◌∷◌, length, slice_get, slice_index_or, slice_set, Some, Contains, refl, sym, ap, subst, arith}
use Rattle.model_disk.specs.Joint.{Disks, JointCall, failed_since}
use Rattle.model_disk.specs.Runs.{Makes}
use Rattle.model_disk.proofs.FailureLemmas.{kept_through}
use Rattle.pool_slots.specs.Failures.{HasFailedOn}
use Rattle.pool_slots.specs.Slots.{InUse, StayOut}

some_bool : (a b : Bool) → Some a ≡ Some b → a ≡ b
some_bool a b e = cc

not_false : Some true ≡ Some false → ⊥
not_false e = let same : true ≡ false = some_bool true false e in cc

pub used_or_out : (xs : List Bool) (which : ℕ) → InUse xs which ⊎ ¬ InUse xs which
used_or_out [] which = inr (λ e. absurd cc)
used_or_out (false ∷ xs) zero = inl refl
used_or_out (true ∷ xs) zero = inr not_false
used_or_out (x ∷ xs) (suc i) = used_or_out xs i

at_flag : (xs : List Bool) (i : ℕ) (d : Bool) → i < length xs → slice_get xs i ≡ Some (slice_index_or xs i d)
at_flag [] i d below = absurd (omega (arith, below))
at_flag (x ∷ xs) zero d below = refl
at_flag (x ∷ xs) (suc i) d below = at_flag xs i d (omega (arith, below))

-- a disk whose mark was read
pub used_at : (xs : List Bool) (which : ℕ) (flag : Bool) → which < length xs → flag ≡ slice_index_or xs which flag → flag ≡ false → InUse xs which
used_at xs which flag below read is = at_flag xs which flag below ∙ ap (λ (b : Bool). Some b) (sym read ∙ is)

-- ---- one more disk is out

-- it is out, and no other
pub record IsPutOut (xs : List Bool) (disk : ℕ) (ys : List Bool) : Type 0 where
  pub stay : (which : ℕ) → InUse ys which → InUse xs which
  pub here : ¬ InUse ys disk
  pub other : (which : ℕ) → InUse xs which → InUse ys which ⊎ (which ≡ disk)

stay_first : (xs : List Bool) (which : ℕ) → InUse (true ∷ xs) which → InUse (false ∷ xs) which
stay_first xs zero it = absurd (not_false it)
stay_first xs (suc i) it = it

other_first : (xs : List Bool) (which : ℕ) → InUse (false ∷ xs) which → InUse (true ∷ xs) which ⊎ (which ≡ 0)
other_first xs zero it = inr refl
other_first xs (suc i) it = inl it

stay_next : (x : Bool) (xs ys : List Bool) (which : ℕ) → ((i : ℕ) → InUse ys i → InUse xs i) → InUse (x ∷ ys) which → InUse (x ∷ xs) which
stay_next x xs ys zero stay it = it
stay_next x xs ys (suc i) stay it = stay i it

other_next : (x : Bool) (xs ys : List Bool) (disk which : ℕ) → ((i : ℕ) → InUse xs i → InUse ys i ⊎ (i ≡ disk)) → InUse (x ∷ xs) which → InUse (x ∷ ys) which ⊎ (which ≡ suc disk)
other_next x xs ys disk zero other it = inl it
other_next x xs ys disk (suc i) other it = elim (other i it) [ inl still ↦ inl still | inr same ↦ inr (ap suc same) ]

pub put_out : (xs : List Bool) (disk : ℕ) → InUse xs disk → IsPutOut xs disk (slice_set xs disk true)
put_out [] disk used = absurd cc
put_out (true ∷ xs) zero used = absurd (not_false used)
put_out (false ∷ xs) zero used = record { stay = stay_first xs; here = not_false; other = other_first xs }
put_out (x ∷ xs) (suc i) used =
    let ys = slice_set xs i true in
    let rest = put_out xs i used in
    record {
      stay = λ which it. stay_next x xs ys which rest.stay it;
      here = rest.here;
      other = λ which it. other_next x xs ys i which rest.other it;
    }

-- ---- how many are in use

abbrev pub uses : List Bool → ℕ
uses [] = 0
uses (true ∷ xs) = uses xs
uses (false ∷ xs) = suc (uses xs)

tail_stays : (x y : Bool) (xs ys : List Bool) → StayOut (x ∷ xs) (y ∷ ys) → StayOut xs ys
tail_stays x y xs ys stay i it = stay (suc i) it

-- with no more disks in use there are no more
uses_fewer : (xs ys : List Bool) → length ys ≡ length xs → StayOut xs ys → uses ys ≤ uses xs
uses_fewer [] [] count stay = omega arith
uses_fewer [] (y ∷ ys) count stay = absurd cc
uses_fewer (x ∷ xs) [] count stay = absurd cc
uses_fewer (false ∷ xs) (false ∷ ys) count stay = omega (arith, uses_fewer xs ys (omega (arith, count)) (tail_stays false false xs ys stay))
uses_fewer (false ∷ xs) (true ∷ ys) count stay = omega (arith, uses_fewer xs ys (omega (arith, count)) (tail_stays false true xs ys stay))
uses_fewer (true ∷ xs) (true ∷ ys) count stay = omega (arith, uses_fewer xs ys (omega (arith, count)) (tail_stays true true xs ys stay))
uses_fewer (true ∷ xs) (false ∷ ys) count stay = absurd (not_false (stay 0 refl))

-- and fewer where one went out
pub uses_less : (xs ys : List Bool) (which : ℕ) → length ys ≡ length xs → StayOut xs ys → InUse xs which → ¬ InUse ys which → uses ys < uses xs
uses_less [] ys which count stay used gone = absurd cc
uses_less (x ∷ xs) [] which count stay used gone = absurd cc
uses_less (true ∷ xs) (y ∷ ys) zero count stay used gone = absurd (not_false used)
uses_less (false ∷ xs) (false ∷ ys) zero count stay used gone = absurd (gone refl)
uses_less (false ∷ xs) (true ∷ ys) zero count stay used gone = omega (arith, uses_fewer xs ys (omega (arith, count)) (tail_stays false true xs ys stay))
uses_less (false ∷ xs) (false ∷ ys) (suc i) count stay used gone =
    omega (arith, uses_less xs ys i (omega (arith, count)) (tail_stays false false xs ys stay) used gone)
uses_less (false ∷ xs) (true ∷ ys) (suc i) count stay used gone =
    omega (arith, uses_less xs ys i (omega (arith, count)) (tail_stays false true xs ys stay) used gone)
uses_less (true ∷ xs) (true ∷ ys) (suc i) count stay used gone =
    omega (arith, uses_less xs ys i (omega (arith, count)) (tail_stays true true xs ys stay) used gone)
uses_less (true ∷ xs) (false ∷ ys) (suc i) count stay used gone = absurd (not_false (stay 0 refl))

-- ---- which failed

pub fails_before : (may : ℕ → ℕ → List ℕ → Type 0) (old mid new : Disks) (disk : ℕ) → Makes may mid new → HasFailedOn old mid disk → HasFailedOn old new disk
fails_before may old mid new disk makes failed =
    let P : List JointCall → Type 0 = λ them. Contains (failed_since (length old.calls) them) disk in
    subst P (sym makes.calls) (kept_through (length old.calls) makes.newer mid.calls disk failed)
