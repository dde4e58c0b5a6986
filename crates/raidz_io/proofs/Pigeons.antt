-- A list with more numbers, no two of them equal, than another has one that is not in it.
use Rattle.std.proofs.Common.{ℕ, zero, suc, ◌≡◌, ◌≢◌, ◌+◌, ◌<◌, ◌≤◌, List, [], ◌∷◌, length, slice_index, slice_index_or, Contains, sym, ◌∙◌, arith}
use Rattle.raidz_io.specs.Reads.{FewAreNotMore}
use Rattle.raidz_io.proofs.Calls.{Contains-front, Contains-later}

-- no two of the numbers are equal
pub record AreDistinct (xs : List ℕ) : Type 0 where
  pub apart : (i k : ℕ) → i < k → k < length xs → slice_index xs i ≢ slice_index xs k

distinct_rest : (x : ℕ) (xs : List ℕ) → AreDistinct (x ∷ xs) → AreDistinct xs
distinct_rest x xs distinct = record { apart = λ i k less within. distinct.apart (suc i) (suc k) (omega arith) (omega arith) }

pub same_at : (xs : List ℕ) (k d x : ℕ) → k < length xs → slice_index_or xs k d ≡ x → slice_index xs k ≡ x
same_at [] k d x within is = absurd (omega arith)
same_at (y ∷ ys) zero d x within is = is
same_at (y ∷ ys) (suc k) d x within is = same_at ys k d x (omega arith) is

first_is_new : (x : ℕ) (xs : List ℕ) → AreDistinct (x ∷ xs) → ¬ Contains xs x
first_is_new x xs distinct (k, within, is) = distinct.apart 0 (suc k) (omega arith) (omega arith) (sym (same_at xs k x x within is))

-- the list without the number there
without : List ℕ → ℕ → List ℕ
without [] k = []
without (y ∷ ys) zero = ys
without (y ∷ ys) (suc k) = y ∷ without ys k

length-without : (ys : List ℕ) (k : ℕ) → k < length ys → length (without ys k) + 1 ≡ length ys
unfolding without
length-without [] k within = absurd (omega arith)
length-without (y ∷ ys) zero within = omega arith
length-without (y ∷ ys) (suc k) within = omega (arith, length-without ys k (omega arith))

still_in : (ys : List ℕ) (k y : ℕ) → Contains ys y → y ≢ slice_index ys k → Contains (without ys k) y
unfolding without
still_in [] k y held other = held
still_in (z ∷ ys) zero y (zero, within, is) other = absurd (other (sym is))
still_in (z ∷ ys) zero y (suc j, within, is) other = (j, omega arith, is)
still_in (z ∷ ys) (suc k) y (zero, within, is) other = (0, omega arith, is)
still_in (z ∷ ys) (suc k) y (suc j, within, is) other = Contains-later z (without ys k) y (still_in ys k y (j, omega arith, is) other)

pub distinct_fit : (xs ys : List ℕ) → AreDistinct xs → ((y : ℕ) → Contains xs y → Contains ys y) → length xs ≤ length ys
distinct_fit [] ys distinct among = omega arith
distinct_fit (x ∷ xs) ys distinct among =
    let at : Contains ys x = among x (Contains-front x xs) in
    let here : slice_index ys at.0 ≡ x = same_at ys at.0 x x at.1 at.2 in
    let rest : length xs ≤ length (without ys at.0) =
    distinct_fit xs (without ys at.0) (distinct_rest x xs distinct) (λ y held.
    still_in ys at.0 y (among y (Contains-later x xs y held)) (λ same.
    first_is_new x xs distinct (let is : y ≡ x = same ∙ here in rw is at held))) in
    omega (arith, rest, length-without ys at.0 at.1)

pub few_are_not_more : FewAreNotMore
few_are_not_more extent absent few more =
    let fit : length more.disks ≤ length few.disks =
    distinct_fit more.disks few.disks (record { apart = more.apart }) (λ disk held.
    let each = more.each disk held in few.all disk each.0 each.1) in
    omega (arith, fit, few.few, more.more)
