-- The own blocks of all datasets.
use Rattle.std.proofs.Common.{ℕ, zero, suc, ◌≡◌, ◌≢◌, ◌<◌, ◌⊎◌, ◌↔◌, inl, inr, Bool, true, false, cond, List, [], ◌∷◌, Contains, AllPairs, filter, nat_lt, refl, sym, ap, ◌∙◌, subst, arith}
use Rattle.std.proofs.lemmas.Bool.{cases_lt}
use Rattle.std.proofs.lemmas.Bool.Decides.{nat_tests}
use Rattle.std.proofs.lemmas.List.Elements.{Contains-append_left, Contains-append_right, Contains-append_cases}
use Rattle.block_pointer.specs.declared.block.Block.{Block}
use Rattle.dead_list.specs.Blocks.{AreDistinct}
use Rattle.dead_list.specs.Datasets.{Datasets, Pool, IsReached, IsBornIn, group_before, nothing}
use Rattle.dead_list.specs.Reach.{AreNumbersOf, own_of, reach_of}
use Rattle.dead_list.specs.Sound.{IsSound}
use Rattle.dead_list.proofs.Climbing.{none_reached}
use Rattle.dead_list.proofs.Distinct.{Distinct, distinct_none, distinct_right, distinct_both}
use Rattle.dead_list.proofs.Parts.{none_in}

module _ {X : Type 0} where
  is_one : (x other : X) → Contains (x ∷ []) other → x ≡ other
  is_one x other (zero, low, is) = is
  is_one x other (suc k, low, is) = absurd (omega (arith, low))

  first_or_later : (x other : X) (xs : List X) → Contains (x ∷ xs) other → (x ≡ other) ⊎ Contains xs other
  first_or_later x other xs held = elim (Contains-append_cases (x ∷ []) xs other held) [
    | inl one ↦ inl (is_one x other one)
    | inr later ↦ inr later
  ]

  is_first : (x : X) (xs : List X) → Contains (x ∷ xs) x
  is_first x xs = (0, omega arith, refl)

  is_later : (x other : X) (xs : List X) → Contains xs other → Contains (x ∷ xs) other
  is_later x other xs (k, low, is) = (suc k, omega (arith, low), is)

  not_later : (x : X) (xs : List X) → Distinct (x ∷ xs) → Contains xs x → ⊥
  not_later x xs once (k, low, is) = once 0 (suc k) x (omega arith) (omega (arith, low)) (sym is)

  distinct_front : (x : X) (xs : List X) → Distinct xs → (Contains xs x → ⊥) → Distinct (x ∷ xs)
  distinct_front x xs once none =
      distinct_both (x ∷ []) xs (λ i j d before within. absurd (omega (arith, before, within))) once
      (λ y here there. none (subst (Contains xs) (sym (is_one x y here)) there))

module _ (p : Block → Bool) where
  of_by : (y : Block) (ys : List Block) (b : Block) (is : Bool) → p y ≡ is → (Contains (filter p ys) b → Contains ys b × (p b ≡ true))
      → Contains (cond is (y ∷ filter p ys) (filter p ys)) b → Contains (y ∷ ys) b × (p b ≡ true)
  of_by y ys b true is rest held = elim (first_or_later y b (filter p ys) held) [
    | inl same ↦ (subst (Contains (y ∷ ys)) same (is_first y ys), ap p (sym same) ∙ is)
    | inr later ↦ let there = rest later in (is_later y b ys there.0, there.1)
  ]
  of_by y ys b false is rest held = let there = rest held in (is_later y b ys there.0, there.1)

  pub of_filter : (xs : List Block) (b : Block) → Contains (filter p xs) b → Contains xs b × (p b ≡ true)
  of_filter [] b held = none_in b held
  of_filter (y ∷ ys) b held = of_by y ys b (p y) refl (of_filter ys b) held

  into_by : (y : Block) (ys : List Block) (b : Block) (is : Bool) → p y ≡ is → (Contains ys b → Contains (filter p ys) b) → Contains (y ∷ ys) b → p b ≡ true
      → Contains (cond is (y ∷ filter p ys) (filter p ys)) b
  into_by y ys b true is rest held passes = elim (first_or_later y b ys held) [
    | inl same ↦ subst (Contains (y ∷ filter p ys)) same (is_first y (filter p ys))
    | inr later ↦ is_later y b (filter p ys) (rest later)
  ]
  into_by y ys b false is rest held passes = elim (first_or_later y b ys held) [
    | inl same ↦ absurd (let wrong : true ≡ false = sym passes ∙ ap p (sym same) ∙ is in cc)
    | inr later ↦ rest later
  ]

  pub into_filter : (xs : List Block) (b : Block) → Contains xs b → p b ≡ true → Contains (filter p xs) b
  into_filter [] b held passes = none_in b held
  into_filter (y ∷ ys) b held passes = into_by y ys b (p y) refl (λ later. into_filter ys b later passes) held passes

  once_by : (y : Block) (ys : List Block) (is : Bool) → (Contains ys y → ⊥) → AreDistinct (filter p ys) → AreDistinct (cond is (y ∷ filter p ys) (filter p ys))
  once_by y ys true none rest = distinct_front y (filter p ys) rest (λ held. none (of_filter ys y held).0)
  once_by y ys false none rest = rest

  pub distinct_filter : (xs : List Block) → AreDistinct xs → AreDistinct (filter p xs)
  distinct_filter [] once = distinct_none
  distinct_filter (y ∷ ys) once = once_by y ys (p y) (not_later y ys once) (distinct_filter ys (distinct_right (y ∷ []) ys once))

is_after : (group birth : ℕ) → nat_lt group birth ≡ true → group < birth
is_after group birth is = grind (arith, nat_tests)

of_after : (group birth : ℕ) → group < birth → nat_lt group birth ≡ true
of_after group birth less = grind (arith, nat_tests)

module _ (s : Datasets) where
  -- an own block was born there
  own_is : (m : ℕ) (b : Block) → Contains (own_of s m) b → IsBornIn s m b
  own_is m b held =
      let there = of_filter (λ block. nat_lt (group_before s m) block.birth) (s m).blocks b held in
      (there.0, is_after (group_before s m) b.birth there.1)

  is_own : (m : ℕ) (b : Block) → IsBornIn s m b → Contains (own_of s m) b
  is_own m b (held, later) = into_filter (λ block. nat_lt (group_before s m) block.birth) (s m).blocks b held (of_after (group_before s m) b.birth later)

  -- a block of the reach is one of the own blocks of some dataset
  pub of_reach : (numbers : List ℕ) (b : Block) → Contains (reach_of s numbers) b → (m : ℕ) × Contains numbers m × IsBornIn s m b
  of_reach [] b held = none_in b held
  of_reach (n ∷ numbers) b held = elim (Contains-append_cases (own_of s n) (reach_of s numbers) b held) [
    | inl here ↦ (n, is_first n numbers, own_is n b here)
    | inr later ↦ let rest = of_reach numbers b later in (rest.0, is_later n rest.0 numbers rest.1, rest.2)
  ]

  pub into_reach : (numbers : List ℕ) (m : ℕ) (b : Block) → Contains numbers m → IsBornIn s m b → Contains (reach_of s numbers) b
  into_reach [] m b (k, low, is) born = absurd (omega (arith, low))
  into_reach (n ∷ numbers) m b held born = elim (first_or_later n m numbers held) [
    | inl same ↦ Contains-append_left (own_of s n) (reach_of s numbers) b (subst (λ k. Contains (own_of s k) b) (sym same) (is_own m b born))
    | inr later ↦ Contains-append_right (own_of s n) (reach_of s numbers) b (into_reach numbers m b later born)
  ]

module _ (pool : Pool) (sound : IsSound pool) where
  -- where a dataset reaches a block, some dataset is the one that it was born in
  origin : (b : Block) (fuel m : ℕ) → sound.rank m < fuel → Contains (pool.datasets m).blocks b → (from : ℕ) × IsBornIn pool.datasets from b
  origin b zero m low held = absurd (omega (arith, low))
  origin b (suc fuel) m low held = elim (cases_lt (group_before pool.datasets m) b.birth) [
    | inl later ↦ (m, (held, later))
    | inr early ↦ elim (sound.linked m) [
      | inl first ↦ none_reached (pool.datasets (pool.datasets m).before) b (ap pool.datasets first ∙ sound.none) ((sound.fits m).shared b held early)
      | inr link ↦ origin b fuel (pool.datasets m).before (omega (arith, low, link.1)) ((sound.fits m).shared b held early)
    ]
  ]

  -- it stands for something
  stands : (m : ℕ) (b : Block) → Contains (pool.datasets m).blocks b → pool.datasets m ≢ nothing
  stands m b held e = none_reached (pool.datasets m) b e held

  distinct_reach : (numbers : List ℕ) → AllPairs (λ m later. m ≢ later) numbers → AreDistinct (reach_of pool.datasets numbers)
  distinct_reach [] once = distinct_none
  distinct_reach (n ∷ numbers) once =
      distinct_both (own_of pool.datasets n) (reach_of pool.datasets numbers)
      (distinct_filter (λ block. nat_lt (group_before pool.datasets n) block.birth) (pool.datasets n).blocks (sound.fits n).once)
      (distinct_reach numbers (distinct_right (n ∷ []) numbers once))
      (λ b here there.
      let other = of_reach pool.datasets numbers b there in
      let same : n ≡ other.0 = sound.one n other.0 b (own_is pool.datasets n b here) other.2 in
      not_later n numbers once (subst (Contains numbers) (sym same) other.1))

  pub reach_once : (numbers : List ℕ) → AreNumbersOf pool.datasets numbers
      → AreDistinct (reach_of pool.datasets numbers)
      × ((b : Block) → Contains (reach_of pool.datasets numbers) b ↔ IsReached pool.datasets b)
  reach_once numbers are = (
    distinct_reach numbers are.once,
    λ b. (
      (λ held. let it = of_reach pool.datasets numbers b held in (it.0, it.2.0)),
      (λ (m, held).
          let from = origin b (suc (sound.rank m)) m (omega arith) held in
          into_reach pool.datasets numbers from.0 b (are.each from.0 (stands from.0 b from.1.0)) from.1),
    ),
  )
