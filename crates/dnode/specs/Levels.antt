-- How many levels the tree of an object has.
use Rattle.std.specs.Prelude.{ℕ, ◌+◌, ◌-◌, ◌^◌, ◌<◌, ◌≤◌, List, [], ◌∷◌, count_by, nat_le}

-- the least number of levels, one at least, with a place for the highest block
pub record IsLeast (highest levels : ℕ) : Type 0 where
  pub one : 0 < levels
  pub enough : highest < 128 ^ (levels - 1)
  pub least : (other : ℕ) → 0 < other → highest < 128 ^ (other - 1) → levels ≤ other

-- how many blocks trees of one to five levels have places for
abbrev pub capacities : List ℕ
capacities = 1 ∷ 128 ∷ 128 ^ 2 ∷ 128 ^ 3 ∷ 128 ^ 4 ∷ []

-- one level, and one more for each of the trees that the highest block has no place in
abbrev pub levels_of : ℕ → ℕ
levels_of highest = 1 + count_by (λ capacity. nat_le capacity highest) capacities
