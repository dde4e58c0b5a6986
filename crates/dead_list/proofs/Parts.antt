-- Parts of lists of blocks.
use Rattle.std.proofs.Common.{ℕ, ◌<◌, ◌≤◌, ◌⊎◌, inl, inr, List, [], ◌++◌, Contains, arith}
use Rattle.std.specs.Prelude.{IsPermutation}
use Rattle.std.proofs.lemmas.List.Elements.{Contains-append_left, Contains-append_right, Contains-append_cases, All-contains}
use Rattle.std.proofs.lemmas.List.Sorted.{Contains-permutation, IsPermutation-sym}
use Rattle.block_pointer.specs.declared.block.Block.{Block}
use Rattle.dead_list.specs.Blocks.{AreDistinct, IsDifference, IsSplit}
use Rattle.dead_list.proofs.Distinct.{distinct_none, distinct_left, distinct_right, distinct_both, distinct_permuted}

pub none_in : {A : Type 0} (b : Block) → Contains {X = Block} [] b → A
none_in b held = absurd (omega (arith, held.1))

pub difference_none : IsDifference [] [] []
difference_none = record { each = λ b held. none_in b held; from = λ b held. none_in b held; once = distinct_none }

-- nothing is missing in what is the same
pub difference_same : (blocks : List Block) → IsDifference blocks blocks []
difference_same blocks = record { each = λ b held. inl held; from = λ b held. none_in b held; once = distinct_none }

module _ (group : ℕ) (blocks after until : List Block) (split : IsSplit group blocks after until) where
  pub split_cases : (b : Block) → Contains blocks b → ((group < b.birth) × Contains after b) ⊎ ((b.birth ≤ group) × Contains until b)
  split_cases b held = elim (Contains-append_cases after until b (Contains-permutation blocks (after ++ until) b split.parts held)) [
    | inl one ↦ inl (All-contains (λ (c : Block). group < c.birth) after b split.after_are one, one)
    | inr other ↦ inr (All-contains (λ (c : Block). c.birth ≤ group) until b split.until_are other, other)
  ]

  back : (b : Block) → Contains (after ++ until) b → Contains blocks b
  back b = Contains-permutation (after ++ until) blocks b (IsPermutation-sym blocks (after ++ until) split.parts)

  pub split_after : (b : Block) → Contains after b → (group < b.birth) × Contains blocks b
  split_after b held = (All-contains (λ (c : Block). group < c.birth) after b split.after_are held, back b (Contains-append_left after until b held))

  pub split_until : (b : Block) → Contains until b → (b.birth ≤ group) × Contains blocks b
  split_until b held = (All-contains (λ (c : Block). c.birth ≤ group) until b split.until_are held, back b (Contains-append_right after until b held))

  pub split_once : AreDistinct blocks → AreDistinct after × AreDistinct until
  split_once once =
      let both = distinct_permuted blocks (after ++ until) split.parts once in
      (distinct_left after until both, distinct_right after until both)

module _ (xs ys all : List Block) (joined : IsPermutation (xs ++ ys) all) where
  pub joined_cases : (b : Block) → Contains all b → Contains xs b ⊎ Contains ys b
  joined_cases b held = Contains-append_cases xs ys b (Contains-permutation all (xs ++ ys) b (IsPermutation-sym (xs ++ ys) all joined) held)

  pub joined_left : (b : Block) → Contains xs b → Contains all b
  joined_left b held = Contains-permutation (xs ++ ys) all b joined (Contains-append_left xs ys b held)

  pub joined_right : (b : Block) → Contains ys b → Contains all b
  joined_right b held = Contains-permutation (xs ++ ys) all b joined (Contains-append_right xs ys b held)

  pub joined_once : AreDistinct xs → AreDistinct ys → ((b : Block) → Contains xs b → ¬ Contains ys b) → AreDistinct all
  joined_once first second none = distinct_permuted (xs ++ ys) all joined (distinct_both xs ys first second none)
