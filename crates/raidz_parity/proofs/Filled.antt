-- Parity columns that were filled as far as they reach.
use Rattle.std.proofs.Common.{ℕ, ◌≡◌, ◌<◌, ◌≤◌, List, ◌++◌, inl, inr, length, take, sum, slice_index, All, sym, ◌∙◌, ap, subst, arith}
use Rattle.std.proofs.lemmas.Bool.{cases_lt}
use Rattle.std.proofs.lemmas.List.{get_or_past}
use Rattle.raidz_parity.specs.Layout.{columns_of}
use Rattle.raidz_parity.specs.Parity.{weighted_sum_at, IsParityOf}
use Rattle.raidz_parity.proofs.Split.{take_from_length, lengths-columns_of}
use Rattle.raidz_parity.proofs.Weights.{weighted_sum_at-past, All-wider}

-- a buffer of `count` bytes that begins with the filled column, which ends where the longest column ends or later
pub parity_from_filled : (row count : ℕ) (lengths block filled rest : List ℕ) → sum lengths ≤ length block → All (λ n. n ≤ count) lengths → length filled ≡ count
    → ((j : ℕ) → j < length filled → slice_index filled j ≡ weighted_sum_at row (columns_of lengths block) j)
    → IsParityOf row (take count (filled ++ rest)) (columns_of lengths block)
parity_from_filled row count lengths block filled rest fits longest kept filled_is j =
    let Short : List ℕ → Type 0 = λ ns. All (λ n. n ≤ j) ns in
    ap (λ xs. slice_index xs j) (take_from_length filled rest count kept)
    ∙ elim (cases_lt j (length filled)) [
      | inl within ↦ filled_is j within
      | inr past ↦
          get_or_past filled j 0 past
          ∙ sym (weighted_sum_at-past row (columns_of lengths block) j
          (subst Short (sym (lengths-columns_of lengths block fits)) (All-wider lengths count j (omega arith) longest)))
    ]
