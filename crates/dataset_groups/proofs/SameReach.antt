-- What is reached once something was done by which no block goes and none comes.
use Rattle.std.proofs.Common.{◌≡◌, ◌↔◌, ℕ, Bool, List, [], Contains, inl, inr, subst, arith}
use Rattle.std.specs.List.{count_by}
use Rattle.block_pointer.specs.declared.block.Block.{Block}
use Rattle.block_store.specs.Blocks.{Contents}
use Rattle.dead_list.specs.Blocks.{AreDistinct}
use Rattle.dead_list.specs.Datasets.{IsReached, Pool}
use Rattle.dead_list.specs.Operations.{Makes, MayDo, Operation}
use Rattle.dead_list.specs.Reach.{AreNumbersOf, ReachHasEachOnce, reach_of}
use Rattle.dead_list.specs.Runs.{entered_by}
use Rattle.dead_list.specs.Sound.{IsSound}
use Rattle.dead_list.proofs.Steps.{frees, reached_before, stays_sound}
use Rattle.dataset_groups.specs.Leaving.{IsReachExchanged}
use Rattle.dataset_groups.proofs.Exchanges.{given_as, nothing_given}
use Rattle.dataset_groups.proofs.ListParts.{nothing_in}
use Rattle.dataset_groups.proofs.WrittenReach.{held_or_not, same_counts}

module _ (law : ReachHasEachOnce) (pool later : Pool) (sound : IsSound pool) (operation : Operation) (may : MayDo pool operation) (made : Makes pool operation [] later)
    (none_enter : entered_by operation ≡ []) (numbers after_numbers : List ℕ) (are : AreNumbersOf pool.datasets numbers) (after_are : AreNumbersOf later.datasets after_numbers) where
  abbrev before : List Block
  before = reach_of pool.datasets numbers

  abbrev after : List Block
  after = reach_of later.datasets after_numbers

  once : AreDistinct before × ((b : Block) → Contains before b ↔ IsReached pool.datasets b)
  once = law pool numbers sound are

  after_once : AreDistinct after × ((b : Block) → Contains after b ↔ IsReached later.datasets b)
  after_once = law later after_numbers (stays_sound pool later operation [] sound may made) after_are

  -- nothing goes, and nothing comes
  kept : (b : Block) → Contains before b → Contains after b
  kept b held = elim (held_or_not after b) [
    | inl there ↦ there
    | inr none ↦
        let freed = frees pool later operation [] sound may made in
        absurd (nothing_in b ((freed.which b).1 ((once.1 b).0 held, λ now. none ((after_once.1 b).1 now))))
  ]

  came : (b : Block) → Contains after b → Contains before b
  came b held = elim (reached_before pool later operation [] sound may made b ((after_once.1 b).0 held)) [
    | inl was ↦ (once.1 b).1 was
    | inr entered ↦ absurd (nothing_in b (subst (λ (entering : List Block). Contains entering b) none_enter entered))
  ]

  same : (test : Block → Bool) → count_by test before ≡ count_by test after
  same test = same_counts before after once.0 after_once.0 kept came test

  pub same_reach : (group : ℕ) (known : Contents) → IsReachExchanged group known known before after []
  same_reach group known =
      given_as group known known [] [] [] before after [] before [] (nothing_given group known) (λ test. omega arith) (λ test. omega (arith, same test)) (λ test. omega arith)
