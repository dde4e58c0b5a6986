-- What is reached once a dataset was destroyed.
use Rattle.std.proofs.Common.{◌≡◌, ◌⊎◌, ◌↔◌, ℕ, ◌+◌, List, [], ◌∷◌, ◌++◌, Contains, Some, None, inl, inr, refl, sym, ap, subst, ◌∙◌, arith}
use Rattle.std.specs.List.{count_by}
use Rattle.block_pointer.specs.declared.block.Block.{Block}
use Rattle.block_store.specs.Blocks.{Contents}
use Rattle.dataset_destroys.specs.Destroying.{IsDestroyed, MayDestroy, destroy_of, operation_of}
use Rattle.dead_list.specs.Blocks.{AreDistinct as AreOnce}
use Rattle.dead_list.specs.Datasets.{AreFreed, Free, Head, IsReached, Kind, Pool}
use Rattle.dead_list.specs.Datasets.{Snapshot as ASnapshot}
use Rattle.dead_list.specs.Reach.{AreNumbersOf, ReachHasEachOnce, reach_of}
use Rattle.dead_list.specs.Runs.{entered_by}
use Rattle.dead_list.specs.Sound.{IsSound}
use Rattle.dead_list.proofs.Steps.{frees, reached_before, stays_sound}
use Rattle.dnode_tree.proofs.Exchanging.{count_by-append}
use Rattle.dataset_groups.specs.Heads.{AreNewlyKnown}
use Rattle.dataset_groups.specs.Leaving.{IsReachExchanged}
use Rattle.dataset_groups.proofs.KnownBlocks.{IsKnown}
use Rattle.dataset_groups.proofs.ListParts.{is_first, nothing_in}
use Rattle.dataset_groups.proofs.WrittenReach.{exchanged, held_or_not}

none_enters : (kind : Kind) (n : ℕ) → entered_by (operation_of kind n) ≡ []
none_enters Free n = refl
none_enters Head n = refl
none_enters ASnapshot n = refl

-- nothing more is known
none_known : (group : ℕ) (stored : Contents) → AreNewlyKnown group stored stored []
none_known group stored = record {
  once = λ i j d less low. absurd (omega (arith, low));
  fresh = λ b held. absurd (nothing_in b held);
  born = λ b held. absurd (nothing_in b held);
  known = λ b held. absurd (nothing_in b held);
  only = λ b bytes is. inr is;
}

module _ (law : ReachHasEachOnce) (pool later : Pool) (n : ℕ) (gone : List Block) (sound : IsSound pool) (may : MayDestroy pool n) (made : IsDestroyed pool n gone later)
    (numbers after_numbers : List ℕ) (are : AreNumbersOf pool.datasets numbers) (after_are : AreNumbersOf later.datasets after_numbers) where
  abbrev before : List Block
  before = reach_of pool.datasets numbers

  abbrev after : List Block
  after = reach_of later.datasets after_numbers

  once : AreOnce before × ((b : Block) → Contains before b ↔ IsReached pool.datasets b)
  once = law pool numbers sound are

  after_once : AreOnce after × ((b : Block) → Contains after b ↔ IsReached later.datasets b)
  after_once = law later after_numbers (stays_sound pool later (destroy_of pool n) gone sound may made) after_are

  freed : AreFreed pool.datasets later.datasets gone
  freed = frees pool later (destroy_of pool n) gone sound may made

  kept : (b : Block) → Contains before b → Contains after b ⊎ Contains gone b
  kept b held = elim (held_or_not after b) [
    | inl there ↦ inl there
    | inr none ↦ inr ((freed.which b).1 ((once.1 b).0 held, λ now. none ((after_once.1 b).1 now)))
  ]

  left : (b : Block) → Contains gone b → Contains before b × ¬ Contains after b
  left b held = let it = (freed.which b).0 held in ((once.1 b).1 it.0, λ there. it.1 ((after_once.1 b).0 there))

  from : (b : Block) → Contains after b → Contains before b ⊎ Contains [] b
  from b held = elim (reached_before pool later (destroy_of pool n) gone sound may made b ((after_once.1 b).0 held)) [
    | inl was ↦ inl ((once.1 b).1 was)
    | inr entered ↦ absurd (nothing_in b (subst (λ (entering : List Block). Contains entering b) (none_enters (pool.datasets n).kind n) entered))
  ]

  -- what was freed went
  pub reach_gone : (group : ℕ) (stored : Contents) → ((b : Block) → IsReached pool.datasets b → IsKnown stored b) → IsReachExchanged group stored stored before after gone
  reach_gone group stored known =
      exchanged group stored stored before after gone [] once.0 after_once.0 freed.once (none_known group stored) (λ b held. known b ((once.1 b).0 held)) kept left from
      (λ b held. absurd (nothing_in b held))

-- ---- one after the other

none_added : (stored : Contents) (added : List Block) → ((b : Block) → Contains added b → stored b ≡ None) → ((b : Block) → Contains added b → IsKnown stored b) → added ≡ []
none_added stored [] fresh known = refl
none_added stored (b ∷ added) fresh known =
    let there = known b (is_first b added) in
    let clash : None ≡ Some there.0 = sym (fresh b (is_first b added)) ∙ there.1 in
    absurd cc

-- what went with the first, and what went with the next
pub gone_then : (group : ℕ) (stored : Contents) (before mid after gone more : List Block) → IsReachExchanged group stored stored before mid gone → IsReachExchanged group stored stored mid after more
    → IsReachExchanged group stored stored before after (gone ++ more)
gone_then group stored before mid after gone more one two =
    let none : one.added ≡ [] = none_added stored one.added one.fresh one.known in
    record {
      stayed = two.stayed;
      added = two.added;
      before_are = λ test.
          let empty : count_by test one.added ≡ 0 = ap (count_by test) none in
          omega (arith, one.before_are test, one.after_are test, two.before_are test, empty, count_by-append test gone more);
      after_are = two.after_are;
      once = two.once;
      fresh = two.fresh;
      born = two.born;
      known = two.known;
      only = two.only;
    }
