-- Blocks that are gone before others are planned.
use Rattle.std.proofs.Common.{◌≡◌, ℕ, List, [], ◌∷◌, ◌++◌, Some, None, Contains, sym, ap, ◌∙◌, refl, arith}
use Rattle.std.specs.List.{count_by}
use Rattle.block_pointer.specs.declared.block.Block.{Block}
use Rattle.block_store.specs.Blocks.{Contents}
use Rattle.dataset_groups.specs.Leaving.{IsReachExchanged}
use Rattle.dnode_tree.proofs.Exchanging.{count_by-append}
use Rattle.dataset_snapshots.proofs.ChangedRows.{is_first}

no_added : (added : List Block) → ((block : Block) → ¬ Contains added block) → added ≡ []
no_added [] none = refl
no_added (block ∷ added) none = absurd (none block (is_first block added))

-- where nothing is planned no block joins: a step before, after which others are gone
pub gone_first : (birth : ℕ) (stored planned later : Contents) (before mid after gone gone_too : List Block) → IsReachExchanged birth stored stored before mid gone
    → IsReachExchanged birth planned later mid after gone_too → IsReachExchanged birth planned later before after (gone ++ gone_too)
gone_first birth stored planned later before mid after gone gone_too one two =
    let none : one.added ≡ [] = no_added one.added (λ block held.
    let known = one.known block held in
    let clash : None ≡ Some known.0 = sym (one.fresh block held) ∙ known.1 in
    cc) in
    record {
      stayed = two.stayed;
      added = two.added;
      before_are = λ test. omega (arith, one.before_are test, one.after_are test, ap (count_by test) none, two.before_are test, count_by-append test gone gone_too);
      after_are = two.after_are;
      once = two.once;
      fresh = two.fresh;
      born = two.born;
      known = two.known;
      only = two.only;
    }
