use Rattle.std.proofs.Common.{◌++◌, ◌<◌, All, List, [], ◌∷◌}
use Rattle.std.proofs.lemmas.List.Elements.{All-append, All-tail}
use Rattle.std.proofs.lemmas.List.Sorted.{All-permutation, IsPermutation-append_left, IsPermutation-trans}
use Rattle.block_pointer.specs.Block.{FitsBlock}
use Rattle.block_pointer.specs.declared.block.Block.{Block}
use Rattle.dataset_destroys.proofs.lists.parted.Goals as goal

-- what holds of each element of two lists holds of those of the second
all_back : (P : Block → Type 0) (xs ys : List Block) → All P (xs ++ ys) → All P ys
all_back P [] ys all = all
all_back P (x ∷ xs) ys all = all_back P xs ys (All-tail P x (xs ++ ys) all)

pub returns-clause-fits : goal.returns-clause-fits
returns-clause-fits c = λ dead own.
    let both = All-permutation FitsBlock c.args.dead (c.in_ok-young.young ++ c.split_at.new.self) c.in_ok-young.ensures.parts dead in
    All-permutation FitsBlock (c.split_at.new.self ++ c.args.own) c.merge.new.self c.in_ok-merge.ensures.ok
    (All-append FitsBlock c.split_at.new.self c.args.own (all_back FitsBlock c.in_ok-young.young c.split_at.new.self both) own)

pub returns-clause-value : goal.returns-clause-value
returns-clause-value c = (
  c.in_ok-gone.gone.items,
  c.split_at.new.self,
  c.in_ok-append.ensures.items,
  record {
    parts = IsPermutation-trans c.args.dead (c.in_ok-young.young ++ c.split_at.new.self) (c.in_ok-gone.gone.items ++ c.split_at.new.self) c.in_ok-young.ensures.parts
        (IsPermutation-append_left c.split_at.new.self c.in_ok-young.young c.in_ok-gone.gone.items c.in_ok-gone.ensures);
    after_are = All-permutation (λ (block : Block). c.args.since < block.birth) c.in_ok-young.young c.in_ok-gone.gone.items c.in_ok-gone.ensures c.in_ok-young.ensures.after;
    until_are = c.in_ok-young.ensures.until;
  },
  c.in_ok-merge.ensures.ok,
)
