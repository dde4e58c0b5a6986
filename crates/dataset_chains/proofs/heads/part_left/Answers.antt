use Rattle.std.proofs.Common.{◌≡◌, ◌<◌, ◌≤◌, ◌++◌, ◌∙◌, true, not, ℕ, List, ap, sym, subst, arith}
use Rattle.std.specs.Prelude.{All, Contains, filter, nat_le, nat_lt}
use Rattle.std.proofs.lemmas.Bool.{ltb-true, leb-true}
use Rattle.std.proofs.lemmas.Bool.Decides.{nat_tests}
use Rattle.std.proofs.lemmas.List.Elements.{All-contains_itself, All-filter, All-weaker, filter_passes}
use Rattle.std.proofs.lemmas.List.Sorted.{IsPermutation-filter_both}
use Rattle.block_pointer.specs.declared.block.Block.{Block}
use Rattle.dead_list.specs.Blocks.{IsSplit}
use Rattle.dataset_chains.proofs.heads.part_left.Goals as goal

other : (group birth : ℕ) → nat_le birth group ≡ not (nat_lt group birth)
other group birth = grind (arith, nat_tests)

split : (group : ℕ) (blocks : List Block) → IsSplit group blocks (filter (λ block. nat_lt group block.birth) blocks) (filter (λ block. nat_le block.birth group) blocks)
split group blocks = record {
  parts = IsPermutation-filter_both (λ (block : Block). nat_lt group block.birth) (λ block. nat_le block.birth group) (λ block. other group block.birth) blocks;
  after_are = All-weaker (λ (block : Block). nat_lt group block.birth ≡ true) (λ block. group < block.birth) (λ block e. ltb-true group block.birth e) (filter (λ block. nat_lt group block.birth) blocks)
      (filter_passes (λ block. nat_lt group block.birth) blocks);
  until_are = All-weaker (λ (block : Block). nat_le block.birth group ≡ true) (λ block. block.birth ≤ group) (λ block e. leb-true block.birth group e) (filter (λ block. nat_le block.birth group) blocks)
      (filter_passes (λ block. nat_le block.birth group) blocks);
}

pub returns-clause-parts : goal.returns-clause-parts
returns-clause-parts c =
    let left = c.args.left.now in (
      filter (λ (block : Block). nat_lt c.args.since block.birth) left,
      c.in_ok-extend_from_slice.ensures.items ∙ ap (λ (blocks : List Block). c.args.freed.now.items ++ blocks) (c.deref.ensures.value ∙ c.in_ok-younger.ensures),
      subst (IsSplit c.args.since left (filter (λ block. nat_lt c.args.since block.birth) left)) (sym c.in_ok-older.ensures) (split c.args.since left),
    )

pub returns-clause-within : goal.returns-clause-within
returns-clause-within c =
    let left = c.args.left.now in
    subst (All (Contains left)) (sym c.in_ok-older.ensures)
    (All-filter (λ (block : Block). nat_le block.birth c.args.since) (Contains left) left (All-contains_itself left))
