use Rattle.std.proofs.Common.{ℕ, List, ◌++◌, length, ap, sym, subst, arith}
use Rattle.std.proofs.lemmas.List.Sorted.{All-permutation, IsPermutation-append, IsPermutation-sym, IsPermutation-trans, length_permutation}
use Rattle.block_pointer.specs.Block.{FitsBlock}
use Rattle.dead_list.proofs.RowLists.{rows_length}
use Rattle.dead_list.specs.Rows.{SpellsRows}
use Rattle.dead_list_objects.proofs.JoinedRows.{joined_rows}
use Rattle.dead_list_objects.proofs.making.extension.Goals as goal

pub rows_of-requires : goal.rows_of-requires
rows_of-requires c = All-permutation FitsBlock c.args.blocks.now c.in_ok-list.list c.in_ok-list.ensures c.requires.fit

pub extension-requires-clause-some : goal.extension-requires-clause-some
extension-requires-clause-some c =
    let listed = c.in_ok-rows.ensures.list in
    omega (
      arith,
      ap length c.deref.ensures.value,
      ap length listed.2.spelled,
      rows_length listed.0 listed.2.each,
      length_permutation listed.0 c.in_ok-list.list listed.1,
      length_permutation c.args.blocks.now c.in_ok-list.list c.in_ok-list.ensures,
      c.requires.some,
    )

pub returns-in-Ok-clause-made : goal.returns-in-Ok-clause-made
returns-in-Ok-clause-made c = λ object old list end spelled.
    let listed = c.in_ok-rows.ensures.list in (
      _,
      c.in-Ok.ensures.made object old end,
      (
        spelled.0 ++ listed.0,
        IsPermutation-append spelled.0 list listed.0 c.args.blocks.now spelled.1
            (IsPermutation-trans listed.0 c.in_ok-list.list c.args.blocks.now listed.1 (IsPermutation-sym c.args.blocks.now c.in_ok-list.list c.in_ok-list.ensures)),
        joined_rows old c.deref.result.now spelled.0 listed.0 spelled.2
            (subst (λ (bytes : List ℕ). SpellsRows bytes listed.0) (sym c.deref.ensures.value) listed.2),
      ),
    )
