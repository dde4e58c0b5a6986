use Rattle.std.proofs.Common.{ℕ, [], length, slice_index_or, ◌∙◌, ap, arith}
use Rattle.raidz_parity.specs.Layout.{Block}
use Rattle.raidz_parity.proofs.Split.{length-columns_of}
use Rattle.raidz_parity.proofs.columns.Columns.column.Goals as goal

pub column_of-requires-clause-index : goal.column_of-requires-clause-index
column_of-requires-clause-index c =
    omega (
      arith,
      c.requires,
      ap (λ (b : Block). length b.data_columns) c.self.view_is,
      length-columns_of c.self.inside.lengths.items c.self.inside.block.items,
      ap (length {A = ℕ}) c.as_slice.ensures.value,
    )

pub returns : goal.returns
returns c =
    c.column_of.ensures
    ∙ (rw (c.as_slice.ensures.value, c.as_slice-2.ensures.value) (ap (λ (b : Block). slice_index_or b.data_columns c.args.index []) c.self.view_is))
