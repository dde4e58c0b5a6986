use Rattle.std.proofs.Common.{length, ap, arith}
use Rattle.raidz_io.proofs.Parts.{length-columns_of}
use Rattle.tests_disks.proofs.parities.columns_of.Goals as goal

pub returns-then-len-size-clause-columns : goal.returns-then-len-size-clause-columns
returns-then-len-size-clause-columns c =
    omega (
      arith,
      ap length c.in_ok-generate.ensures.block,
      length-columns_of c.in-Some.lengths.items c.in_ok-clone.field-0.items,
      c.in-Some.ensures.count,
      ap length c.deref.ensures.value,
    )

pub returns-clause-columns : goal.returns-clause-columns
returns-clause-columns c =
    omega (
      arith,
      ap (λ block. length block.data_columns) c.new-2.ensures,
      length-columns_of c.in-Some.lengths.items c.in_ok-to_vec-3.field-0.items,
      c.in-Some.ensures.count,
      ap length c.deref.ensures.value,
    )
