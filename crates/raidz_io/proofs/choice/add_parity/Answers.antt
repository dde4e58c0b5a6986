use Rattle.std.proofs.Common.{arith, ◌∙◌}
use Rattle.raidz_parity.specs.Stored.{parity_columns}
use Rattle.raidz_io.proofs.Tries.{joined_more}
use Rattle.raidz_io.proofs.choice.add_parity.Goals as goal

pub loop-row-preserved : goal.loop-row-preserved
loop-row-preserved c =
    c.in_ok-extend_from_slice.ensures.items
    ∙ joined_more c.args.whole.now.items c.loop-row.whole.items c.row.result.now (parity_columns c.args.parity.now) c.loop-row.row
    (omega (arith, c.loop-row-test.true, c.requires)) c.row.ensures c.loop-row.invariant
