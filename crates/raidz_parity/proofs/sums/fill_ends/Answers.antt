use Rattle.std.proofs.Common.{arith}
use Rattle.raidz_parity.specs.Layout.{columns_of}
use Rattle.raidz_parity.proofs.LaneSums.{put_next}
use Rattle.raidz_parity.proofs.sums.fill_ends.Goals as goal

pub loop-at-preserved : goal.loop-at-preserved
loop-at-preserved c =
    put_next c.args.row c.loop-at.at (columns_of c.args.lengths.now c.args.bytes.now) c.loop-at.target c.put_lanes.new.target c.row_sums.result
    (omega (arith, c.put_lanes.auto.target)) c.put_lanes.ensures.before c.put_lanes.ensures.here c.row_sums.ensures c.loop-at.invariant
