use Rattle.std.proofs.Common.{arith}
use Rattle.std.proofs.lemmas.Simd.{get_or-put_chunk_below, get_or-put_chunk_at}
use Rattle.raidz_parity.proofs.sums.put_lanes.Goals as goal

pub returns-then-at-target-clause-before : goal.returns-then-at-target-clause-before
returns-then-at-target-clause-before c j before = get_or-put_chunk_below c.args.at c.args.target.now c.args.lanes j 0 before

pub returns-then-at-target-clause-here : goal.returns-then-at-target-clause-here
returns-then-at-target-clause-here c k within reaches =
    get_or-put_chunk_at c.args.at c.args.target.now c.args.lanes k 0 (omega (arith, c.fits-lanes.0)) (omega (arith, c.fits-lanes.0))
