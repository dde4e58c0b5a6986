use Rattle.std.proofs.Common.{ℕ, arith}
use Rattle.std.proofs.lemmas.Simd.{length-put_chunk}
use Rattle.raidz_parity.specs.Layout.{columns_of}
use Rattle.raidz_parity.proofs.LaneSums.{put_chunk_next}
use Rattle.raidz_parity.proofs.sums.fill_first.Goals as goal

pub loop-at-preserved : goal.loop-at-preserved
loop-at-preserved c = record {
  within = omega arith;
  rows = omega (arith, length-put_chunk {A = ℕ}, c.loop-at.invariant.rows);
  done = put_chunk_next 0 c.loop-at.at (columns_of c.args.lengths.now c.args.bytes.now) c.loop-at.first c.first_sums.result
      c.first_sums.ensures.count (omega (arith, c.loop-at.invariant.rows)) c.first_sums.ensures.sums c.loop-at.invariant.done;
}
