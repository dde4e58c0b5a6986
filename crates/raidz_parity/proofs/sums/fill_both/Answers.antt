use Rattle.std.proofs.Common.{ℕ, List, arith}
use Rattle.std.proofs.lemmas.Simd.{length-put_chunk}
use Rattle.raidz_parity.specs.Layout.{columns_of}
use Rattle.raidz_parity.proofs.LaneSums.{put_chunk_next}
use Rattle.raidz_parity.proofs.sums.fill_both.Goals as goal

pub loop-at-preserved : goal.loop-at-preserved
loop-at-preserved c =
    let columns : List (List ℕ) = columns_of c.args.lengths.now c.args.bytes.now in
    record {
      within = omega arith;
      rows = omega (arith, length-put_chunk {A = ℕ}, c.loop-at.invariant.rows);
      rows' = omega (arith, length-put_chunk {A = ℕ}, c.loop-at.invariant.rows');
      first_done = put_chunk_next 0 c.loop-at.at columns c.loop-at.first c.both_sums.result.0
          c.both_sums.ensures.first_count (omega (arith, c.loop-at.invariant.rows)) c.both_sums.ensures.first c.loop-at.invariant.first_done;
      second_done = put_chunk_next 1 c.loop-at.at columns c.loop-at.second c.both_sums.result.1
          c.both_sums.ensures.second_count (omega (arith, c.loop-at.invariant.rows, c.loop-at.invariant.rows')) c.both_sums.ensures.second c.loop-at.invariant.second_done;
    }
