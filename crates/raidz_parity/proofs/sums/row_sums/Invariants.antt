use Rattle.std.proofs.Common.{◌≤◌, length, sum, drop}
use Rattle.raidz_parity.proofs.LaneSums.{IsSummed}
use Rattle.raidz_parity.proofs.sums.row_sums.Given as goal

abbrev pub invariant-loop-length : goal.invariant-loop-length
invariant-loop-length l = record {
  within : sum (drop l.length-index l.lengths) ≤ length l.rest;
  sums : IsSummed l.row l.at l.length-index l.lengths l.fn.bytes l.rest l.sums;
}
