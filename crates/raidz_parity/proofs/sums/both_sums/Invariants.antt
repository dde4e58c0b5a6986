use Rattle.std.proofs.Common.{◌≤◌, length, sum, drop}
use Rattle.raidz_parity.proofs.LaneSums.{IsSummed}
use Rattle.raidz_parity.proofs.sums.both_sums.Given as goal

abbrev pub invariant-loop-length : goal.invariant-loop-length
invariant-loop-length l = record {
  within : sum (drop l.length-index l.lengths) ≤ length l.rest;
  first : IsSummed 0 l.at l.length-index l.lengths l.fn.bytes l.rest l.first;
  second : IsSummed 1 l.at l.length-index l.lengths l.fn.bytes l.rest l.second;
}
