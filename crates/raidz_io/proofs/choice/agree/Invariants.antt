use Rattle.std.proofs.Common.{ℕ, ◌≡◌, ◌<◌, List, Some, Contains, take, drop, sum}
use Rattle.std.specs.List.{slice_get}
use Rattle.raidz_parity.specs.Layout.{columns_of}
use Rattle.raidz_io.proofs.choice.agree.Given as goal

abbrev pub invariant-loop-index : goal.invariant-loop-index
invariant-loop-index l = record {
  whole_rest : l.whole_rest ≡ drop (sum (take l.index l.sizes)) l.fn.whole;
  bytes_rest : l.bytes_rest ≡ drop (sum (take l.index l.sizes)) l.fn.bytes;
  same : (k : ℕ) (part : List ℕ) → k < l.index → ¬ Contains l.wrong k → slice_get (columns_of l.sizes l.fn.whole) k ≡ Some part
      → slice_get (columns_of l.sizes l.fn.bytes) k ≡ Some part;
}
