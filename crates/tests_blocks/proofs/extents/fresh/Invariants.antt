use Rattle.std.proofs.Common.{ℕ, ◌≡◌, ◌<◌, length}
use Rattle.model_disk.specs.Joint.{bytes_of}
use Rattle.tests_blocks.proofs.extents.fresh.Given as goal

abbrev pub invariant-loop-which : goal.invariant-loop-which
invariant-loop-which l = record {
  count : length l.disks.starts ≡ l.which;
  sizes : (k : ℕ) → k < l.which → length (bytes_of l.disks.starts k) ≡ 0x401000;
}
