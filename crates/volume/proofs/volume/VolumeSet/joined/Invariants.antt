use Rattle.std.proofs.Common.{◌≡◌, ◌+◌, ◌-◌, ◌/◌, ◌≤◌, List, ℕ, length}
use Rattle.std.specs.List.{AllZip, range_with_len}
use Rattle.std.specs.Prelude.{slice_range}
use Rattle.volume.specs.Volume.{part}
use Rattle.volume.proofs.volume.VolumeSet.joined.Given as goal

-- a part of the range was taken
abbrev pub invariant-parts : goal.invariant-parts
invariant-parts l = record {
  within : length l.read.items ≤ l.len;
  value : (array : List ℕ) → length array ≡ l.self.size
      → AllZip (λ id bytes. bytes.items ≡ part array l.self.block_size id) (range_with_len (l.offset / l.self.block_size) (length l.blocks)) l.blocks
      → l.read.items ≡ slice_range array l.offset (l.offset + length l.read.items);
}

abbrev pub decreases-parts : goal.decreases-parts
decreases-parts l = l.len - length l.read.items
