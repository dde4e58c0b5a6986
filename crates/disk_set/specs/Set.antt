-- What a `DiskSet` shows.
use Rattle.std.specs.Prelude.{ℕ, ◌≡◌, ◌≤◌, Bool, List, length, slice_index, Contains}
use Rattle.model_disk.specs.Joint.{Disks}
use Rattle.raidz_io.specs.Writes.{ColumnWrite}
use Rattle.raidz_io.specs.Stands.{IsWithin}
use Rattle.disk_set.specs.Outs.{Spans}

-- the disks of a pool with the calls on them, those that are out, the groups whose blocks they may lack, and the writes that are due
pub record PoolDisks : Type 0 where
  pub disks : Disks
  pub out : List Bool  -- for each disk, whether it is out
  pub spans : Spans
  pub due : List ColumnWrite  -- the writes of the plan that are to be made, in order

-- each disk has a mark and a span, which begins no later than the plan's group, and what is due lies on the disks
pub record ArePoolDisks (set : PoolDisks) : Type 0 where
  pub marks : length set.out ≡ length set.disks.starts
  pub spans : length set.spans.since ≡ length set.disks.starts
  pub reached : (disk : ℕ) → slice_index set.spans.since disk ≤ set.spans.group
  pub due : (write : ColumnWrite) → Contains set.due write → IsWithin set.disks.starts write
