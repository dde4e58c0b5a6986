use Rattle.std.proofs.Common.{◌≡◌, ◌+◌, length, take, drop, sum}
use Rattle.raidz_parity.specs.Layout.{columns_of}
use Rattle.raidz_io.specs.Places.{sizes_of}
use Rattle.raidz_io.specs.Stands.{AreWritesOf}
use Rattle.raidz_io.proofs.writes.add_data_writes.Given as goal

abbrev pub invariant-loop-column : goal.invariant-loop-column
invariant-loop-column l = record {
  count : length l.writes.items ≡ length l.fn.writes.items + l.column-index;
  before : take (length l.fn.writes.items) l.writes.items ≡ l.fn.writes.items;
  from : l.from ≡ sum (sizes_of (take l.column-index l.layout));
  made : AreWritesOf l.vdev l.layout (columns_of (sizes_of l.layout) l.block.value.items) (drop (length l.fn.writes.items) l.writes.items);
}
