use Rattle.std.proofs.Common.{◌≡◌, length, slice_index}
use Rattle.raidz_parity.specs.Layout.{columns_of}
use Rattle.raidz_io.specs.Stands.{AreWritesOf}
use Rattle.raidz_io.specs.Writes.{rows_of}
use Rattle.raidz_io.proofs.writes.parity_writes.Given as goal

abbrev pub invariant-loop-column : goal.invariant-loop-column
invariant-loop-column l = record {
  row : l.row ≡ l.column-index;
  count : length l.writes.items ≡ l.column-index;
  made : AreWritesOf l.vdev l.layout (rows_of (length l.layout) (columns_of l.lengths l.block.value.items) (slice_index l.lengths 0)) l.writes.items;
}
