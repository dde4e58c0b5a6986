-- Parity that is made before it is written.
use Rattle.std.specs.Prelude.{◌≡◌, List, Some, slice_get, All}
use Rattle.raidz_io.specs.Writes.{ColumnWrite}
use Rattle.disk_set.specs.declared.rows.MadeRow.{MadeRow}

-- the bytes are those of the due write that the row names
abbrev pub IsRowOf : List ColumnWrite → MadeRow → Type 0
IsRowOf due row = (write : ColumnWrite) → slice_get due row.place ≡ Some write → row.bytes.items ≡ write.bytes

-- each row's bytes are
abbrev pub AreRowsOf : List ColumnWrite → List MadeRow → Type 0
AreRowsOf due rows = All (IsRowOf due) rows
