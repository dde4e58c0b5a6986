-- Where a write's bytes are.
use Rattle.std.specs.Prelude.{ℕ, List}
use Rattle.raidz_io.specs.declared.column_write.ColumnBytes.{ColumnBytes}
use Rattle.raidz_io.specs.declared.column_write.ColumnBytes.TheVariants.{Part, Row}

-- the bytes of a column
abbrev pub bytes_of : ColumnBytes → List ℕ
bytes_of (Part part) = part
bytes_of (Row row) = row
