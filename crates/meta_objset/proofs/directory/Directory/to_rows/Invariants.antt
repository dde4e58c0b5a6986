use Rattle.std.proofs.Common.{◌≡◌, take}
use Rattle.meta_objset.specs.Directory.{rows_bytes}
use Rattle.meta_objset.proofs.directory.Directory.to_rows.Given as goal

abbrev pub invariant-loop-row : goal.invariant-loop-row
invariant-loop-row l = l.bytes.items ≡ rows_bytes (take l.row-index l.row-items)
