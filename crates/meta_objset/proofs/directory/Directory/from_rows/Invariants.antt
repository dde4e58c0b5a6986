use Rattle.std.proofs.Common.{length}
use Rattle.meta_objset.proofs.Rows.{IsUnderway}
use Rattle.meta_objset.proofs.directory.Directory.from_rows.Given as goal

abbrev pub invariant-loop-rest : goal.invariant-loop-rest
invariant-loop-rest l = IsUnderway l.bytes l.rest l.rows.items

abbrev pub decreases-loop-rest : goal.decreases-loop-rest
decreases-loop-rest l = length l.rest
