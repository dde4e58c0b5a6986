use Rattle.std.proofs.Common.{refl}
use Rattle.dataset_snapshots.proofs.CloneRows.{row_index_next}
use Rattle.dataset_snapshots.proofs.clones.rows_by_object.Goals as goal

pub loop-row-preserved : goal.loop-row-preserved
loop-row-preserved c = row_index_next c.args.rows.now c.loop-row.row-index _ _ c.loop-row.index c.insert.new.self c.loop-row-test.true refl c.in_ok-insert.ensures.updates.0 c.loop-row.invariant
