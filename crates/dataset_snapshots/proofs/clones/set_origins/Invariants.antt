use Rattle.std.proofs.Common.{List, All, take}
use Rattle.pool_model.specs.Pools.{PlainPool}
use Rattle.volume_rules.specs.Index.{Knows}
use Rattle.dataset_snapshots.specs.declared.chaining.RowRecord.{RowRecord}
use Rattle.dataset_snapshots.specs.Chaining.{IsIndexOf}
use Rattle.dataset_snapshots.proofs.ToldOrigins.{HasNoOrigin, KnowsTold}
use Rattle.dataset_snapshots.proofs.clones.set_origins.Given as goal

-- the origins are those that the rows so far tell
abbrev pub invariant-loop-row : goal.invariant-loop-row
invariant-loop-row l =
    (all : List RowRecord) (pool : PlainPool) → IsIndexOf all l.records → All HasNoOrigin pool.volumes → Knows l.fn.names pool → KnowsTold (take l.row-index l.rows) l.rows all pool.volumes l.names
