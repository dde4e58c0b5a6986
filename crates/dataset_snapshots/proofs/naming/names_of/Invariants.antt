use Rattle.std.proofs.Common.{ℕ, List, Option, take}
use Rattle.std.specs.Prelude.{All}
use Rattle.std.specs.List.{AllZip}
use Rattle.block_pointer.specs.declared.block.Block.{Block}
use Rattle.block_store.specs.Blocks.{Contents}
use Rattle.block_store.specs.Steps.{OnlyReadsBlocks, AnswersTell}
use Rattle.block_store.specs.Store.{Holds}
use Rattle.meta_objset.specs.Datasets.{HasRecord}
use Rattle.objset.specs.Objects.{Object, AreObjects}
use Rattle.pool_model.specs.declared.volume.PlainVolume.{PlainVolume}
use Rattle.volume_rules.specs.Index.{Knows}
use Rattle.dataset_snapshots.specs.declared.chaining.RowRecord.{RowRecord}
use Rattle.dataset_snapshots.specs.Contents.{IsRowRecord}
use Rattle.dataset_snapshots.specs.Pools.{SpellsDataset}
use Rattle.dataset_snapshots.proofs.NamedRows.{AreBareNamed}
use Rattle.dataset_snapshots.proofs.ToldOrigins.{HasNoOrigin}
use Rattle.dataset_snapshots.proofs.naming.names_of.Given as goal

-- the names of the volumes of the rows so far, with no origins, and the records of these
abbrev pub invariant-loop-row : goal.invariant-loop-row
invariant-loop-row g l = record {
  reads : OnlyReadsBlocks l.fn.store l.store l.missing;
  named : AreBareNamed l.fn.store.spaces l.set l.birth (take l.row-index l.rows) l.names;
  found : AllZip (IsRowRecord l.fn.store.spaces l.set l.birth) (take l.row-index l.rows) l.records.items;
  value : (stored : Contents) (objects : ℕ → Option Object) (own : List Block) (blocks : ℕ → List Block) (volumes : List PlainVolume) → Holds l.fn.store stored
      → AreObjects stored l.birth l.set objects own blocks → AllZip (SpellsDataset stored l.birth objects) l.rows volumes → All HasNoOrigin volumes → AnswersTell l.fn.store l.store l.missing
      → Knows l.names (record { volumes = take l.row-index volumes }) × All (λ (one : RowRecord). HasRecord (objects one.object) one.record) l.records.items;
}
