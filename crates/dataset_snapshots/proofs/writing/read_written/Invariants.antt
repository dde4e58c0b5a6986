use Rattle.std.proofs.Common.{◌≡◌, ◌≤◌, ◌<◌, [], ℕ, List, Option, None, length, get_or, take}
use Rattle.std.specs.Prelude.{All}
use Rattle.block_pointer.specs.declared.block.Block.{Block}
use Rattle.block_store.specs.Blocks.{Contents}
use Rattle.block_store.specs.Steps.{OnlyReadsBlocks, AnswersTell}
use Rattle.block_store.specs.Store.{Holds}
use Rattle.dataset_groups.specs.Over.{AreOver}
use Rattle.dataset_groups.specs.States.{record_at, set_of}
use Rattle.dataset_groups.specs.Writing.{FitsHead, numbers_of}
use Rattle.objset.specs.Objects.{Object, AreObjects}
use Rattle.dataset_snapshots.specs.Opening.{IsWrittenOf}
use Rattle.dataset_snapshots.specs.Writing.{IsReadFrom, KeepsDatasets, KeepsGroup}
use Rattle.dataset_snapshots.proofs.writing.read_written.Given as goal

-- the heads of the objects so far; the records of the others were not read yet
abbrev pub invariant-loop-object : goal.invariant-loop-object
invariant-loop-object g l = record {
  reads : OnlyReadsBlocks l.fn.store l.store [];
  kept : KeepsDatasets l.fn.datasets l.datasets;
  unread : (j : ℕ) → l.object-index ≤ j → j < length l.objects → record_at l.datasets.changes (get_or l.objects j 0) ≡ None;
  numbers : numbers_of l.read.items ≡ take l.object-index l.objects;
  fits : All FitsHead l.read.items;
  value : (stored : Contents) (there : ℕ → Option Object) (own : List Block) (blocks : ℕ → List Block) → Holds l.fn.store stored
      → AreObjects stored l.birth (set_of l.fn.datasets.changes) there own blocks → AnswersTell l.fn.store l.store []
      → All (IsReadFrom stored l.birth there l.items.writes l.fn.datasets.directory) l.read.items × KeepsGroup there l.fn.datasets l.datasets
      × AreOver there l.datasets.changes;
  found : All (IsWrittenOf l.fn.store.spaces (set_of l.fn.datasets.changes) l.birth l.items.writes l.fn.datasets.directory) l.read.items;
}
