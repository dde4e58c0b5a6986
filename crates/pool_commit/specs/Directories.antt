-- What is kept in memory beside a root: its directory, its table of stale spans, and the configuration.
use Rattle.std.specs.Prelude.{ℕ, ◌≡◌, List, [], Option, Some, None}
use Rattle.block_pointer.specs.declared.block.Block.{Block}
use Rattle.block_store.specs.Blocks.{Contents}
use Rattle.dataset_snapshots.specs.Pools.{SpellsPool}
use Rattle.meta_objset.specs.Reading.{HasStaleSpans}
use Rattle.meta_objset.specs.declared.directory.DirectoryRow.{DirectoryRow}
use Rattle.meta_objset.specs.declared.stale_spans.StaleSpan.{StaleSpan}
use Rattle.pool_model.specs.Pools.{PlainPool}
use Rattle.vdev_label.specs.Plain.{PlainVdev}
use Rattle.pool_commit.specs.Configs.{HasConfigAs}

-- The rows are those that the root spells the pool by, its table of the configuration has one that is named as this, and its table of stale
-- spans has these; with no root there are no rows and no spans.
abbrev pub SpellsBy : Contents → ℕ → Option Block → PlainPool → List DirectoryRow → List PlainVdev → List StaleSpan → Type 0
SpellsBy stored group (Some root) pool rows vdevs table =
    (is : SpellsPool stored group root pool) × (rows ≡ is.rows) × HasConfigAs (is.objects 2) vdevs × HasStaleSpans (is.objects 3) table
SpellsBy stored group None pool rows vdevs table = (rows ≡ []) × (table ≡ [])
