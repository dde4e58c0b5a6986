-- The tables under a root beside the directory and the space maps.
use Rattle.std.specs.Prelude.{ℕ, ◌≡◌, List, Option, Some, None}
use Rattle.block_pointer.specs.declared.block.Block.{Block}
use Rattle.block_store.specs.Blocks.{Contents}
use Rattle.meta_objset.specs.declared.stale_spans.StaleSpan.{StaleSpan}
use Rattle.meta_objset.specs.Reading.{HasConfig, HasStaleSpans}
use Rattle.objset.specs.Objects.{Object}
use Rattle.pool_model.specs.Pools.{PlainPool}
use Rattle.vdev_label.specs.Plain.{PlainVdev}
use Rattle.dataset_snapshots.specs.Pools.{SpellsPool}

-- the stale spans behind a group: those that it brings, or those before where it brings none
abbrev pub stale_after : Option (List StaleSpan) → List StaleSpan → List StaleSpan
stale_after None before = before
stale_after (Some spans) before = spans

-- the configuration, and these stale spans
pub record HasFirstTables (objects : ℕ → Option Object) (vdevs : List PlainVdev) (stale : List StaleSpan) : Type 0 where
  pub config : HasConfig (objects 2) vdevs
  pub spans : HasStaleSpans (objects 3) stale

-- the object is as it was, or has the stale spans that come
abbrev pub LeavesSpans : Option (List StaleSpan) → Option Object → Option Object → Type 0
LeavesSpans None old new = new ≡ old
LeavesSpans (Some spans) old new = HasStaleSpans new spans

-- the configuration is as it was, and so is the table of stale spans, where no others come
pub record KeepsTables (spans : Option (List StaleSpan)) (old new : ℕ → Option Object) : Type 0 where
  pub config : new 2 ≡ old 2
  pub stale : LeavesSpans spans (old 3) (new 3)

-- so it is of the objects under a root and under the next one, which has the stale spans that come
pub record LeavesTables (spans : Option (List StaleSpan)) {stored : Contents} {birth : ℕ} {root : Block} {pool : PlainPool}
    (is : SpellsPool stored birth root pool) {later : Contents} {group : ℕ} {next : Block} {after : PlainPool}
    (then : SpellsPool later group next after) : Type 0 where
  pub objects : KeepsTables spans is.objects then.objects
  pub stale : then.stale ≡ stale_after spans is.stale
