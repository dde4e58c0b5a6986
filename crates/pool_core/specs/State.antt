-- What a pool's core shows.
use Rattle.std.specs.Prelude.{List}
use Rattle.model_disk.specs.Joint.{Disks}
use Rattle.meta_objset.specs.declared.stale_spans.StaleSpan.{StaleSpan}
use Rattle.pool_commit.specs.State.{State}
use Rattle.pool_intake.specs.declared.intake.Intake.{Intake}
use Rattle.vdev_label.specs.declared.label.Config.{Config}

-- what a core holds: what its pool accepts, and what it has committed and plans
pub record CoreState : Type 0 where
  pub intake : Intake  -- what the pool accepts
  pub commit : State  -- what is committed, and being committed

-- its disks, with the record of all calls on them
abbrev pub disks_of : CoreState → Disks
disks_of s = s.commit.store.disks

-- the configuration that it keeps
abbrev pub config_of : CoreState → Config
config_of s = s.commit.kept.last.config.value

-- the stale spans that it knows
abbrev pub spans_of : CoreState → List StaleSpan
spans_of s = s.commit.kept.last.spans.value
