pub mod State
pub mod StateOf
pub mod Represents
pub mod Steps
pub mod Runs
pub mod Reading
pub mod Moves
pub mod Exporting
pub mod Linked
pub mod Parts
pub use Rattle.pool_commit.specs.Contents
pub use Rattle.pool_commit.specs.SnapshotsFinding
pub use Rattle.pool_commit.specs.Mapped
pub use Rattle.pool_commit.specs.Pools
pub use Rattle.pool_commit.specs.Reach
pub use Rattle.pool_commit.specs.RootContents
pub use Rattle.pool_commit.specs.Absence as CommitAbsence
pub use Rattle.pool_commit.specs.Backs
pub use Rattle.pool_commit.specs.Calls
pub use Rattle.pool_commit.specs.Config
pub use Rattle.pool_commit.specs.Configs
pub use Rattle.pool_commit.specs.Directories
pub use Rattle.pool_commit.specs.Last
pub use Rattle.pool_commit.specs.Making as CommitMaking
pub use Rattle.pool_commit.specs.Progress
pub use Rattle.pool_commit.specs.Reopened
pub use Rattle.pool_commit.specs.Slots
pub use Rattle.pool_commit.specs.Space
pub use Rattle.pool_commit.specs.Spans
pub use Rattle.pool_commit.specs.Started
pub use Rattle.pool_commit.specs.State as CommitState
pub use Rattle.pool_commit.specs.Writing as CommitWriting
pub use Rattle.pool_commit.specs.declared.kept.Kept
pub use Rattle.pool_commit.specs.declared.kept.KeptGroup
pub use Rattle.pool_commit.specs.declared.kept.Planned as CommitPlanned
pub use Rattle.pool_commit.specs.declared.stamp.Stamp
pub use Rattle.pool_commit.specs.Loads
pub use Rattle.pool_commit.specs.Maps
pub use Rattle.pool_commit.specs.FreeMetaslab
pub use Rattle.volume_rules.specs.Shapes as VolumeShapes
pub use Rattle.volume_rules.specs.declared.shape.NamedShape
pub use Rattle.volume_rules.specs.declared.shape.VolumeShape
