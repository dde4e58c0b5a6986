pub mod Planning
pub mod FirstGroup
pub mod Alone
pub mod ReadingBack
pub mod Creating
pub mod Stages
pub mod Creates
pub use Rattle.pool_open.specs.Contents
pub use Rattle.pool_open.specs.SnapshotsFinding
pub use Rattle.pool_open.specs.Mapped
pub use Rattle.pool_open.specs.Pools
pub use Rattle.pool_open.specs.Reach
pub use Rattle.pool_open.specs.RootContents
pub use Rattle.pool_open.specs.Backs
pub use Rattle.pool_open.specs.Calls
pub use Rattle.pool_open.specs.Config
pub use Rattle.pool_open.specs.Directories
pub use Rattle.pool_open.specs.CommitMaking
pub use Rattle.pool_open.specs.Progress
pub use Rattle.pool_open.specs.Reopened
pub use Rattle.pool_open.specs.Slots
pub use Rattle.pool_open.specs.Space
pub use Rattle.pool_open.specs.Spans
pub use Rattle.pool_open.specs.Started
pub use Rattle.pool_open.specs.CommitAbsence
pub use Rattle.pool_open.specs.CommitState
pub use Rattle.pool_open.specs.CommitWriting
pub use Rattle.pool_open.specs.Kept
pub use Rattle.pool_open.specs.KeptGroup
pub use Rattle.pool_open.specs.CommitPlanned
pub use Rattle.pool_open.specs.Stamp
pub use Rattle.pool_open.specs.Moves
pub use Rattle.pool_open.specs.Represents
pub use Rattle.pool_open.specs.CoreRuns
pub use Rattle.pool_open.specs.CoreState
pub use Rattle.pool_open.specs.CoreStateOf
pub use Rattle.pool_open.specs.CoreSteps
pub use Rattle.pool_open.specs.Loads
pub use Rattle.pool_open.specs.Maps
pub use Rattle.pool_open.specs.FreeMetaslab
pub use Rattle.pool_open.specs.Causes as OpenCauses
pub use Rattle.pool_open.specs.Children
pub use Rattle.pool_open.specs.Exporting as OpenExporting
pub use Rattle.pool_open.specs.Finding as OpenFinding
pub use Rattle.pool_open.specs.Held
pub use Rattle.pool_open.specs.Opening as OpenOpening
pub use Rattle.pool_open.specs.Opens
pub use Rattle.pool_open.specs.Retried
pub use Rattle.pool_open.specs.Roots
pub use Rattle.pool_open.specs.Shapes
pub use Rattle.pool_open.specs.Stops as OpenStops
pub use Rattle.pool_open.specs.Trees
pub use Rattle.pool_open.specs.Words
pub use Rattle.pool_format.specs.declared.labeling.PoolIdentity
pub use Rattle.pool_open.specs.declared.handed_in.NotOpened
pub use Rattle.pool_open.specs.declared.handed_in.OpenedFrom
pub use Rattle.pool_open.specs.declared.refusal.Refusal as OpenRefusal
pub use Rattle.pool_open.specs.VolumeShapes
pub use Rattle.pool_open.specs.NamedShape
pub use Rattle.pool_open.specs.VolumeShape
