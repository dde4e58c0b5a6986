pub mod Lists
pub mod Claiming
pub mod Holding
pub mod Knowing
pub mod Layouts
pub mod Once
pub mod Reading
pub mod Through
pub mod Representing
pub mod Trees
pub mod Stops
pub mod Counting
pub mod Outs
pub mod Flushing
pub mod FailedCalls
pub mod Unwritten
pub mod Stages
pub mod Retried
pub mod ExportStops
pub mod PutAway
pub mod Anew
pub use Rattle.pool_core.proofs.SnapshotsLosses
pub use Rattle.pool_core.proofs.SnapshotsReadings
pub use Rattle.pool_core.proofs.SnapshotsStanding
pub use Rattle.pool_core.proofs.CommitDirectories
pub use Rattle.pool_core.proofs.CommitGrowing
pub use Rattle.pool_core.proofs.CommitLabels
pub use Rattle.pool_core.proofs.CommitMade
pub use Rattle.pool_core.proofs.CommitMapping
pub use Rattle.pool_core.proofs.CommitPlanning
pub use Rattle.pool_core.proofs.CommitProgressing
pub use Rattle.pool_core.proofs.Phases as CorePhases
pub use Rattle.pool_core.proofs.Running as CoreRunning
pub use Rattle.pool_core.proofs.Running as CoreRunning
pub use Rattle.pool_core.proofs.Telling as CoreTelling
pub use Rattle.pool_core.proofs.Untouched as CoreUntouched
