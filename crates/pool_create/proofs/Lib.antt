pub mod Grown
pub mod Fitting
pub mod Stamps
pub mod Causes
pub mod Known
pub mod Stamped
pub mod FirstGroup
pub mod Labels
pub mod Showing
pub mod Alone
pub mod Backs
pub mod Stages
pub use Rattle.pool_open.proofs.SnapshotsLosses
pub use Rattle.pool_open.proofs.SnapshotsReadings
pub use Rattle.pool_open.proofs.SnapshotsStanding
pub use Rattle.pool_open.proofs.CommitDirectories
pub use Rattle.pool_open.proofs.CommitLabels
pub use Rattle.pool_open.proofs.CommitMapping
pub use Rattle.pool_open.proofs.CommitPlanning
pub use Rattle.pool_open.proofs.CommitProgressing
pub use Rattle.pool_open.proofs.CorePhases
pub use Rattle.pool_open.proofs.CoreRunning
pub use Rattle.pool_open.proofs.CoreUntouched
pub use Rattle.pool_open.proofs.Holding as OpenHolding
pub use Rattle.pool_open.proofs.Knowing as OpenKnowing
pub use Rattle.pool_open.proofs.Once as OpenOnce
pub use Rattle.pool_open.proofs.Retried as OpenRetried
pub use Rattle.pool_open.proofs.Stops as OpenStops
pub use Rattle.pool_open.proofs.Through as OpenThrough
