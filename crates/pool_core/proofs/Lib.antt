pub mod GoingOut
pub mod Fronting
pub mod Phases
pub mod ReadSteps
pub mod Running
pub mod Moving
pub mod Sharing
pub mod Telling
pub mod Untouched
pub use Rattle.pool_commit.proofs.SnapshotsLosses
pub use Rattle.pool_commit.proofs.SnapshotsReadings
pub use Rattle.pool_commit.proofs.SnapshotsStanding
pub use Rattle.pool_commit.proofs.Directories as CommitDirectories
pub use Rattle.pool_commit.proofs.Disks as CommitDisks
pub use Rattle.pool_commit.proofs.Growing as CommitGrowing
pub use Rattle.pool_commit.proofs.Labels as CommitLabels
pub use Rattle.pool_commit.proofs.Made as CommitMade
pub use Rattle.pool_commit.proofs.Mapping as CommitMapping
pub use Rattle.pool_commit.proofs.Planning as CommitPlanning
pub use Rattle.pool_commit.proofs.Progressing as CommitProgressing
pub use Rattle.pool_commit.proofs.MapsReadSets
