pub mod GoingOut
pub mod Accounted
pub mod Accounting
pub mod Backing
pub mod Directories
pub mod Parted
pub mod Disks
pub mod Keeping
pub mod Labels
pub mod Made
pub mod Growing
pub mod Mapping
pub mod SlotWrites
pub mod PlanMaps
pub mod Planning
pub mod Progressing
pub mod Spellings
pub mod Phasing
pub mod Holding
pub mod Reaching
pub mod ReadCauses
pub mod ReadingAt
pub mod Starting
pub mod Tolerating
pub mod Unread
pub mod Refusing
pub mod Reopened
pub mod Suspending
pub mod Writing
pub use Rattle.dataset_snapshots.proofs.Losses as SnapshotsLosses
pub use Rattle.dataset_snapshots.proofs.Readings as SnapshotsReadings
pub use Rattle.dataset_snapshots.proofs.Standing as SnapshotsStanding
pub use Rattle.dataset_snapshots.proofs.MapsReadSets
