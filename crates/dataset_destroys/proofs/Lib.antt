pub mod BlocksOnce
pub mod Refusing
pub mod YoungerBlocks
pub mod Numbers
pub mod Chains
pub mod SnapshotGone
pub mod HeadGone
pub mod ReadSteps
pub mod Finding
pub mod RecordSteps
pub mod GivenOver
pub mod Destroyed
pub mod HeadFinding
pub mod HeadDestroyed
pub mod EachKind
pub mod Touching
pub mod LostTrees
pub mod LostChains
pub mod Losses
pub use Rattle.dataset_chains.proofs.Chained as ChainChained
pub use Rattle.dataset_chains.proofs.Frames as ChainFrames
pub use Rattle.dataset_chains.proofs.ReadRecords as ChainReadRecords
pub use Rattle.dataset_chains.proofs.RecordsNow as ChainRecordsNow
pub use Rattle.dataset_chains.proofs.SameLists as ChainSameLists
pub use Rattle.dataset_chains.proofs.Stands as ChainStands
pub use Rattle.dataset_chains.proofs.Staying as ChainStaying
pub use Rattle.dataset_chains.proofs.Touching as ChainTouching
