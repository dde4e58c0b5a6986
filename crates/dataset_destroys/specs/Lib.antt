pub mod Younger
pub mod Refused
pub mod Steps
pub mod Places
pub mod HeadPlaces
pub mod Destroying
pub mod Touched
pub mod Laws
pub use Rattle.dataset_chains.specs.Chains
pub use Rattle.dataset_chains.specs.Making as ChainMaking
pub use Rattle.dataset_chains.specs.Refused as ChainRefused
pub use Rattle.dataset_chains.specs.Standing as ChainStanding
pub use Rattle.dataset_chains.specs.Touched as ChainTouched
pub use Rattle.dataset_chains.specs.Numbers
pub use Rattle.dataset_chains.specs.Over
pub use Rattle.dataset_chains.specs.ChangesRefused
pub use Rattle.dataset_chains.specs.Results
pub use Rattle.dataset_chains.specs.States
pub use Rattle.dataset_chains.specs.DatasetChanges
pub use Rattle.dataset_chains.specs.ListState
pub use Rattle.dataset_chains.specs.RecordState
pub use Rattle.dataset_chains.specs.Lists
pub use Rattle.dataset_chains.specs.ListRefusal
