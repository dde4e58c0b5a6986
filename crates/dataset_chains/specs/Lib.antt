pub mod Chains
pub mod Making
pub mod Refused
pub mod Standing
pub mod Passing
pub mod Touched
pub mod Laws
pub use Rattle.dataset_changes.specs.Numbers
pub use Rattle.dataset_changes.specs.Over
pub use Rattle.dataset_changes.specs.Refused as ChangesRefused
pub use Rattle.dataset_changes.specs.Results
pub use Rattle.dataset_changes.specs.States
pub use Rattle.dataset_changes.specs.declared.changes.DatasetChanges
pub use Rattle.dataset_changes.specs.declared.states.ListState
pub use Rattle.dataset_changes.specs.declared.states.RecordState
pub use Rattle.dataset_changes.specs.Lists
pub use Rattle.dataset_changes.specs.ListRefusal
