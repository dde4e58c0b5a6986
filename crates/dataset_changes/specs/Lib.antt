pub mod Numbers
pub mod Fitting
pub mod States
pub mod Over
pub mod Refused
pub mod Planned
pub mod Results
pub use Rattle.dead_list_objects.specs.Lists
pub use Rattle.dead_list_objects.specs.declared.refusal.Refusal as ListRefusal
