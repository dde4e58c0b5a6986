pub mod Among
pub mod Places
pub mod Same
pub mod OneDisk
pub mod Phases
pub mod Used
pub mod Results
pub mod Failing
pub mod ReadRuns
pub mod Writing
pub mod FreeWrites
pub mod SlotPhases
pub mod NextUberblock
pub mod Unflushed
pub mod PhaseSteps
mod Refusing
pub mod CommitPhases
pub mod ClaimPhases
pub mod Reading
pub mod Finding
pub mod BackReads
pub mod OpenSteps
pub mod Opened
mod SurveySteps
mod Choices
pub mod LabelAreas
pub mod LabelScans
mod LabelWrites
mod Renumbered
pub mod LabelPlans
mod LabelPhases
mod FourConfigs
mod ConfigLabels
mod ClaimSteps
mod Absence
