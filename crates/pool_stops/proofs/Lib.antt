pub mod Filled
pub mod Standing
pub mod Trees
pub mod Holding
pub mod Phases
pub mod Backed
pub mod Whole
pub mod Kept
pub mod Steps
pub mod Commits
pub mod Runs
pub mod Reopening
pub mod Created
pub mod Counting
pub mod FreePlaces
pub mod Lost
pub mod OwnMaps
pub mod Unhindered
pub mod Labels
pub mod LabelStops
pub mod OneConfigs
pub mod WholeStops
mod Lists
mod Shapes
mod Handed
mod Children
mod Scanned
mod FoundDisks
mod OwnHolding
mod RunningOn
mod StoppedDisks
mod Arranging
mod HandedOn
mod OwnReopening
mod Enough
mod Fitting
mod Begun
mod Absent
