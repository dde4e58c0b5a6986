mod Adding
mod Allowed
mod Allows
mod Areas
mod Children
mod Configs
mod Found
pub mod Fronts
mod GuidSums
mod Labels
mod Lookups
mod Numbered
mod ReadLabels
pub mod Rooms
mod Sizes
pub mod Unique
mod Vdevs
mod WriteLabels
