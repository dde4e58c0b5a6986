pub mod Sizes
pub mod Scans
pub mod Choices
pub mod Ranks
