pub mod Seams
pub mod Fronts
pub mod Ranks
pub mod Scans
