pub mod Faults
pub mod Blank
pub mod Labels
