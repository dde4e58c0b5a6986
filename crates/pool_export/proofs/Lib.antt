mod Absence
pub mod Best
mod Scans
mod Copies
mod Halves
mod Moments
mod Exports
