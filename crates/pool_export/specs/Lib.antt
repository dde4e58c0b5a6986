pub mod Absence
pub mod Faults
pub mod Taken
pub mod Writes
pub mod Reads
pub mod Moments
pub mod Refusals
