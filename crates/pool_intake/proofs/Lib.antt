pub mod Judging
pub mod Resting
pub mod Stepping
