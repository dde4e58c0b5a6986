pub mod Maps
pub mod Updates
pub mod Plans
pub mod Numbers
pub mod Refused
pub mod Loads
pub mod Beside
pub mod Reached
