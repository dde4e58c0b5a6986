mod Causes
pub mod Maps
pub mod Overs
pub mod Joining
pub mod Steps
pub mod FittingRecords
pub mod Serving
pub mod Emptying
pub mod Ordered
pub mod Giving
