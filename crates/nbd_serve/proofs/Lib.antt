pub mod Consuming
pub mod Dealing
pub mod Leading
pub mod Performing
pub mod Sessions
pub mod Stepping
