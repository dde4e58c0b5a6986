pub mod Follows
pub mod Rest
