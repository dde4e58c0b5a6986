pub mod Members
pub mod Naming
pub mod Places
pub mod Restoring
pub mod Returned
pub mod Turns
