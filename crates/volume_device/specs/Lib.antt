pub mod Contents
pub mod Devices
pub mod Causes
pub mod Commits
