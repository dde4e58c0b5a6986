pub mod Causes
pub mod Maps
pub mod Refused
