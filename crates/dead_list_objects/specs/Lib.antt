pub mod Causes
pub mod Lists
pub mod Refused
