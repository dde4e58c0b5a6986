pub mod Asking
pub mod Guids
pub mod Opening
pub mod Telling
