pub mod Lengths
pub mod Due
pub mod Sessions
pub mod Made
pub mod Changes
