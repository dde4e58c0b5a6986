pub mod Items
pub mod Positions
pub mod Carries
pub mod Calls
