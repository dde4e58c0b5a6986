pub mod Carrying
pub mod Positions
pub mod Running
