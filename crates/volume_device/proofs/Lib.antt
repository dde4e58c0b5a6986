pub mod Nows
pub mod Pieces
pub mod Committing
pub mod Flushing
pub mod Writing
pub mod Holding
pub mod Looping
pub mod Reading
