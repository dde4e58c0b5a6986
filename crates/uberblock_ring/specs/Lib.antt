pub mod Uberblock
pub mod Slot
pub mod Place
pub mod Ranking
pub mod Reads
