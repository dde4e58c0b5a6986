pub mod Blocks
pub mod Datasets
pub mod Sound
pub mod Operations
pub mod Runs
pub mod Rows
pub mod Reach
