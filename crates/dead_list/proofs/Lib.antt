mod Distinct
mod Parts
pub mod Updates
pub mod Climbing
mod Fitting
mod Heads
mod Making
mod Writing
mod Taking
mod Removing
pub mod Steps
mod WholeRuns
mod Reaching
pub mod RowLists
