pub mod Stages
pub mod Kinds
pub mod Inputs
pub mod Runs
pub mod Ends
pub mod Once
