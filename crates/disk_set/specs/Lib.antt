pub mod Behind
pub mod Making
pub mod Outs
pub mod Set
