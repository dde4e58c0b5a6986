pub mod Levels
pub mod Node
pub mod Dnode
pub mod Indirect
pub mod ObjectSet
