pub mod LevelLemmas
pub mod Nodes
pub mod PointerLists
pub mod Seams
