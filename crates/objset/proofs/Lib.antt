pub mod Demands
pub mod Exchanged
pub mod Fits
pub mod Found
pub mod Gone
pub mod Highest
pub mod Kept
pub mod Losses
pub mod Numbers
pub mod Placing
pub mod Refused
pub mod Room
pub mod Shapes
pub mod Trees
pub mod Underway
pub mod WithinLemmas
pub mod YoungerLemmas
pub mod Readings
pub mod ReadRefusals
pub mod Born
mod BlockLists
mod ChangedBlocks
pub mod NodeLosses
pub mod NodeBirths
mod NodeLists
mod Outcomes
mod PutNodes
mod Refusing
mod SlotBytes
pub mod Objects
pub mod NodesWithinLemmas
pub mod YoungerNodes
pub mod Spellings
pub mod NodeReadings
pub mod NodeReadRefusals
