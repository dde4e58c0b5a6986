pub mod BlockData
mod BlocksOnce
mod Changed
mod Covering
pub mod Demanding
mod Dividing
pub mod Ids
mod Laying
pub mod Made
pub mod Judging
pub mod Losses
pub mod Putting
pub mod Needed
pub mod RangeIds
mod Ranges
pub mod Readings
pub mod ReadRefusals
pub mod Refusing
pub mod Sizes
pub mod Standing
mod Untouched
mod YoungerBlocks
