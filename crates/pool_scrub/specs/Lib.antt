pub mod Counting
pub mod Healing
pub mod Laws
pub mod Scrubbing
pub mod Walking
