pub mod Checking
pub mod Columns
pub mod Copies
pub mod Findings
pub mod Laws
pub mod Looking
pub mod Mending
