pub mod Ends
pub mod Extended
pub mod Found
pub mod Made
pub mod Rows
pub mod Shape
pub mod Tables
