pub mod Apps
pub mod Getters
pub mod FileLists
pub mod Passing
pub mod Found
pub mod Printing
pub mod Lines
pub mod PlainLines
