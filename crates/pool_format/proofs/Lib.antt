pub mod Failures
pub mod Blanks
pub mod Writes
pub mod Words
