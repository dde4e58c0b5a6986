pub mod Words
pub mod Seal
