pub mod Words
pub mod Tabled
pub mod Causes
pub mod Values
pub mod Reading
pub mod Tables
