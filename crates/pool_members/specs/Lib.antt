pub mod Arranged
pub mod HandedIn
pub mod Namers
