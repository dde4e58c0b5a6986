pub mod Metered
pub mod MeteredDisk
pub mod Reads
