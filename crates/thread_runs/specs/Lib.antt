pub mod Asking
pub mod Dealing
pub mod Printing
