pub mod Casting
pub mod Printed
