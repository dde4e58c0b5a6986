pub mod Lives
pub mod Tales
pub mod Lasting
pub mod Without
