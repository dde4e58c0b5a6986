pub mod Causes
mod Onward
