pub mod Grammar
pub mod Hexadecimal
pub mod Keywords
pub mod Reading
pub mod Replies
pub mod Runs
pub mod Spelling
pub mod Steps
