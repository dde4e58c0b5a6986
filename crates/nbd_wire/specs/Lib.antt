pub mod Handshake
pub mod Options
pub mod Replies
pub mod Requests
