pub mod Unread
pub mod JoinedRows
