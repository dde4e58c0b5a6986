pub mod Plain
pub mod Grammar
pub mod Reading
pub mod View
pub mod Find
