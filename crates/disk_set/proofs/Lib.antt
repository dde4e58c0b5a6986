pub mod Calls
pub mod ComingBack
pub mod Missed
pub mod Outs
pub mod Spans
