pub mod NoSpans
pub mod Spans
pub mod Steps
pub mod Tables
