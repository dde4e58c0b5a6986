pub mod Stepping
pub mod Courses
pub mod Accepting
pub mod Resting
pub mod Making
pub mod Whole
