pub mod TextLemmas
pub mod Loops
pub mod Views
pub mod Fields
pub mod Laws
pub mod Appends
pub mod Fronts
pub mod Finding
