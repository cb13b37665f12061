pub mod Back
pub mod Drafting
pub mod Plain
pub mod Values
