pub mod Marks
pub mod Summing
