pub mod Ordered
pub mod Rounding
pub mod Searched
