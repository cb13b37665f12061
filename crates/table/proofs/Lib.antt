pub mod Again
pub mod Contents
pub mod Finding
pub mod Halving
pub mod Keeping
pub mod Rows
