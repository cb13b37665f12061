pub mod Again
pub mod Inverse
pub mod Kept
pub mod Numbers
pub mod Spelt
