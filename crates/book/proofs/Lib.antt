pub mod Fronts
pub mod Halving
pub mod Keyed
pub mod Passing
pub mod Promised
pub mod Promises
pub mod Refused
pub mod Searching
