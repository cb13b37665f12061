pub mod Changing
pub mod Locating
pub mod Order
