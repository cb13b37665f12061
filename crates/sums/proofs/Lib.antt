pub mod Adding
pub mod Balance
pub mod Places
pub mod Reading
pub mod Swapping
pub mod Undoing
