pub mod Compared
pub mod Told
