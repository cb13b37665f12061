pub mod Climbing
pub mod Lines
