pub mod Bytes
pub mod Check
pub mod Contents
pub mod Items
pub mod Parts
pub mod Promise
pub mod Reading
pub mod Sections
