pub mod Fields
pub mod Forms
pub mod Kept
pub mod Laws
pub mod Reading
pub mod Spelling
pub mod TextAlone
pub mod Tokens
