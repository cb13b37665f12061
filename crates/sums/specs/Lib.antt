pub mod Amounts
pub mod Changes
pub mod Laws
