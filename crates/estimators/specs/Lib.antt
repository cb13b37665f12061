pub mod Answers
pub mod Between
pub mod BookLaws
pub mod Climbs
pub mod Laws
pub mod Points
pub mod Rows
