pub mod Classes
pub mod Totals
pub mod Verdicts
