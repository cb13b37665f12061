pub mod Flight
